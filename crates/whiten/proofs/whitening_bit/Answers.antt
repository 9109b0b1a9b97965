-- `whiten::whitening_bit` meets its contract: the table is the list that `after` computes from nine ones, whose entries are the
-- bits of the sequence (`entry`). Assumes nothing.
use mathlib.Core.Bool.{xor}
use mathlib.Core.Path.{refl}
use Rattle.whiten.specs.Whiten.{before, next}
use Rattle.whiten.proofs.Entries.{after, entry}
use Rattle.whiten.proofs.whitening_bit.Goals as goal

pub returns : goal.returns
unfolding after before next xor
returns c = entry c.args.k refl
