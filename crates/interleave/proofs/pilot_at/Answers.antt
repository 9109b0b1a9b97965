-- `interleave::pilot_at` meets its contract: the sequences of the code are those of the clause. Assumes nothing.
use Rattle.interleave.specs.Interleave.{core_pilot, extension_pilot}
use Rattle.interleave.proofs.Bursts.{pilot_core, pilot-extension}
use Rattle.interleave.proofs.pilot_at.Goals as goal

pub returns-then-s-lt24 : goal.returns-then-s-lt24
unfolding core_pilot
returns-then-s-lt24 c = rw (pilot_core c.args.s c.args.p c.if-s-lt24.true)

pub returns-else-s-lt24 : goal.returns-else-s-lt24
unfolding extension_pilot
returns-else-s-lt24 c = rw (pilot-extension c.args.s c.args.p c.if-s-lt24.false)
