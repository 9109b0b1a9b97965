-- `quantise::quantise` meets its contract: each refusal in its order, and else the values and the finding.
-- Assumes nothing.
use native.Mathlib.Omega.{arith}
use lib.ListN.{length}
use Rattle.refusals.specs.declared.Refusal.TheVariants.{Size, Room}
use Rattle.quantise.proofs.Refusals.{refusal_count, refusal_room, refuses, taken_in}
use Rattle.quantise.proofs.quantise.Goals as goal

pub returns-then-numbers-ne24 : goal.returns-then-numbers-ne24
returns-then-numbers-ne24 c = refuses c.args.numbers.now _ Size (refusal_count (length c.args.numbers.now) _ (λ e. omega arith))

pub returns-then-values-lt24 : goal.returns-then-values-lt24
returns-then-values-lt24 c = refuses _ _ Room (refusal_room (length c.args.numbers.now) _ (omega arith) c.if-values-lt24.true)

pub returns : goal.returns
returns c = taken_in (record { count = omega arith; room = omega arith }) c.take_in-peak.ensures c.found.ensures
