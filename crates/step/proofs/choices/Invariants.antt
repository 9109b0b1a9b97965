-- `step::choices` meets its contract: after p turns the first p words have one decision more. Assumes nothing.
use Rattle.rows.specs.Rows.{Chosen}
use Rattle.step.proofs.choices.Given as goal

abbrev pub invariant-loop-p : goal.invariant-loop-p
invariant-loop-p l = Chosen l.p l.fn.m.zero l.fn.m.one l.initial.kept l.fn.place l.kept
