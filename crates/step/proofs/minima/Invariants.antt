-- `step::minima` meets its contract: after j turns the cheaper moves of the first j pairs stand in the row. Assumes nothing.
use Rattle.rows.specs.Rows.{Least}
use Rattle.step.proofs.minima.Given as goal

abbrev pub invariant-loop-j : goal.invariant-loop-j
invariant-loop-j l = Least l.j l.fn.m.zero l.fn.m.one l.next
