-- The loop of `step::sums`: after j turns the first j pairs of either half are summed. Assumes nothing.
use Rattle.rows.proofs.Fill.{Summing}
use Rattle.step.proofs.sums.Given as goal

abbrev pub invariant-loop-j : goal.invariant-loop-j
invariant-loop-j l = Summing l.j l.row l.low l.high l.all l.zero l.one
