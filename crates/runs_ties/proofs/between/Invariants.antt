-- `runs_ties::between` is safe and ends. The invariant: no more places are counted than values were seen.
-- Assumes nothing.
use Rattle.std.proofs.Common.{◌≤◌}
use Rattle.runs_ties.proofs.between.Given as goal

abbrev pub invariant-loop-v : goal.invariant-loop-v
invariant-loop-v g l = l.places ≤ l.v
