-- `step::lowered` meets its contract: the costs that were passed are lowered, the others are as they were. Assumes
-- nothing.
use mathlib.Core.Path.{◌≡◌}
use Prim.Native.Nat.{ℕ, ◌≤◌}
use lib.ListN.{get_or}
use Rattle.rows.specs.Rows.{Lowered}
use Rattle.step.proofs.lowered.Given as goal

abbrev pub invariant-loop-cost : goal.invariant-loop-cost
invariant-loop-cost l =
    Lowered l.cost-index l.fn.row l.by l.cost-items
    × ((s : ℕ) → l.cost-index ≤ s → get_or l.cost-items s 0 ≡ get_or l.fn.row s 0)
