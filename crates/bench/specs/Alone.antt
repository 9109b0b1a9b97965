-- What the benchmark's entries answer to C.
-- To be believed: all of it. Assumes nothing.
use Rattle.std.specs.Prelude.{List, ◌++◌, ◌≡◌, ℕ, ◌≤◌, length, drop}
use Rattle.interleave.specs.Interleave.{coded_bits}
use Rattle.interleave.specs.Bursts.{received}
use Rattle.placing.specs.Placing.{GatherSizes}
use Rattle.search.specs.Search.{Heard, Found}

-- the nearest string and its cost, or that the sizes are wrong
pub record Answered (values : List ℕ) (n : ℕ) (before after : List ℕ) (r : ℕ) : Type 0 where
  pub found : Heard values n → n ≤ length before → Found values n before after r
  pub refused : (Heard values n → n ≤ length before → ⊥) → (r ≡ 4294967295) × (after ≡ before)

-- what was received, or that the sizes are wrong
pub record Gathers (l : ℕ) (marks values before after : List ℕ) (r : ℕ) : Type 0 where
  pub done : GatherSizes l marks values before → (r ≡ 0) × (after ≡ received l marks values ++ drop (coded_bits l) before)
  pub refused : (GatherSizes l marks values before → ⊥) → (r ≡ 4294967295) × (after ≡ before)
