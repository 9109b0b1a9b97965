-- What reporting a capture writes: the first bytes of the buffer are its line, and there are no more than 544.
-- To be believed: Reports. Assumes nothing.
use Rattle.std.specs.Prelude.{List, ◌≡◌, ℕ, ◌≤◌, take}
use Rattle.line.specs.Line.{report_line}

pub record Reports (c after : List ℕ) (r : ℕ) : Type 0 where
  pub line : take r after ≡ report_line c
  pub within : r ≤ 544
