-- The coder's memory as a number: the last six bits taken, the newest highest. Nothing here has to be believed: it is how code keeps what the definitions of Coder.antt remember whole.
-- Assumes nothing.
use Rattle.std.specs.Prelude.{Bool, false, cond, List, ◌++◌, ◌≡◌, ℕ, ◌+◌, ◌/◌, ◌<◌, ◌≤◌, length, take, replicate}
use Rattle.bits.specs.Bits.{bits_of}
use Rattle.coder.specs.Coder.{Words}

-- the number s has the last six bits taken, and 0 for those before the start
pub record Holds (taken : List Bool) (s : ℕ) : Type 0 where
  pub below : s < 64
  pub last_six : bits_of 6 s ≡ take 6 (taken ++ replicate 6 false)

-- the number once the bit b is taken
abbrev pub shifted : Bool → ℕ → ℕ
shifted b s = cond b (s / 2 + 32) (s / 2)

-- words that select from the newest bit and the six before it only
pub record Short (w : Words) : Type 0 where
  pub first : length w.first ≤ 7
  pub second : length w.second ≤ 7
  pub third : length w.third ≤ 7
