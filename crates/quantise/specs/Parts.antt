-- What the functions of this crate ask and give. Nothing here has to be believed: what is promised is said by
-- Quantise alone.
-- Assumes nothing.
use Rattle.std.specs.Prelude.{cond, List, [], ◌∷◌, ◌≡◌, ℕ, ◌+◌, ◌*◌, ◌/◌, ◌%◌, ◌^◌, ◌≤◌, max, ltb, eqb, Float, length}
use Rattle.std.specs.Float.{binary32}
use Rattle.std.specs.Float.Ieee.{of_bits}
use Rattle.quantise.specs.Number.{units_of}
use Rattle.quantise.specs.Finding.{magnitude}
use Rattle.quantise.specs.Quantise.{patterns, values_of}
use Rattle.quantise.specs.declared.Finding.{Finding}
use Rattle.quantise.specs.declared.Finding.TheVariants.{Heard, Silent, Faulty}
use Rattle.buffers.specs.Buffers.{Appends}

-- how many 2^-149 a number without its sign is, from its bits
unfoldable pub units_at : ℕ → ℕ
unfolding units_of
units_at m = units_of (m / 2 ^ 23) (m % 2 ^ 23)

-- the bits of an infinity without its sign; of a quarter; of 127
abbrev pub infinity : ℕ
infinity = 255 * 2 ^ 23

abbrev pub quarter : ℕ
quarter = 125 * 2 ^ 23

abbrev pub loudest : ℕ
loudest = 133 * 2 ^ 23 + 63 * 2 ^ 17

-- the bits of a quarter, those of 127, or between
pub record Middling (m : ℕ) : Type 0 where
  pub low : quarter ≤ m
  pub high : m ≤ loudest

-- the greatest of the bits without their signs
unfoldable pub greatest : List ℕ → ℕ
greatest [] = 0
greatest (b ∷ bs) = max (magnitude b) (greatest bs)

-- 24 numbers, and room for their values
pub record Taken (numbers : List Float) (values : List ℕ) : Type 0 where
  pub count : length numbers ≡ 24
  pub room : 24 ≤ length values

-- the values of all numbers are written, and r is the greatest of their bits without signs
pub record TookIn (numbers : List Float) (before after : List ℕ) (r : ℕ) : Type 0 where
  pub written : Appends before 0 (values_of (patterns numbers)) after 24
  pub most : r ≡ greatest (patterns numbers)

-- the finding that the greatest of the bits without signs tells: a NaN's are above an infinity's, those of zeros are 0
unfoldable pub found_at : ℕ → Finding
found_at m = cond (ltb infinity m) Faulty (cond (eqb m 0) Silent (Heard (of_bits binary32 m)))
