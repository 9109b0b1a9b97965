-- Table 6-43 of TS 103 357 as it is printed, and that the symbols of `interleave` are these, entry for entry.
-- To be believed: even_row, odd_row. Assumes nothing.
use Rattle.std.specs.Prelude.{List, [], ◌∷◌, ◌≡◌, ℕ, ◌%◌}
use Rattle.lists.specs.Lists.{firsts}
use Rattle.interleave.specs.Interleave.{symbol}

-- Table 6-43, "m when s is even", o from 0 to 23
unfoldable pub even_row : List ℕ
even_row =
    11 ∷ 24 ∷ 10 ∷ 25 ∷ 9 ∷ 26 ∷ 8 ∷ 27 ∷ 7 ∷ 28 ∷ 6 ∷ 29 ∷ 5 ∷ 30 ∷ 4 ∷ 31 ∷ 3 ∷ 32 ∷ 2 ∷ 33 ∷ 1 ∷ 34 ∷ 0 ∷ 35 ∷ []

-- Table 6-43, "m when s is odd", o from 0 to 23
unfoldable pub odd_row : List ℕ
odd_row =
    24 ∷ 11 ∷ 25 ∷ 10 ∷ 26 ∷ 9 ∷ 27 ∷ 8 ∷ 28 ∷ 7 ∷ 29 ∷ 6 ∷ 30 ∷ 5 ∷ 31 ∷ 4 ∷ 32 ∷ 3 ∷ 33 ∷ 2 ∷ 34 ∷ 1 ∷ 35 ∷ 0 ∷ []

-- the symbols of the 24 places of a sub-packet, in order: the one row where s is even, the other where s is odd
pub record Rows : Type 0 where
  pub even : (s : ℕ) → s % 2 ≡ 0 → firsts 24 (symbol s) ≡ even_row
  pub odd : (s : ℕ) → s % 2 ≡ 1 → firsts 24 (symbol s) ≡ odd_row
