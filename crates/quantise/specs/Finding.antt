-- The finding of a burst, #101: "heard with its peak magnitude, silent, or faulty because a NaN was present". Over
-- the bits of its numbers.
-- To be believed: all of it. What the peak is among the 24 is `Peaks` of Promises. Assumes nothing.
use Rattle.std.specs.Prelude.{Bool, true, false, cond, ◌&&◌, ◌||◌, List, [], ◌∷◌, ℕ, ◌%◌, ◌^◌, ltb, eqb}
use Rattle.std.specs.Float.{binary32}
use Rattle.std.specs.Float.Ieee.{of_bits}
use Rattle.quantise.specs.Number.{Number, not_a_number, infinite, exactly, number_of}
use Rattle.quantise.specs.declared.Finding.{Finding}
use Rattle.quantise.specs.declared.Finding.TheVariants.{Heard, Silent, Faulty}

abbrev pub is_nan : Number → Bool
is_nan not_a_number = true
is_nan (infinite s) = false
is_nan (exactly s u) = false

-- plus or minus zero
abbrev pub is_zero : Number → Bool
is_zero not_a_number = false
is_zero (infinite s) = false
is_zero (exactly s u) = eqb u 0

-- the first is of greater magnitude than the second; a NaN exceeds nothing, and nothing exceeds it
abbrev pub exceeds : Number → Number → Bool
exceeds not_a_number n = false
exceeds (infinite s) not_a_number = false
exceeds (infinite s) (infinite t) = false
exceeds (infinite s) (exactly t v) = true
exceeds (exactly s u) not_a_number = false
exceeds (exactly s u) (infinite t) = false
exceeds (exactly s u) (exactly t v) = ltb v u

unfoldable pub some_nan : List ℕ → Bool
some_nan [] = false
some_nan (b ∷ bs) = is_nan (number_of b) || some_nan bs

unfoldable pub all_zero : List ℕ → Bool
all_zero [] = true
all_zero (b ∷ bs) = is_zero (number_of b) && all_zero bs

-- the same number without its sign
abbrev pub magnitude : ℕ → ℕ
magnitude b = b % 2 ^ 31

-- the bits of the greatest magnitude: the first number's where it exceeds the peak of the rest, else that peak
unfoldable pub peak_of : List ℕ → ℕ
peak_of [] = 0
peak_of (b ∷ bs) = cond (exceeds (number_of b) (number_of (peak_of bs))) (magnitude b) (peak_of bs)

-- "faulty because a NaN was present", whatever else is there; "Silent means that all 24 are plus or minus zero"; else
-- heard with its peak
unfoldable pub finding_of : List ℕ → Finding
unfolding some_nan all_zero peak_of
finding_of bs = cond (some_nan bs) Faulty (cond (all_zero bs) Silent (Heard (of_bits binary32 (peak_of bs))))
