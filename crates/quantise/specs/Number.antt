-- The exact value of a single-precision number, from its 32 bits and over whole numbers alone (#101: "The exact value
-- of the float, written over whole numbers from its bits, is the yardstick").
-- IEEE 754, binary32: a sign, eight bits of exponent, 23 of fraction, the highest first. The least number above zero
-- is 2^-149, and every finite number is a whole number of those.
-- To be believed: all of it. Assumes nothing.
use Rattle.std.specs.Prelude.{Bool, cond, ℕ, zero, suc, ◌+◌, ◌*◌, ◌/◌, ◌%◌, ◌^◌, leb, eqb}

-- what 32 bits stand for: no number at all; an infinity; or plus or minus so many 2^-149. The sign is true for minus;
-- both zeros keep theirs
pub data Number : Type 0 where
  not_a_number : Number
  infinite : Bool → Number
  exactly : Bool → ℕ → Number

abbrev pub sign_of : ℕ → Bool
sign_of b = leb (2 ^ 31) b

abbrev pub exponent_of : ℕ → ℕ
exponent_of b = b % 2 ^ 31 / 2 ^ 23

abbrev pub fraction_of : ℕ → ℕ
fraction_of b = b % 2 ^ 23

-- how many 2^-149 an exponent and a fraction make: the fraction itself where the exponent is 0; else a leading 1
-- stands before the fraction, and each further exponent doubles
unfoldable pub units_of : ℕ → ℕ → ℕ
units_of zero t = t
units_of (suc x) t = (2 ^ 23 + t) * 2 ^ x

-- an exponent of 255 is an infinity where the fraction is 0, and else no number
unfoldable pub number_of : ℕ → Number
unfolding units_of
number_of b =
    cond (eqb (exponent_of b) 255)
    (cond (eqb (fraction_of b) 0) (infinite (sign_of b)) not_a_number)
    (exactly (sign_of b) (units_of (exponent_of b) (fraction_of b)))
