-- The value of a number, #101: "nearest whole number, halves away from zero, held at 127 and -127; a NaN becomes 0";
-- "Infinities count as ±127". One byte in two's complement.
-- To be believed: all of it. That it is nearest is `Rounds` of Promises. Assumes nothing.
use Rattle.std.specs.Prelude.{Bool, true, false, ℕ, ◌+◌, ◌-◌, ◌/◌, ◌%◌, ◌^◌, min}
use Rattle.quantise.specs.Number.{Number, not_a_number, infinite, exactly}

-- the whole number nearest to u times 2^-149, a half going up: away from zero, since this is the magnitude
unfoldable pub nearest_whole : ℕ → ℕ
nearest_whole u = (u + 2 ^ 148) / 2 ^ 149

-- held at 127
abbrev pub held : ℕ → ℕ
held n = min n 127

-- plus or minus a magnitude of at most 127, in two's complement
abbrev pub byte_of : Bool → ℕ → ℕ
byte_of false n = n
byte_of true n = (256 - n) % 256

unfoldable pub value_of : Number → ℕ
unfolding nearest_whole
value_of not_a_number = 0
value_of (infinite s) = byte_of s 127
value_of (exactly s u) = byte_of s (held (nearest_whole u))
