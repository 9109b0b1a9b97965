-- The value of a number from its bits, by what the bits without the sign are. Assumes nothing.
use mathlib.Core.Bool.{Bool}
use mathlib.Core.Logic.{⊎_elim}
use mathlib.Core.Path.{◌≡◌, refl, ap, ◌∙◌}
use Prim.Native.Nat.{ℕ, ◌-◌, ◌%◌, ◌^◌, ◌≤◌, ◌<◌}
use native.Mathlib.Nat.{min-le_right, eq-or-lt_of_le}
use native.Mathlib.Omega.{arith}
use borrow.Author.Tests.{le-leb, lt-leb}
use Rattle.quantise.specs.Number.{not_a_number, infinite, exactly, sign_of, number_of}
use Rattle.quantise.specs.Value.{nearest_whole, held, byte_of, value_of}
use Rattle.quantise.specs.Parts.{units_at, infinity}
use Rattle.quantise.proofs.Numbers.{number_nan, number_infinite, number_exactly}
use Rattle.quantise.proofs.Rounding.{held_between, nearest-loudest, above_loudest}

-- ---- what `value_of` says

pub value_of_nan : value_of not_a_number ≡ 0
unfolding value_of
value_of_nan = refl

pub value_of_infinite : (s : Bool) → value_of (infinite s) ≡ byte_of s 127
unfolding value_of
value_of_infinite s = refl

pub value_of_exactly : (s : Bool) (u : ℕ) → value_of (exactly s u) ≡ byte_of s (held (nearest_whole u))
unfolding value_of
value_of_exactly s u = refl

pub held_below : (u : ℕ) → held (nearest_whole u) ≤ 127
held_below u = min-le_right (nearest_whole u) 127

-- ---- from bits

pub value_nan : (b : ℕ) → infinity < b % 2 ^ 31 → value_of (number_of b) ≡ 0
value_nan b h = rw (number_nan b h, value_of_nan)

-- an infinity's bits, taken for a number's, are held at 127 too
held-infinity : held (nearest_whole (units_at infinity)) ≡ 127
held-infinity = held_between infinity ∙ rw (above_loudest infinity (omega arith)) nearest-loudest

value_held : (b : ℕ) → b % 2 ^ 31 ≤ infinity → value_of (number_of b) ≡ byte_of (sign_of b) (held (nearest_whole (units_at (b % 2 ^ 31))))
value_held b h = ⊎_elim
    (λ (e : b % 2 ^ 31 ≡ infinity). rw (number_infinite b e, value_of_infinite (sign_of b), e, held-infinity))
    (λ (l : b % 2 ^ 31 < infinity). rw (number_exactly b l, value_of_exactly (sign_of b) (units_at (b % 2 ^ 31))))
    (eq-or-lt_of_le h)

pub value_plus : (b : ℕ) → b % 2 ^ 31 ≤ infinity → b < 2 ^ 31 → value_of (number_of b) ≡ held (nearest_whole (units_at (b % 2 ^ 31)))
value_plus b h l = value_held b h ∙ ap (λ (s : Bool). byte_of s (held (nearest_whole (units_at (b % 2 ^ 31))))) (lt-leb (2 ^ 31) b l)

pub value_minus : (b : ℕ) → b % 2 ^ 31 ≤ infinity → 2 ^ 31 ≤ b → value_of (number_of b) ≡ (256 - held (nearest_whole (units_at (b % 2 ^ 31)))) % 256
value_minus b h l = value_held b h ∙ ap (λ (s : Bool). byte_of s (held (nearest_whole (units_at (b % 2 ^ 31))))) (le-leb (2 ^ 31) b l)
