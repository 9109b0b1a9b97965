-- The order of bits without a sign is the order of the magnitudes that they stand for. Assumes nothing.
use mathlib.Core.Logic.{⊎_elim}
use mathlib.Core.Path.{◌≡◌, ap}
use Prim.Native.Nat.{ℕ, zero, suc, ◌+◌, ◌*◌, ◌/◌, ◌%◌, ◌^◌, ◌≤◌, ◌<◌}
use native.Mathlib.Nat.{eq-or-lt_of_le, le_trans, lt_of_lt_of_le, le_of_lt, le_of_eq, mul-lt-mul_of_pos_right, mul-le-mul_left, mul-le-mul_right, pow-succ', not-suc-le-zero}
use native.Mathlib.Omega.{arith}
use lib.Pow.{pow_pos, pow_mono}
use Rattle.quantise.specs.Number.{units_of}
use Rattle.quantise.specs.Parts.{units_at}

twice : (t p q : ℕ) → t < 2 ^ 23 → 0 < p → q ≡ 2 * p → (2 ^ 23 + t) * p < 2 ^ 23 * q
twice t p q h hp e = rw e (lt_of_lt_of_le (mul-lt-mul_of_pos_right {m = 2 ^ 23 + t} {n = 2 ^ 24} (omega arith) hp) (omega arith))

-- an exponent, whatever its fraction, stays below the least that the exponent after it has
units_below : (x t : ℕ) → t < 2 ^ 23 → units_of x t < 2 ^ 23 * 2 ^ x
unfolding units_of
units_below zero t h = h
units_below (suc x) t h = twice t (2 ^ x) (2 ^ suc x) h (pow_pos x) (pow-succ' 2 x)

units_least : (x t : ℕ) → 2 ^ 23 * 2 ^ x ≤ units_of (suc x) t
unfolding units_of
units_least x t = mul-le-mul_right {m = 2 ^ 23} {n = 2 ^ 23 + t} (2 ^ x) (omega arith)

exponent_order : (x y t u : ℕ) → t < 2 ^ 23 → x < y → units_of x t < units_of y u
exponent_order x zero t u h l = absurd (not-suc-le-zero l)
exponent_order x (suc y) t u h l = lt_of_lt_of_le (units_below x t h) (le_trans (mul-le-mul_left (2 ^ 23) (pow_mono {i = x} {j = y} (omega arith))) (units_least y u))

fraction_order : (x t u : ℕ) → t < u → units_of x t < units_of x u
unfolding units_of
fraction_order zero t u h = h
fraction_order (suc x) t u h = mul-lt-mul_of_pos_right {m = 2 ^ 23 + t} {n = 2 ^ 23 + u} (omega arith) (pow_pos x)

pub units_less : (a b : ℕ) → a < b → units_at a < units_at b
unfolding units_at
units_less a b h =
    let order : a / 2 ^ 23 ≤ b / 2 ^ 23 = omega arith in
    ⊎_elim
    (λ (e : a / 2 ^ 23 ≡ b / 2 ^ 23). rw e (fraction_order (b / 2 ^ 23) (a % 2 ^ 23) (b % 2 ^ 23) (omega arith)))
    (λ (l : a / 2 ^ 23 < b / 2 ^ 23). exponent_order (a / 2 ^ 23) (b / 2 ^ 23) (a % 2 ^ 23) (b % 2 ^ 23) (omega arith) l)
    (eq-or-lt_of_le order)

pub units_most : (a b : ℕ) → a ≤ b → units_at a ≤ units_at b
units_most a b h = ⊎_elim (λ (e : a ≡ b). le_of_eq (ap units_at e)) (λ l. le_of_lt (units_less a b l)) (eq-or-lt_of_le h)
