-- What bits stand for, told by their order without the sign: above an infinity's they are no number, below they are
-- exactly so many 2^-149. Assumes nothing.
use mathlib.Core.Bool.{Bool, true, false, cond}
use mathlib.Core.Path.{◌≡◌, refl, ap, ◌∙◌}
use Prim.Native.Nat.{ℕ, ◌%◌, ◌^◌, ◌<◌}
use native.Mathlib.Omega.{arith}
use borrow.Author.Tests.{eq-eqb, ne_eqb}
use lib.Dec.{eqb}
use Rattle.quantise.specs.Number.{not_a_number, infinite, exactly, sign_of, exponent_of, fraction_of, units_of, number_of}
use Rattle.quantise.specs.Parts.{units_at, infinity}

chosen : (b : ℕ) (p q : Bool) → eqb (exponent_of b) 255 ≡ p → eqb (fraction_of b) 0 ≡ q
    → number_of b ≡ cond p (cond q (infinite (sign_of b)) not_a_number) (exactly (sign_of b) (units_of (exponent_of b) (fraction_of b)))
unfolding number_of
chosen b p q e f = rw (e, f)

pub number_nan : (b : ℕ) → infinity < b % 2 ^ 31 → number_of b ≡ not_a_number
number_nan b h = chosen b true false (eq-eqb (exponent_of b) 255 (omega arith)) (ne_eqb (fraction_of b) 0 (λ e. omega arith))

pub number_infinite : (b : ℕ) → b % 2 ^ 31 ≡ infinity → number_of b ≡ infinite (sign_of b)
number_infinite b h = chosen b true true (eq-eqb (exponent_of b) 255 (omega arith)) (eq-eqb (fraction_of b) 0 (omega arith))

pub number_exactly : (b : ℕ) → b % 2 ^ 31 < infinity → number_of b ≡ exactly (sign_of b) (units_at (b % 2 ^ 31))
unfolding units_at
number_exactly b h =
    let e : fraction_of b ≡ b % 2 ^ 31 % 2 ^ 23 = omega arith in
    chosen b false (eqb (fraction_of b) 0) (ne_eqb (exponent_of b) 255 (λ e. omega arith)) refl ∙ ap (λ (t : ℕ). exactly (sign_of b) (units_of (exponent_of b) t)) e
