-- The kit's account of a number and what its bits stand for agree. Assumes nothing.
use mathlib.Core.Bool.{Bool, true, false, cond}
use mathlib.Core.Path.{refl, sym, ap, subst}
use Prim.Native.Nat.{ℕ, zero, suc, ◌+◌, ◌*◌, ◌^◌}
use native.Mathlib.Nat.{mul-one}
use lib.Dec.{eqb}
use lib.Ieee.{Float, nan, inf, fin, binary32, odd, of_fields, of_bits, to_bits}
use lib.Ieee.Bits.{of_bits-to_bits}
use lib.Ieee.Exact.{HasValue, odd_sign}
use Rattle.quantise.specs.Number.{Number, not_a_number, infinite, exactly, sign_of, exponent_of, fraction_of, units_of, number_of}
use Rattle.quantise.specs.Promises.{Stands, Account}

-- a number whose value the kit tells as a of 2^-149
stands_value : (x : Float) (s : Bool) (a : ℕ) → HasValue x s a (2 ^ 149) → Stands x (exactly s a)
stands_value nan s a v = absurd v
stands_value (inf t) s a v = absurd v
stands_value (fin t m e) s a v = (a, ap (λ (x : Bool). exactly x a) (sym v.0), v.1)

-- what a sign, an exponent and a fraction stand for
abbrev fields_of : Bool → ℕ → ℕ → Number
fields_of s x t = cond (eqb x 255) (cond (eqb t 0) (infinite s) not_a_number) (exactly s (units_of x t))

stands_either : (s p q : Bool) (x t : ℕ)
    → Stands (cond p (cond q (inf s) nan) (odd 24 s (2 ^ 23 + t) x 149)) (cond p (cond q (infinite s) not_a_number) (exactly s ((2 ^ 23 + t) * 2 ^ x)))
stands_either s true true x t = refl
stands_either s true false x t = refl
stands_either s false q x t = stands_value (odd 24 s (2 ^ 23 + t) x 149) s ((2 ^ 23 + t) * 2 ^ x) (odd_sign 24 s (2 ^ 23 + t) x 149)

stands_fields : (s : Bool) (x t : ℕ) → Stands (of_fields binary32 s x t) (fields_of s x t)
unfolding of_fields units_of
stands_fields s zero t = subst (λ (a : ℕ). Stands (odd 24 s t 0 149) (exactly s a)) (mul-one t) (stands_value (odd 24 s t 0 149) s (t * 2 ^ 0) (odd_sign 24 s t 0 149))
stands_fields s (suc x) t = stands_either s (eqb (suc x) 255) (eqb t 0) x t

stands_bits : (b : ℕ) → Stands (of_bits binary32 b) (number_of b)
unfolding of_bits number_of
stands_bits b = stands_fields (sign_of b) (exponent_of b) (fraction_of b)

pub account : Account
account x f = subst (λ (y : Float). Stands y (number_of (to_bits binary32 x))) (of_bits-to_bits binary32 x f) (stands_bits (to_bits binary32 x))
