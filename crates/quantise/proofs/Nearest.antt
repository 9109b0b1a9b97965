-- Rounding is to the nearest whole number, halves away from zero, held at 127: over any unit d of two halves h.
-- Assumes nothing.
use mathlib.Core.Logic.{⊎_elim}
use mathlib.Core.Path.{◌≡◌, ap}
use Prim.Native.Nat.{ℕ, ◌+◌, ◌-◌, ◌*◌, ◌/◌, ◌%◌, ◌≤◌, ◌<◌, min}
use native.Mathlib.Nat.{div-add-mod', mod-lt, mul-le-mul_right, suc-mul, min-le_left, le_trans, le_of_lt, le_of_eq, eq-zero-or-pos, zero-mul}
use native.Mathlib.Omega.{arith}
use Rattle.quantise.proofs.Order.{less_or-not}

-- how far two numbers lie apart
abbrev pub gap : ℕ → ℕ → ℕ
gap a b = a - b + (b - a)

-- one more is a unit more
times_less : (v w d : ℕ) → v < w → v * d + d ≤ w * d
times_less v w d l = omega (arith, suc-mul v d, mul-le-mul_right d l)

-- ---- in plain numbers: a is the chosen one, within half a unit of u; b another, at least a unit off
near : (u h a : ℕ) → a ≤ u + h → u + h < a + (h + h) → gap u a ≤ h
near u h a p q = omega arith

far_below : (u h a b : ℕ) → a ≤ u + h → b + (h + h) ≤ a → h ≤ gap u b
far_below u h a b p q = omega arith

far_above : (u h a b : ℕ) → u + h < a + (h + h) → a + (h + h) ≤ b → h < gap u b
far_above u h a b p q = omega arith

-- held: a is below u, and b no greater
held_nearer : (u h a b c : ℕ) → a + (h + h) ≤ c → c ≤ u + h → b ≤ a → gap u a ≤ gap u b
held_nearer u h a b c p q r = omega arith

-- on the other side of zero nothing is nearer
other_zero : (u b : ℕ) → gap u 0 ≤ u + b
other_zero u b = omega arith

other_side : (u h a b : ℕ) → a ≤ u + h → h + h ≤ a → gap u a ≤ u + b
other_side u h a b p q = omega arith

module _ (u h : ℕ) (some : 0 < h) where
  -- the nearest whole number of units of 2 h
  abbrev pub whole : ℕ
  whole = (u + h) / (h + h)

  floor_is : whole * (h + h) ≤ u + h
  floor_is = omega (arith, div-add-mod' (u + h) (h + h))

  floor_next : u + h < whole * (h + h) + (h + h)
  floor_next =
      let unit : 0 < h + h = omega arith in
      let rest : (u + h) % (h + h) < h + h = mod-lt (u + h) unit in
      omega (arith, div-add-mod' (u + h) (h + h))

  within_half_lem : gap u (whole * (h + h)) ≤ h
  within_half_lem = near u h (whole * (h + h)) floor_is floor_next

  -- one that is greater and not beyond 127 is more than half a unit off
  beyond : (v : ℕ) → min whole 127 < v → v ≤ 127 → h < gap u (v * (h + h))
  beyond v l k = far_above u h (whole * (h + h)) (v * (h + h)) floor_next (times_less whole v (h + h) (omega arith))

  free_within : min whole 127 < 127 → gap u (min whole 127 * (h + h)) ≤ h
  free_within l =
      let free : min whole 127 ≡ whole = omega arith in
      rw free within_half_lem

  -- on the same side of zero: no whole number up to 127 is nearer
  pub nearest_same : (v : ℕ) → v ≤ 127 → gap u (min whole 127 * (h + h)) ≤ gap u (v * (h + h))
  nearest_same v k = ⊎_elim
      (λ (l : 127 < whole).
      let is : min whole 127 ≡ 127 = omega arith in
      rw is (held_nearer u h (127 * (h + h)) (v * (h + h)) (whole * (h + h)) (times_less 127 whole (h + h) l) floor_is (mul-le-mul_right (h + h) k)))
      (λ (g : whole ≤ 127).
      let is : min whole 127 ≡ whole = omega arith in
      rw is (⊎_elim
      (λ (l : v < whole). le_trans within_half_lem (far_below u h (whole * (h + h)) (v * (h + h)) floor_is (times_less v whole (h + h) l)))
      (λ (m : whole ≤ v). ⊎_elim
      (λ (l : whole < v). le_trans within_half_lem (le_of_lt (beyond v (omega arith) k)))
      (λ (n : v ≤ whole).
      let same : whole ≡ v = omega arith in
      le_of_eq (ap (λ (x : ℕ). gap u (x * (h + h))) same))
      (less_or-not whole v))
      (less_or-not v whole)))
      (less_or-not 127 whole)

  -- on the other side none is
  pub nearest_other : (v : ℕ) → gap u (min whole 127 * (h + h)) ≤ u + v * (h + h)
  nearest_other v = ⊎_elim
      (λ (z : min whole 127 ≡ 0). rw (z, zero-mul (h + h)) (other_zero u (v * (h + h))))
      (λ (l : 0 < min whole 127).
      other_side u h (min whole 127 * (h + h)) (v * (h + h))
      (le_trans (mul-le-mul_right (h + h) (min-le_left whole 127)) floor_is)
      (omega (arith, times_less 0 (min whole 127) (h + h) l)))
      (eq-zero-or-pos (min whole 127))

  -- one that is equally near is not farther from zero
  pub tie_same : (v : ℕ) → v ≤ 127 → gap u (min whole 127 * (h + h)) ≡ gap u (v * (h + h)) → v ≤ min whole 127
  tie_same v k e = ⊎_elim
      (λ (l : min whole 127 < v). absurd (omega (arith, e, free_within (omega arith), beyond v l k)))
      (λ g. g)
      (less_or-not (min whole 127) v)

  pub tie_other : (v : ℕ) → v ≤ 127 → gap u (min whole 127 * (h + h)) ≡ u + v * (h + h) → v ≤ min whole 127
  tie_other v k e = ⊎_elim
      (λ (l : min whole 127 < v). absurd (omega (arith, e, free_within (omega arith), times_less 0 v (h + h) (omega arith))))
      (λ g. g)
      (less_or-not (min whole 127) v)

  -- below 127 and a half nothing is held
  pub half_free : 2 * u < 255 * (h + h) → gap u (min whole 127 * (h + h)) ≤ h
  half_free l = ⊎_elim
      (λ (g : 127 < whole). absurd (omega (arith, times_less 127 whole (h + h) g, floor_is)))
      (λ (g : whole ≤ 127).
      let is : min whole 127 ≡ whole = omega arith in
      rw is within_half_lem)
      (less_or-not 127 whole)
