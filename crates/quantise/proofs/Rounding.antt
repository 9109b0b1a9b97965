-- Rounding at a coarser scale, and what holding the bits between a quarter's and 127's keeps. Assumes nothing.
use mathlib.Core.Logic.{⊎_elim}
use mathlib.Core.Path.{◌≡◌, refl, sym, ap, ◌∙◌}
use Prim.Native.Nat.{ℕ, zero, suc, ◌+◌, ◌-◌, ◌*◌, ◌/◌, ◌%◌, ◌^◌, ◌≤◌, ◌<◌, min, max}
use native.Mathlib.Nat.{mul_assoc, add-mul, mul-div-mul_right, min-eq_left, min-eq_right, le_trans, le_of_lt, mul-le-mul_left}
use native.Mathlib.Omega.{arith}
use lib.Pow.{pow_pos, pow_mono, pow-add, shr_mono}
use Rattle.quantise.specs.Number.{units_of}
use Rattle.quantise.specs.Value.{nearest_whole, held}
use Rattle.quantise.specs.Parts.{units_at, quarter, loudest, Middling}
use Rattle.quantise.proofs.Order.{less_or-not}
use Rattle.quantise.proofs.Units.{units_most}

-- the mantissa, shifted so that it counts 2^-25
abbrev pub scaled : ℕ → ℕ
scaled m = (2 ^ 23 + m % 2 ^ 23) * 2 ^ (m / 2 ^ 23 - 125)

-- p stands for 2^124, how many 2^-149 a 2^-25 is
coarser : (v p : ℕ) → 0 < p → (v * p + 2 ^ 24 * p) / (2 ^ 25 * p) ≡ (v + 2 ^ 24) / 2 ^ 25
coarser v p h = rw (← add-mul v (2 ^ 24) p) (mul-div-mul_right (v + 2 ^ 24) (2 ^ 25) h)

units_scaled : (x t : ℕ) → 125 ≤ x → units_of x t ≡ (2 ^ 23 + t) * 2 ^ (x - 125) * 2 ^ 124
unfolding units_of
units_scaled zero t h = absurd (omega arith)
units_scaled (suc x) t h =
    let e : x ≡ suc x - 125 + 124 = omega arith in
    ap (λ (k : ℕ). (2 ^ 23 + t) * 2 ^ k) e ∙ ap (λ (p : ℕ). (2 ^ 23 + t) * p) (pow-add 2 (suc x - 125) 124) ∙ sym (mul_assoc (2 ^ 23 + t) (2 ^ (suc x - 125)) (2 ^ 124))

pub nearest-scaled : {m : ℕ} → Middling m → nearest_whole (units_at m) ≡ (scaled m + 2 ^ 24) / 2 ^ 25
unfolding nearest_whole units_at
nearest-scaled {m} p =
    ap (λ (u : ℕ). (u + 2 ^ 148) / 2 ^ 149) (units_scaled (m / 2 ^ 23) (m % 2 ^ 23) (omega (arith, p.low))) ∙ coarser (scaled m) (2 ^ 124) (pow_pos 124)

-- what is shifted stays within 127 times 2^25
most_shifted : (t p : ℕ) → p ≤ 2 ^ 7 → t < 2 ^ 23 → (2 ^ 23 + t) * p ≤ 127 * 2 ^ 25
most_shifted t p h l = le_trans (mul-le-mul_left (2 ^ 23 + t) h) (omega arith)

pub scaled_most : {m : ℕ} → Middling m → scaled m ≤ 127 * 2 ^ 25
scaled_most {m} p = ⊎_elim
    (λ (l : m / 2 ^ 23 - 125 < 8). most_shifted (m % 2 ^ 23) (2 ^ (m / 2 ^ 23 - 125)) (pow_mono {i = m / 2 ^ 23 - 125} {j = 7} (omega arith)) (omega arith))
    (λ (g : 8 ≤ m / 2 ^ 23 - 125).
    let e : m / 2 ^ 23 - 125 ≡ 8 = omega (arith, p.high) in
    let f : m % 2 ^ 23 ≤ 63 * 2 ^ 17 = omega (arith, p.high) in
    rw e (omega arith))
    (less_or-not (m / 2 ^ 23 - 125) 8)

plus_mono : (u v h : ℕ) → u ≤ v → u + h ≤ v + h
plus_mono u v h l = omega arith

pub nearest_mono : {u v : ℕ} → u ≤ v → nearest_whole u ≤ nearest_whole v
unfolding nearest_whole
nearest_mono {u} {v} h = shr_mono 149 (plus_mono u v (2 ^ 148) h)

-- a quarter rounds to 0, and 127 to itself
nearest-quarter : nearest_whole (units_at quarter) ≡ 0
unfolding nearest_whole units_at units_of
nearest-quarter = refl

pub nearest-loudest : nearest_whole (units_at loudest) ≡ 127
unfolding nearest_whole units_at units_of
nearest-loudest = refl

-- below a quarter, between the two, above 127
below_quarter : (m : ℕ) → m < quarter → min (max m quarter) loudest ≡ quarter
below_quarter m h = omega arith

between : (m : ℕ) → quarter ≤ m → m ≤ loudest → min (max m quarter) loudest ≡ m
between m h l = omega arith

pub above_loudest : (m : ℕ) → loudest < m → min (max m quarter) loudest ≡ loudest
above_loudest m h = omega arith

pub middling : (m : ℕ) → Middling (min (max m quarter) loudest)
middling m = record { low = omega arith; high = omega arith }

pub held_between : (m : ℕ) → held (nearest_whole (units_at m)) ≡ nearest_whole (units_at (min (max m quarter) loudest))
held_between m = ⊎_elim
    (λ (l : m < quarter).
    let z : nearest_whole (units_at m) ≤ 0 = rw nearest-quarter at (nearest_mono (units_most m quarter (le_of_lt l))) in
    rw (below_quarter m l, nearest-quarter) (omega arith))
    (λ (g : quarter ≤ m). ⊎_elim
    (λ (l : loudest < m).
    let z : 127 ≤ nearest_whole (units_at m) = rw nearest-loudest at (nearest_mono (units_most loudest m (le_of_lt l))) in
    rw (above_loudest m l, nearest-loudest) (min-eq_right z))
    (λ (l : m ≤ loudest).
    let z : nearest_whole (units_at m) ≤ 127 = rw nearest-loudest at (nearest_mono (units_most m loudest l)) in
    rw (between m g l) (min-eq_left z))
    (less_or-not loudest m))
    (less_or-not m quarter)
