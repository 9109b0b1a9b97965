-- The finding told by the greatest of the bits without signs. Assumes nothing.
use mathlib.Core.List.{List, [], ◌∷◌}
use mathlib.Core.Logic.{◌⊎◌, inl, inr, ⊎_elim}
use mathlib.Core.Path.{◌≡◌, refl, sym, ap, ◌∙◌}
use Prim.Native.Nat.{ℕ, ◌^◌, ◌≤◌, ◌<◌}
use native.Mathlib.Nat.{eq-or-lt_of_le, le_of_lt}
use native.Mathlib.Omega.{arith}
use borrow.Author.Tests.{lt-ltb, le-ltb, ne_eqb}
use lib.Dec.{ltb, eqb}
use Rattle.quantise.specs.Number.{units_of, number_of}
use Rattle.quantise.specs.Finding.{is_nan, is_zero, exceeds, some_nan, all_zero, magnitude, peak_of, finding_of}
use Rattle.quantise.specs.Parts.{units_at, infinity, greatest, found_at}
use Rattle.quantise.proofs.Numbers.{number_nan, number_infinite, number_exactly}
use Rattle.quantise.proofs.Order.{less_or-not, same_order, same_zero, some_above, both_zero, cond_max}
use Rattle.quantise.proofs.Units.{units_less, units_most}

-- every number's bits without its sign are above an infinity's, an infinity's, or below
three : (b : ℕ) → (infinity < magnitude b) ⊎ ((magnitude b ≡ infinity) ⊎ (magnitude b < infinity))
three b = ⊎_elim (λ l. inl l) (λ g. inr (eq-or-lt_of_le g)) (less_or-not infinity (magnitude b))

nan_above : (b : ℕ) → is_nan (number_of b) ≡ ltb infinity (magnitude b)
nan_above b = elim (three b) [
  | inl l ↦ rw (number_nan b l, lt-ltb infinity (magnitude b) l)
  | inr (inl e) ↦ rw (number_infinite b e, e)
  | inr (inr l) ↦ rw (number_exactly b l, le-ltb infinity (magnitude b) (le_of_lt l))
]

-- the bits of zero are no 2^-149, and all others are some
zero_units : units_at 0 ≡ 0
unfolding units_at units_of
zero_units = refl

units_zero : (m : ℕ) → eqb (units_at m) 0 ≡ eqb m 0
units_zero m = sym (same_zero m (units_at m) (λ l. omega (arith, units_less 0 m l)) (λ e. ap units_at e ∙ zero_units))

zero_at : (b : ℕ) → is_zero (number_of b) ≡ eqb (magnitude b) 0
zero_at b = elim (three b) [
  | inl l ↦ rw (number_nan b l, ne_eqb (magnitude b) 0 (λ e. omega arith))
  | inr (inl e) ↦ rw (number_infinite b e, e)
  | inr (inr l) ↦ rw (number_exactly b l, units_zero (magnitude b))
]

-- for numbers that are no NaN
pub exceeds-order : (a b : ℕ) → magnitude a ≤ infinity → magnitude b ≤ infinity → exceeds (number_of a) (number_of b) ≡ ltb (magnitude b) (magnitude a)
exceeds-order a b ha hb = go (eq-or-lt_of_le ha) (eq-or-lt_of_le hb)
  where
    go : (magnitude a ≡ infinity) ⊎ (magnitude a < infinity) → (magnitude b ≡ infinity) ⊎ (magnitude b < infinity) → exceeds (number_of a) (number_of b) ≡ ltb (magnitude b) (magnitude a)
    go (inl e) (inl f) = rw (number_infinite a e, number_infinite b f, e, f)
    go (inl e) (inr l) = rw (number_infinite a e, number_exactly b l, lt-ltb (magnitude b) (magnitude a) (omega arith))
    go (inr k) (inl f) = rw (number_exactly a k, number_infinite b f, le-ltb (magnitude b) (magnitude a) (omega arith))
    go (inr k) (inr l) =
        rw (number_exactly a k, number_exactly b l)
        (sym (same_order (magnitude b) (magnitude a) (units_at (magnitude b)) (units_at (magnitude a)) (units_less (magnitude b) (magnitude a)) (units_most (magnitude a) (magnitude b))))

pub some_nan_lem : (bs : List ℕ) → some_nan bs ≡ ltb infinity (greatest bs)
unfolding some_nan greatest
some_nan_lem [] = refl
some_nan_lem (b ∷ bs) = rw (nan_above b, some_nan_lem bs) (some_above infinity (magnitude b) (greatest bs))

pub all_zero_lem : (bs : List ℕ) → all_zero bs ≡ eqb (greatest bs) 0
unfolding all_zero greatest
all_zero_lem [] = refl
all_zero_lem (b ∷ bs) = rw (zero_at b, all_zero_lem bs) (both_zero (magnitude b) (greatest bs))

pub greatest_below : (bs : List ℕ) → greatest bs < 2 ^ 31
unfolding greatest
greatest_below [] = omega arith
greatest_below (b ∷ bs) = omega (arith, greatest_below bs)

pub peak_greatest : (bs : List ℕ) → greatest bs ≤ infinity → peak_of bs ≡ greatest bs
unfolding peak_of greatest
peak_greatest [] h = refl
peak_greatest (b ∷ bs) h =
    let unsigned : magnitude (greatest bs) ≡ greatest bs = omega (arith, greatest_below bs) in
    let order = exceeds-order b (greatest bs) (omega arith) (omega arith) in
    rw (peak_greatest bs (omega arith), order, unsigned) (cond_max (magnitude b) (greatest bs))

pub finding_told : (bs : List ℕ) → found_at (greatest bs) ≡ finding_of bs
unfolding found_at finding_of
finding_told bs = rw (some_nan_lem bs, all_zero_lem bs) (⊎_elim
    (λ (l : infinity < greatest bs). rw (lt-ltb infinity (greatest bs) l))
    (λ (g : greatest bs ≤ infinity). rw (peak_greatest bs g))
    (less_or-not infinity (greatest bs)))
