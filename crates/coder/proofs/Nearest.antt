-- There is exactly one nearest string, for any cost: `nearest_is` and `nearest_unique`.
-- Assumes nothing.
use mathlib.Core.Bool.{Bool, true, false, cond}
use mathlib.Core.List.{List, [], ◌∷◌}
use mathlib.Core.Path.{◌≡◌, refl, sym, ap}
use Prim.Native.Nat.{ℕ, zero, suc, ◌≤◌, ◌<◌}
use native.Mathlib.Nat.{le_antisymm, le_refl}
use native.Mathlib.Omega.{arith}
use borrow.Author.Tests.{ltb-true, ltb-false}
use lib.Dec.{ltb}
use lib.ListN.{length}
use Rattle.coder.specs.Nearest.{NotAfter, same, less, more, Nearest, cheaper, nearest}

-- the same at any strings that are equal to those two
not_after_both : {x y u v : List Bool} → NotAfter x y → NotAfter u v → u ≡ y → v ≡ x → x ≡ y
not_after_both same q e f = refl
not_after_both less same e f = cc
not_after_both less less e f = cc
not_after_both less (more q) e f = cc
not_after_both (more p) same e f = cc
not_after_both (more p) less e f = cc
not_after_both (more {b = b} {x = x} {y = y} p) (more {x = u} {y = v} q) e f =
    let first : u ≡ y = cc in
    let second : v ≡ x = cc in
    ap (λ (l : List Bool). b ∷ l) (not_after_both p q first second)

-- two strings, neither of which comes after the other, are the same
pub not_after_antisymm : {x y : List Bool} → NotAfter x y → NotAfter y x → x ≡ y
not_after_antisymm p q = not_after_both p q refl refl

module _ {cost : List Bool → ℕ} {n : ℕ} {x y : List Bool} (p : Nearest cost n x) (q : Nearest cost n y) where
  -- there is at most one nearest string
  pub nearest_unique : x ≡ y
  nearest_unique =
      let same : cost y ≡ cost x = le_antisymm (q.least x p.sized) (p.least y q.sized) in
      not_after_antisymm (p.first y q.sized same) (q.first x p.sized (sym same))

module _ (cost : List Bool → ℕ) {n : ℕ} {z o : List Bool} where
  -- the one that begins with 0, where the one that begins with 1 does not cost less
  zero_nearest : Nearest (λ x. cost (false ∷ x)) n z → Nearest (λ x. cost (true ∷ x)) n o → cost (false ∷ z) ≤ cost (true ∷ o) → Nearest cost (suc n) (false ∷ z)
  zero_nearest p q h = record { sized = ap suc p.sized; least = least; first = first }
    where
      least : (y : List Bool) → length y ≡ suc n → cost (false ∷ z) ≤ cost y
      least [] e = omega arith
      least (false ∷ y) e = p.least y (omega arith)
      least (true ∷ y) e = omega (arith, q.least y (omega arith))

      first : (y : List Bool) → length y ≡ suc n → cost y ≡ cost (false ∷ z) → NotAfter (false ∷ z) y
      first [] e c = absurd (omega arith)
      first (false ∷ y) e c = more (p.first y (omega arith) c)
      first (true ∷ y) e c = less

  -- the one that begins with 1, where it costs less
  one_nearest : Nearest (λ x. cost (false ∷ x)) n z → Nearest (λ x. cost (true ∷ x)) n o → cost (true ∷ o) < cost (false ∷ z) → Nearest cost (suc n) (true ∷ o)
  one_nearest p q h = record { sized = ap suc q.sized; least = least; first = first }
    where
      least : (y : List Bool) → length y ≡ suc n → cost (true ∷ o) ≤ cost y
      least [] e = omega arith
      least (true ∷ y) e = q.least y (omega arith)
      least (false ∷ y) e = omega (arith, p.least y (omega arith))

      first : (y : List Bool) → length y ≡ suc n → cost y ≡ cost (true ∷ o) → NotAfter (true ∷ o) y
      first [] e c = absurd (omega arith)
      first (true ∷ y) e c = more (q.first y (omega arith) c)
      first (false ∷ y) e c = absurd (omega (arith, p.least y (omega arith)))

  -- the cheaper of the nearest that begin with 0 and with 1
  cheaper-nearest : Nearest (λ x. cost (false ∷ x)) n z → Nearest (λ x. cost (true ∷ x)) n o → Nearest cost (suc n) (cheaper cost (false ∷ z) (true ∷ o))
  cheaper-nearest p q = go (ltb (cost (true ∷ o)) (cost (false ∷ z))) refl
    where
      go : (t : Bool) → ltb (cost (true ∷ o)) (cost (false ∷ z)) ≡ t → Nearest cost (suc n) (cond t (true ∷ o) (false ∷ z))
      go true e = one_nearest p q (ltb-true _ _ e)
      go false e = zero_nearest p q (ltb-false _ _ e)

-- there is a nearest string: the one that looking at all of them finds
pub nearest_is : (cost : List Bool → ℕ) (n : ℕ) → Nearest cost n (nearest cost n)
unfolding nearest
nearest_is cost zero = record { sized = refl; least = least; first = first }
  where
    least : (y : List Bool) → length y ≡ 0 → cost [] ≤ cost y
    least [] e = le_refl _
    least (b ∷ y) e = absurd (omega arith)

    first : (y : List Bool) → length y ≡ 0 → cost y ≡ cost [] → NotAfter [] y
    first [] e c = same
    first (b ∷ y) e c = absurd (omega arith)
nearest_is cost (suc n) =
    cheaper-nearest cost (nearest_is (λ x. cost (false ∷ x)) n) (nearest_is (λ x. cost (true ∷ x)) n)

-- a nearest string is the one that `nearest` names
pub nearest_eq : (cost : List Bool → ℕ) {n : ℕ} {x : List Bool} → Nearest cost n x → x ≡ nearest cost n
nearest_eq cost p = nearest_unique p (nearest_is cost _)
