-- What a string costs: at most 384 a step; and a string with little against it is the nearest.
-- Assumes nothing.
use mathlib.Core.Bool.{Bool, true, false, cond, xor, Bool-discrete}
use mathlib.Core.List.{List, [], ◌∷◌, List-discrete}
use mathlib.Core.Path.{◌≡◌, refl, sym, subst}
use Prim.Native.Nat.{ℕ, ◌+◌, ◌-◌, ◌*◌, ◌≤◌, ◌<◌}
use native.Mathlib.Nat.{le_refl}
use native.Mathlib.Omega.{arith}
use borrow.Author.Tests.{leb-true, leb-false}
use lib.ListN.{length}
use Rattle.coder.specs.Coder.{Words, coded}
use Rattle.coder.specs.Cost.{negative, weight, against, distance, cost, apart}
use Rattle.coder.specs.Nearest.{NotAfter, same, Nearest}
use Rattle.coder.proofs.Coded.{length-coded}

-- the byte 128 is -128, whose magnitude no signed byte holds: it weighs 128
pub weight_128 : weight 128 ≡ 128
unfolding weight
weight_128 = refl

-- a byte weighs at most 128
pub weight_le : (v : ℕ) → weight v ≤ 128
unfolding weight
weight_le v = go (negative v) refl
  where
    go : (t : Bool) → negative v ≡ t → cond t (256 - v) v ≤ 128
    go true e = omega (arith, leb-true)
    go false e = omega (arith, leb-false)

-- a value stands against a bit by its weight or not at all
pub against_le : (b : Bool) (v : ℕ) → against b v ≤ weight v
unfolding against
against_le true v = go (negative v)
  where
    go : (t : Bool) → cond t (weight v) 0 ≤ weight v
    go true = le_refl _
    go false = omega arith
against_le false v = go (negative v)
  where
    go : (t : Bool) → cond t 0 (weight v) ≤ weight v
    go true = omega arith
    go false = le_refl _

-- of two bits that differ exactly one has the value against it, by its whole weight
pub against_both : (v : ℕ) → against false v + against true v ≡ weight v
unfolding against
against_both v = go (negative v)
  where
    go : (t : Bool) → cond t 0 (weight v) + cond t (weight v) 0 ≡ weight v
    go true = omega arith
    go false = omega arith

-- at most 128 a place
pub distance_le : (bs : List Bool) (vs : List ℕ) → distance bs vs ≤ 128 * length bs
unfolding distance
distance_le [] vs = omega arith
distance_le (b ∷ bs) [] = omega arith
distance_le (b ∷ bs) (v ∷ vs) = omega (arith, against_le b v, weight_le v, distance_le bs vs)

-- a string of n bits costs at most 384 (n + 6), which at n = 2,066 is 795,648
pub cost_le : (w : Words) (values : List ℕ) (xs : List Bool) → cost w values xs ≤ 384 * (length xs + 6)
unfolding cost
cost_le w values xs = omega (arith, distance_le (coded w xs) values, length-coded w xs)

-- where two bits differ the weight is against one of them
differ_le : (x y : Bool) (v : ℕ) → cond (xor x y) (weight v) 0 ≤ against x v + against y v
unfolding xor
differ_le true true v = omega arith
differ_le false false v = omega arith
differ_le true false v = omega (arith, against_both v)
differ_le false true v = omega (arith, against_both v)

-- what two runs of coded bits are apart stands against the one or the other
pub apart_le : (xs ys : List Bool) (vs : List ℕ) → apart xs ys vs ≤ distance xs vs + distance ys vs
unfolding apart distance
apart_le [] ys vs = omega arith
apart_le (x ∷ xs) [] vs = omega arith
apart_le (x ∷ xs) (y ∷ ys) [] = omega arith
apart_le (x ∷ xs) (y ∷ ys) (v ∷ vs) = omega (arith, differ_le x y v, apart_le xs ys vs)

module _ (w : Words) (values : List ℕ) (u : List Bool)
    (half : (y : List Bool) → length y ≡ length u → (y ≡ u → ⊥) → 2 * cost w values u < apart (coded w u) (coded w y) values) where
  -- every other string of its length costs more
  pub within_half_less : (y : List Bool) → length y ≡ length u → (y ≡ u → ⊥) → cost w values u < cost w values y
  unfolding cost
  within_half_less y e d = omega (arith, half y e d, apart_le (coded w u) (coded w y) values)

  -- a string is the nearest where twice what stands against it is less than what it is apart from each other string
  pub within_half_nearest : Nearest (cost w values) (length u) u
  within_half_nearest =
      record {
        sized = refl;
        least = λ y e. least y e (List-discrete Bool-discrete y u);
        first = λ y e c. first y e c (List-discrete Bool-discrete y u);
      }
    where
      least : (y : List Bool) → length y ≡ length u → Dec (y ≡ u) → cost w values u ≤ cost w values y
      least y e (yes s) = subst (λ (l : List Bool). cost w values u ≤ cost w values l) (sym s) (le_refl _)
      least y e (no d) = omega (arith, within_half_less y e d)

      first : (y : List Bool) → length y ≡ length u → cost w values y ≡ cost w values u → Dec (y ≡ u) → NotAfter u y
      first y e c (yes s) = subst (λ (l : List Bool). NotAfter u l) (sym s) same
      first y e c (no d) = absurd (omega (arith, within_half_less y e d))
