-- Values on the right side of every coded bit: the string costs nothing, and something stands between it and every other.
-- Assumes nothing.
use mathlib.Core.Bool.{Bool, true, false, xor}
use mathlib.Core.List.{List, [], ◌∷◌}
use mathlib.Core.Path.{◌≡◌, refl, ap}
use Prim.Native.Nat.{ℕ, suc, ◌<◌}
use native.Mathlib.Omega.{arith}
use borrow.Author.Tests.{le-leb, lt-leb}
use lib.ListN.{length, get_or}
use Rattle.coder.specs.Cost.{weight, against, distance, apart}
use Rattle.uplink.specs.Demands.{RightSide}

against_right : (b : Bool) (v : ℕ) → RightSide b v → against b v ≡ 0
unfolding against
against_right true v r = rw (lt-leb 128 v r.1)
against_right false v r = rw (le-leb 128 v r.0)

weight_right : (b : Bool) (v : ℕ) → RightSide b v → 0 < weight v
unfolding weight
weight_right true v r = rw (lt-leb 128 v r.1) r.0
weight_right false v r = rw (le-leb 128 v r.0) (omega (arith, r.1))

-- a string whose coded bits all stand on the right side costs nothing
pub distance_right : (bs : List Bool) (vs : List ℕ) → ((j : ℕ) → j < length bs → RightSide (get_or bs j false) (get_or vs j 0)) → distance bs vs ≡ 0
unfolding distance
distance_right [] vs r = refl
distance_right (b ∷ bs) [] r = refl
distance_right (b ∷ bs) (v ∷ vs) r = rw (against_right b v (r 0 (omega arith)), distance_right bs vs (λ j h. r (suc j) (omega arith)))

-- two runs of coded bits that are not the same are apart by more than nothing
pub apart_right :
    (xs ys : List Bool) (vs : List ℕ) → length ys ≡ length xs → length vs ≡ length xs → (xs ≡ ys → ⊥)
    → ((j : ℕ) → j < length xs → RightSide (get_or xs j false) (get_or vs j 0)) → 0 < apart xs ys vs
unfolding apart xor
apart_right [] [] vs e f d r = absurd (d refl)
apart_right [] (y ∷ ys) vs e f d r = absurd (omega arith)
apart_right (x ∷ xs) [] vs e f d r = absurd (omega arith)
apart_right (x ∷ xs) (y ∷ ys) [] e f d r = absurd (omega arith)
apart_right (true ∷ xs) (false ∷ ys) (v ∷ vs) e f d r = omega (arith, weight_right true v (r 0 (omega arith)))
apart_right (false ∷ xs) (true ∷ ys) (v ∷ vs) e f d r = omega (arith, weight_right false v (r 0 (omega arith)))
apart_right (true ∷ xs) (true ∷ ys) (v ∷ vs) e f d r =
    omega (arith, apart_right xs ys vs (omega arith) (omega arith) (λ s. d (ap (λ (l : List Bool). true ∷ l) s)) (λ j h. r (suc j) (omega arith)))
apart_right (false ∷ xs) (false ∷ ys) (v ∷ vs) e f d r =
    omega (arith, apart_right xs ys vs (omega arith) (omega arith) (λ s. d (ap (λ (l : List Bool). false ∷ l) s)) (λ j h. r (suc j) (omega arith)))
