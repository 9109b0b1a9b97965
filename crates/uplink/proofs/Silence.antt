-- Where no heard sub-packet has a non-zero value, every coded bit's value is zero, and nothing stands between two strings.
-- Assumes nothing.
use mathlib.Core.Bool.{Bool, true, false, cond, not, xor, ◌||◌, and-eq-true_iff}
use mathlib.Core.List.{List, [], ◌∷◌}
use mathlib.Core.Path.{◌≡◌, refl, sym, ap, ◌∙◌}
use Prim.Native.Nat.{ℕ, zero, suc, ◌+◌, ◌*◌, ◌<◌}
use native.Mathlib.Decide.{dec_lt}
use native.Mathlib.Omega.{arith}
use borrow.Author.Tests.{eqb-true, eq-eqb, lt-ltb, le-ltb}
use lib.Dec.{eqb}
use lib.ListN.{get_or, take, drop, get_or-eq_default}
use lib.Seq.{get_or-take, get_or-drop}
use Rattle.coder.specs.Cost.{weight, apart}
use Rattle.interleave.specs.Interleave.{coded_bits, packet_of, symbol_of, Length, DataSymbol}
use Rattle.interleave.specs.Bursts.{value_of, heard, received}
use Rattle.interleave.proofs.Bursts.{length-received, get_or-received}
use Rattle.interleave.proofs.Placed.{placed_here, placed_data}
use Rattle.uplink.specs.Recover.{zeros, silent}

zeros-at : (vs : List ℕ) → zeros vs ≡ true → (p : ℕ) → get_or vs p 0 ≡ 0
unfolding zeros
zeros-at [] z p = refl
zeros-at (v ∷ vs) z zero = eqb-true v 0 ((and-eq-true_iff (eqb v 0) (zeros vs)).0 z).0
zeros-at (v ∷ vs) z (suc p) = zeros-at vs ((and-eq-true_iff (eqb v 0) (zeros vs)).0 z).1 p

-- a heard sub-packet of a silent frame has zeros
silent-at : (marks values : List ℕ) → silent marks values ≡ true → (s p : ℕ) → p < 24 → get_or marks s 0 ≡ 1 → get_or values (24 * s + p) 0 ≡ 0
unfolding silent
silent-at [] values z s p h m = absurd (omega arith)
silent-at (m ∷ ms) values z zero p h e =
    let e0 : 24 * 0 + p ≡ p = omega arith in
    let here : zeros (take 24 values) ≡ true = first (eqb m 1) (eq-eqb m 1 e) (zeros (take 24 values)) ((and-eq-true_iff (not (eqb m 1) || zeros (take 24 values)) (silent ms (drop 24 values))).0 z).0 in
    ap (λ (q : ℕ). get_or values q 0) e0 ∙ sym (get_or-take 24 values p 0 h) ∙ zeros-at (take 24 values) here p
  where
    first : (t : Bool) → t ≡ true → (r : Bool) → (not t || r) ≡ true → r ≡ true
    first true e r k = k
    first false e true k = refl
    first false e false k = e
silent-at (m ∷ ms) values z (suc s) p h e =
    let e1 : 24 + (24 * s + p) ≡ 24 * suc s + p = omega arith in
    ap (λ (q : ℕ). get_or values q 0) (sym e1) ∙ sym (get_or-drop 24 values (24 * s + p) 0)
    ∙ silent-at ms (drop 24 values) ((and-eq-true_iff (not (eqb m 1) || zeros (take 24 values)) (silent ms (drop 24 values))).0 z).1 s p h e

-- the value of a data symbol is one of 24
pub value_of_below : {m : ℕ} → DataSymbol m → value_of m < 24
value_of_below {m} d = go (dec_lt m 12)
  where
    go : Dec (m < 12) → value_of m < 24
    go (yes h) = rw (lt-ltb m 12 h) (omega arith)
    go (no h) = rw (le-ltb m 12 (omega arith)) (omega (arith, d.inside))

module _ (l : ℕ) (marks values : List ℕ) (told : Length l) (quiet : silent marks values ≡ true) where
  heard-silent : (j : ℕ) → j < coded_bits l → heard l marks values j ≡ 0
  unfolding heard
  heard-silent j h = go (eqb (get_or marks (packet_of l j) 0) 1) refl
    where
      go : (t : Bool) → eqb (get_or marks (packet_of l j) 0) 1 ≡ t → cond t (get_or values (24 * packet_of l j + value_of (symbol_of l j)) 0) 0 ≡ 0
      go true e = silent-at marks values quiet (packet_of l j) (value_of (symbol_of l j)) (value_of_below (placed_data told (placed_here told h))) (eqb-true _ _ e)
      go false e = refl

  pub received-silent : (j : ℕ) → get_or (received l marks values) j 0 ≡ 0
  received-silent j = go (dec_lt j (coded_bits l))
    where
      go : Dec (j < coded_bits l) → get_or (received l marks values) j 0 ≡ 0
      go (yes h) = get_or-received l marks values j h ∙ heard-silent j h
      go (no h) = get_or-eq_default (received l marks values) 0 (omega (arith, length-received l marks values))

-- zeros stand between nothing
pub apart-zeros : (xs ys : List Bool) (vs : List ℕ) → ((j : ℕ) → get_or vs j 0 ≡ 0) → apart xs ys vs ≡ 0
unfolding apart weight
apart-zeros [] ys vs z = refl
apart-zeros (x ∷ xs) [] vs z = refl
apart-zeros (x ∷ xs) (y ∷ ys) [] z = refl
apart-zeros (x ∷ xs) (y ∷ ys) (v ∷ vs) z = go (xor x y) v (z 0) (apart-zeros xs ys vs (λ j. z (suc j)))
  where
    go : (t : Bool) (v : ℕ) → v ≡ 0 → apart xs ys vs ≡ 0 → cond t (weight v) 0 + apart xs ys vs ≡ 0
    go true v e r = rw (e, r)
    go false v e r = rw r
