-- Every message that can be sent has a frame that is heard on the right side everywhere: marks of 1, and at each data symbol +1 or -1 by the coded bit that it carries.
-- Assumes nothing.
use mathlib.Core.Bool.{Bool, true, false, cond}
use mathlib.Core.List.{List}
use mathlib.Core.Path.{◌≡◌, refl, sym, ap, subst, ◌∙◌}
use Prim.Native.Nat.{ℕ, zero, suc, ◌+◌, ◌-◌, ◌*◌, ◌/◌, ◌%◌, ◌≤◌, ◌<◌}
use native.Mathlib.Decide.{dec_lt}
use native.Mathlib.Omega.{arith}
use borrow.Author.Tests.{lt-ltb, le-ltb}
use lib.Dec.{ltb}
use lib.ListN.{get_or, replicate, length-replicate, get_or-replicate}
use Rattle.interleave.specs.Interleave.{coded_bits, sub_packets, packet_of, symbol_of, Placed, Length, DataSymbol}
use Rattle.lists.specs.Lists.{firsts}
use Rattle.lists.proofs.Lists.{length-firsts, get_or-firsts}
use Rattle.interleave.specs.Bursts.{value_of, heard}
use Rattle.interleave.proofs.Placed.{placed_here, placed_packet, placed_data, placed_unique, placed_onto}
use Rattle.uplink.specs.Recover.{marks_good}
use Rattle.uplink.specs.Demands.{Formed, RightSide}
use Rattle.uplink.proofs.Silence.{value_of_below}

-- value p of a sub-packet stands for this symbol
symbol_for : ℕ → ℕ
symbol_for p = cond (ltb p 12) p (p + 12)

symbol_for_data : (p : ℕ) → p < 24 → DataSymbol (symbol_for p)
unfolding symbol_for
symbol_for_data p h = go (dec_lt p 12)
  where
    go : Dec (p < 12) → DataSymbol (cond (ltb p 12) p (p + 12))
    go (yes l) = rw (lt-ltb p 12 l) (record { inside = omega arith; outside = λ k. absurd (omega arith) })
    go (no l) = rw (le-ltb p 12 (omega arith)) (record { inside = omega arith; outside = λ k. omega arith })

symbol_for_value_of : (m : ℕ) → DataSymbol m → symbol_for (value_of m) ≡ m
unfolding symbol_for
symbol_for_value_of m d = go (dec_lt m 12)
  where
    go : Dec (m < 12) → cond (ltb (value_of m) 12) (value_of m) (value_of m + 12) ≡ m
    go (yes l) = rw (lt-ltb m 12 l, lt-ltb m 12 l)
    go (no l) =
        let far : 24 ≤ m = d.outside (omega arith) in
        rw (le-ltb m 12 (omega arith), le-ltb (m - 12) 12 (omega arith)) (omega arith)

-- +1 for a coded 1 and -1 for a coded 0
side_of : Bool → ℕ
side_of b = cond b 1 255

side_of_right : (b : Bool) → RightSide b (side_of b)
unfolding side_of
side_of_right true = (omega arith, omega arith)
side_of_right false = (omega arith, omega arith)

module _ (l : ℕ) (told : Length l) (bits : List Bool) where
  value_at : (k : ℕ) → Dec (k / 24 < sub_packets l) → ℕ
  value_at k (yes h) = side_of (get_or bits (placed_onto told h (symbol_for_data (k % 24) (omega arith))).0 false)
  value_at k (no h) = 0

  pub clean_marks : List ℕ
  clean_marks = replicate (l + 4) 1

  pub clean_values : List ℕ
  clean_values = firsts (24 * (l + 4)) (λ k. value_at k (dec_lt (k / 24) (sub_packets l)))

  ones_good : (n : ℕ) → marks_good (replicate n 1) ≡ true
  unfolding marks_good
  ones_good zero = refl
  ones_good (suc n) = ones_good n

  pub clean_formed : (room : ℕ) → l ≤ room → Formed l clean_marks clean_values room
  unfolding clean_marks clean_values
  clean_formed room r =
      record {
        told = told;
        marked = length-replicate (l + 4) 1;
        valued = length-firsts (24 * (l + 4)) (λ k. value_at k (dec_lt (k / 24) (sub_packets l)));
        roomy = r;
        marks_are = ones_good (l + 4);
      }

  -- the value at the place of coded bit j is the one made for it
  value_at_placed : (j k : ℕ) → Placed l j (k / 24) (symbol_for (k % 24)) → (d : Dec (k / 24 < sub_packets l)) → value_at k d ≡ side_of (get_or bits j false)
  unfolding value_at
  value_at_placed j k p (yes h) =
      ap (λ (i : ℕ). side_of (get_or bits i false)) (placed_unique told (placed_onto told h (symbol_for_data (k % 24) (omega arith))).1 p)
  value_at_placed j k p (no h) = absurd (h (placed_packet told p))

  pub clean_right : (j : ℕ) → j < coded_bits l → RightSide (get_or bits j false) (heard l clean_marks clean_values j)
  unfolding heard clean_marks clean_values
  clean_right j h =
      let s : ℕ = packet_of l j in
      let m : ℕ = symbol_of l j in
      let here : Placed l j s m = placed_here told h in
      let carrier : DataSymbol m = placed_data told here in
      let v : value_of m < 24 = value_of_below carrier in
      let q : (24 * s + value_of m) / 24 ≡ s = omega arith in
      let r : (24 * s + value_of m) % 24 ≡ value_of m = omega arith in
      let there : Placed l j ((24 * s + value_of m) / 24) (symbol_for ((24 * s + value_of m) % 24)) = rw (q, r, symbol_for_value_of m carrier) here in
      rw (get_or-replicate {A = ℕ} (l + 4) s 1 0 (placed_packet told here))
      (subst (λ (x : ℕ). RightSide (get_or bits j false) x)
      (sym (get_or-firsts (24 * (l + 4)) (λ k. value_at k (dec_lt (k / 24) (sub_packets l))) (24 * s + value_of m) (omega (arith, placed_packet told here))
      ∙ value_at_placed j (24 * s + value_of m) there (dec_lt ((24 * s + value_of m) / 24) (sub_packets l))))
      (side_of_right (get_or bits j false)))
