-- The theorem of the reference points: document 01's cases a to n hold of the definitions. Cases k, l and m hold whichever 1s are reversed, by counting.
-- Assumes nothing.
use mathlib.Core.Bool.{Bool, false, cond, xor}
use mathlib.Core.List.{List, [], ◌∷◌}
use mathlib.Core.Path.{◌≡◌, refl, ap, ◌∙◌}
use Prim.Native.Nat.{ℕ, ◌+◌}
use native.Mathlib.Omega.{arith}
use lib.Dec.{ltb}
use lib.ListN.{length, replicate}
use Rattle.bits.specs.Bits.{bits_of}
use Rattle.whiten.proofs.Whiten.{whitened-zeros}
use Rattle.coder.specs.Coder.{tap, coded_after, coded}
use Rattle.coder.specs.Cost.{weight, against, distance, cost}
use Rattle.coder.specs.Nearest.{nearest}
use Rattle.interleave.specs.Interleave.{group, group_index, sub_packet, count_in, order, even_row, odd_row, symbol}
use Rattle.reference.specs.Cases.{example_words, zero_string, one_string, coded_one, Heard, none, minus, plus, zeroed, reversed, Answers, Cases}

-- how many bits are 1
ones : List Bool → ℕ
ones [] = 0
ones (b ∷ bs) = cond b (ones bs + 1) (ones bs)

-- each 1 that is reversed stands against the coded bits themselves
distance-heard : {z r : ℕ} {bs : List Bool} {vs : List ℕ} → Heard z r bs vs → distance bs vs ≡ r
unfolding distance against weight
distance-heard none = refl
distance-heard (minus p) = omega (arith, distance-heard p)
distance-heard (plus p) = omega (arith, distance-heard p)
distance-heard (zeroed p) = omega (arith, distance-heard p)
distance-heard (reversed p) = omega (arith, distance-heard p)

-- and each that is neither zeroed nor reversed stands against zeros
distance-zeros : {z r : ℕ} {bs : List Bool} {vs : List ℕ} → Heard z r bs vs → distance (replicate (length bs) false) vs + z + r ≡ ones bs
unfolding distance against weight ones
distance-zeros none = refl
distance-zeros (minus p) = omega (arith, distance-zeros p)
distance-zeros (plus p) = omega (arith, distance-zeros p)
distance-zeros (zeroed p) = omega (arith, distance-zeros p)
distance-zeros (reversed p) = omega (arith, distance-zeros p)

-- "0" is coded as zeros, and 15 coded bits of "1" are 1
coded_zero : coded example_words zero_string ≡ replicate (length coded_one) false
unfolding coded coded_after tap example_words bits_of xor
coded_zero = refl

ones_coded_one : ones coded_one ≡ 15
unfolding ones coded coded_after tap example_words bits_of xor
ones_coded_one = refl

cost_one : {z r : ℕ} {vs : List ℕ} → Heard z r coded_one vs → cost example_words vs one_string ≡ r
unfolding cost
cost_one p = distance-heard p

cost_zero : {z r : ℕ} {vs : List ℕ} → Heard z r coded_one vs → cost example_words vs zero_string + z + r ≡ 15
unfolding cost
cost_zero {z} {r} {vs} p = ap (λ (bs : List Bool). distance bs vs + z + r) coded_zero ∙ distance-zeros p ∙ ones_coded_one

-- "1" where it costs less than "0", and else "0"
nearest_one : (values : List ℕ) {x y : ℕ} → cost example_words values one_string ≡ x → cost example_words values zero_string ≡ y
    → nearest (cost example_words values) 1 ≡ cond (ltb x y) one_string zero_string
unfolding nearest
nearest_one values p q = rw (p, q)

case_k : (values : List ℕ) → Heard 0 7 coded_one values → Answers values one_string 7
case_k values p =
    let other : cost example_words values zero_string ≡ 8 = omega (arith, cost_zero p) in
    record { string = nearest_one values (cost_one p) other; costs = cost_one p }

case_l : (values : List ℕ) → Heard 0 8 coded_one values → Answers values zero_string 7
case_l values p =
    let other : cost example_words values zero_string ≡ 7 = omega (arith, cost_zero p) in
    record { string = nearest_one values (cost_one p) other; costs = other }

case_m : (values : List ℕ) → Heard 1 7 coded_one values → Answers values zero_string 7 × (cost example_words values one_string ≡ 7)
case_m values p =
    let other : cost example_words values zero_string ≡ 7 = omega (arith, cost_zero p) in
    (record { string = nearest_one values (cost_one p) other; costs = other }, cost_one p)

case_n : Answers (128 ∷ replicate 20 0) zero_string 0
unfolding nearest cost distance against weight coded coded_after tap example_words bits_of xor
case_n = record { string = refl; costs = refl }

pub cases : Cases
unfolding coded coded_after tap example_words bits_of xor group group_index sub_packet count_in order even_row odd_row symbol
cases =
    record {
      a = whitened-zeros;
      b = refl;
      c = record { packet = refl; carrier = refl };
      d = record { packet = refl; carrier = refl };
      e = record { packet = refl; carrier = refl };
      f = record { packet = refl; carrier = refl };
      g = record { packet = refl; carrier = refl };
      h = record { packet = refl; carrier = refl };
      i = record { packet = refl; carrier = refl };
      j = record { packet = refl; carrier = refl };
      k = case_k;
      l = case_l;
      m = case_m;
      n = case_n;
    }
