-- What the loops of a step have done after one turn more.
-- Assumes nothing.
use mathlib.Core.List.{List}
use mathlib.Core.Path.{◌≡◌, refl, sym, ap, subst, ◌∙◌}
use Prim.Native.Nat.{ℕ, ◌+◌, ◌-◌, ◌≤◌, ◌<◌}
use native.Mathlib.Nat.{not-suc-le-zero}
use native.Mathlib.Decide.{dec_lt}
use native.Mathlib.Omega.{arith}
use lib.ListN.{length, get_or, set, length-set}
use Rattle.rows.specs.Rows.{Low, Halves, Small, Summed, Within, pairs_of}
use Rattle.rows.proofs.Lists.{set_grows, set_keeps, pairs_of_low, pairs_of_high}

-- a list of 64 whose first n numbers, and as many from the 16th, the 32nd and the 48th on, are given
record Quarters (n : ℕ) (l : List ℕ) (f g u v : ℕ → ℕ) : Type 0 where
  sized : length l ≡ 64
  first : (k : ℕ) → k < n → get_or l k 0 ≡ f k
  second : (k : ℕ) → k < n → get_or l (k + 16) 0 ≡ g k
  third : (k : ℕ) → k < n → get_or l (k + 32) 0 ≡ u k
  fourth : (k : ℕ) → k < n → get_or l (k + 16 + 32) 0 ≡ v k

module _ {l : List ℕ} (f g u v : ℕ → ℕ) where
  quarters_none : length l ≡ 64 → Quarters 0 l f g u v
  quarters_none s =
      record {
        sized = s;
        first = λ k h. absurd (not-suc-le-zero h);
        second = λ k h. absurd (not-suc-le-zero h);
        third = λ k h. absurd (not-suc-le-zero h);
        fourth = λ k h. absurd (not-suc-le-zero h);
      }

  quarters_more : (j : ℕ) → j < 16 → Quarters j l f g u v → Quarters (j + 1) (set (set (set (set l j (f j)) (j + 32) (u j)) (j + 16) (g j)) (j + 16 + 32) (v j)) f g u v
  quarters_more j h p =
      let l1 : List ℕ = set l j (f j) in
      let l2 : List ℕ = set l1 (j + 32) (u j) in
      let l3 : List ℕ = set l2 (j + 16) (g j) in
      let s1 : length l1 ≡ 64 = length-set l j (f j) ∙ p.sized in
      let s2 : length l2 ≡ 64 = length-set l1 (j + 32) (u j) ∙ s1 in
      let s3 : length l3 ≡ 64 = length-set l2 (j + 16) (g j) ∙ s2 in
      record {
        sized = length-set l3 (j + 16 + 32) (v j) ∙ s3;
        first =
            set_keeps l3 (λ k. k) f (j + 16 + 32) (v j) (j + 1) (λ k b e. omega arith)
            (set_keeps l2 (λ k. k) f (j + 16) (g j) (j + 1) (λ k b e. omega arith)
            (set_keeps l1 (λ k. k) f (j + 32) (u j) (j + 1) (λ k b e. omega arith)
            (set_grows l (λ k. k) f j (f j) (omega (arith, p.sized)) (λ k b e. omega arith) p.first refl)));
        second =
            set_keeps l3 (λ k. k + 16) g (j + 16 + 32) (v j) (j + 1) (λ k b e. omega arith)
            (set_grows l2 (λ k. k + 16) g j (g j) (omega (arith, s2)) (λ k b e. omega arith)
            (set_keeps l1 (λ k. k + 16) g (j + 32) (u j) j (λ k b e. omega arith)
            (set_keeps l (λ k. k + 16) g j (f j) j (λ k b e. omega arith) p.second)) refl);
        third =
            set_keeps l3 (λ k. k + 32) u (j + 16 + 32) (v j) (j + 1) (λ k b e. omega arith)
            (set_keeps l2 (λ k. k + 32) u (j + 16) (g j) (j + 1) (λ k b e. omega arith)
            (set_grows l1 (λ k. k + 32) u j (u j) (omega (arith, s1)) (λ k b e. omega arith)
            (set_keeps l (λ k. k + 32) u j (f j) j (λ k b e. omega arith) p.third) refl));
        fourth =
            set_grows l3 (λ k. k + 16 + 32) v j (v j) (omega (arith, s3)) (λ k b e. omega arith)
            (set_keeps l2 (λ k. k + 16 + 32) v (j + 16) (g j) j (λ k b e. omega arith)
            (set_keeps l1 (λ k. k + 16 + 32) v (j + 32) (u j) j (λ k b e. omega arith)
            (set_keeps l (λ k. k + 16 + 32) v j (f j) j (λ k b e. omega arith) p.fourth))) refl;
      }

-- what holds for the first 16 and for the next 16 holds for all 32
halves : (P : ℕ → Type 0) → ((k : ℕ) → k < 16 → P k) → ((k : ℕ) → k < 16 → P (k + 16)) → (j : ℕ) → j < 32 → P j
halves P f g j h = go (dec_lt j 16)
  where
    go : Dec (j < 16) → P j
    go (yes z) = f j z
    go (no z) =
        let e : j - 16 + 16 ≡ j = omega arith in
        subst P e (g (j - 16) (omega arith))

-- the loop over both halves: the costs of both moves of the first n pairs, and of as many from the 16th on
pub record Summing (n : ℕ) (row low high : List ℕ) (all : ℕ) (zero one : List ℕ) : Type 0 where
  zeros :
      Quarters n zero (λ k. get_or row k 0 + get_or low k 0) (λ k. get_or row (k + 16) 0 + (all - get_or high k 0)) (λ k. get_or row k 0 + (all - get_or low k 0))
      (λ k. get_or row (k + 16) 0 + get_or high k 0)
  ones :
      Quarters n one (λ k. get_or row (k + 32) 0 + (all - get_or low k 0)) (λ k. get_or row (k + 16 + 32) 0 + get_or high k 0) (λ k. get_or row (k + 32) 0 + get_or low k 0)
      (λ k. get_or row (k + 16 + 32) 0 + (all - get_or high k 0))

module _ {row low high : List ℕ} {all : ℕ} {zero one : List ℕ} where
  pub summing_none : length zero ≡ 64 → length one ≡ 64 → Summing 0 row low high all zero one
  summing_none s t = record { zeros = quarters_none _ _ _ _ s; ones = quarters_none _ _ _ _ t }

  pub summing_more :
      (j : ℕ) → j < 16 → Summing j row low high all zero one
      → Summing (j + 1) row low high all
      (set
      (set (set (set zero j (get_or row j 0 + get_or low j 0)) (j + 32) (get_or row j 0 + (all - get_or low j 0))) (j + 16) (get_or row (j + 16) 0 + (all - get_or high j 0)))
      (j + 16 + 32)
      (get_or row (j + 16) 0 + get_or high j 0))
      (set
      (set (set (set one j (get_or row (j + 32) 0 + (all - get_or low j 0))) (j + 32) (get_or row (j + 32) 0 + get_or low j 0)) (j + 16) (get_or row (j + 16 + 32) 0 + get_or high j 0))
      (j + 16 + 32)
      (get_or row (j + 16 + 32) 0 + (all - get_or high j 0)))
  summing_more j h p = record { zeros = quarters_more _ _ _ _ j h p.zeros; ones = quarters_more _ _ _ _ j h p.ones }

  pub summing_end : Halves low high all → Summing 16 row low high all zero one → Summed row (pairs_of low high all) all zero one
  summing_end b p =
      record {
        even0 =
            halves (λ (j : ℕ). get_or zero j 0 ≡ get_or row j 0 + get_or pairs j 0) (λ k h. p.zeros.first k h ∙ ap (λ (q : ℕ). get_or row k 0 + q) (sym (lows k h)))
            (λ k h. p.zeros.second k h ∙ ap (λ (q : ℕ). get_or row (k + 16) 0 + q) (sym (highs k h)));
        even1 =
            halves (λ (j : ℕ). get_or one j 0 ≡ get_or row (j + 32) 0 + (all - get_or pairs j 0))
            (λ k h. p.ones.first k h ∙ ap (λ (q : ℕ). get_or row (k + 32) 0 + (all - q)) (sym (lows k h)))
            (λ k h. p.ones.second k h ∙ ap (λ (q : ℕ). get_or row (k + 16 + 32) 0 + q) (rest k h));
        odd0 =
            halves (λ (j : ℕ). get_or zero (j + 32) 0 ≡ get_or row j 0 + (all - get_or pairs j 0)) (λ k h. p.zeros.third k h ∙ ap (λ (q : ℕ). get_or row k 0 + (all - q)) (sym (lows k h)))
            (λ k h. p.zeros.fourth k h ∙ ap (λ (q : ℕ). get_or row (k + 16) 0 + q) (rest k h));
        odd1 =
            halves (λ (j : ℕ). get_or one (j + 32) 0 ≡ get_or row (j + 32) 0 + get_or pairs j 0) (λ k h. p.ones.third k h ∙ ap (λ (q : ℕ). get_or row (k + 32) 0 + q) (sym (lows k h)))
            (λ k h. p.ones.fourth k h ∙ ap (λ (q : ℕ). get_or row (k + 16 + 32) 0 + q) (sym (highs k h)));
      }
    where
      pairs : List ℕ
      pairs = pairs_of low high all

      lows : (k : ℕ) → k < 16 → get_or pairs k 0 ≡ get_or low k 0
      lows = pairs_of_low low high all

      highs : (k : ℕ) → k < 16 → get_or pairs (k + 16) 0 ≡ all - get_or high k 0
      highs = pairs_of_high low high all

      rest : (k : ℕ) → k < 16 → get_or high k 0 ≡ all - get_or pairs (k + 16) 0
      rest k h = omega (arith, highs k h, b.high_within k h)

module _ {row pairs : List ℕ} {all : ℕ} {zero one : List ℕ} where
  -- sums of a low row and a small step stay within 15 bits
  pub summed_within : Low row → Small pairs all → Summed row pairs all zero one → Within zero one
  summed_within l s m = record { each = λ p h. each p h (dec_lt p 32) }
    where
      even : (j : ℕ) → j < 32 → (get_or one j 0 ≤ 32767) × (get_or zero j 0 ≤ 32767)
      even j h = (omega (arith, m.even1 j h, l.under (j + 32) (omega arith), s.most), omega (arith, m.even0 j h, l.under j (omega arith), s.most, s.within j h))

      odd : (j : ℕ) → j < 32 → (get_or one (j + 32) 0 ≤ 32767) × (get_or zero (j + 32) 0 ≤ 32767)
      odd j h = (omega (arith, m.odd1 j h, l.under (j + 32) (omega arith), s.most, s.within j h), omega (arith, m.odd0 j h, l.under j (omega arith), s.most))

      each : (p : ℕ) → p < 64 → Dec (p < 32) → (get_or one p 0 ≤ 32767) × (get_or zero p 0 ≤ 32767)
      each p h (yes z) = even p z
      each p h (no z) =
          let e : p - 32 + 32 ≡ p = omega arith in
          subst (λ (q : ℕ). (get_or one q 0 ≤ 32767) × (get_or zero q 0 ≤ 32767)) e (odd (p - 32) (omega arith))
