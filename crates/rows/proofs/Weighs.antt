-- The eight sums of a step stand where 001's words put them: each word selects the newest and the oldest bit, so that either turned over turns all three coded bits.
-- Assumes nothing.
use mathlib.Core.Bool.{Bool, true, false, cond, not, ◌&&◌, xor}
use mathlib.Core.List.{List, [], ◌∷◌, ◌++◌}
use mathlib.Core.Path.{◌≡◌, refl, sym, ap, subst, fun_ext, ◌∙◌}
use Prim.Native.Nat.{ℕ, ◌+◌, ◌-◌, ◌*◌, ◌/◌, ◌%◌, ◌≤◌, ◌<◌}
use native.Mathlib.Omega.{arith}
use lib.ListN.{get_or}
use Rattle.bits.specs.Bits.{bits_of, is_one}
use Rattle.coder.specs.Coder.{tap, uplink_words}
use Rattle.coder.specs.Cost.{weight, against, distance}
use Rattle.coder.proofs.Cost.{against_both, weight_le}
use Rattle.trellis.specs.Numbered.{price}
use Rattle.lists.specs.Lists.{firsts}
use Rattle.lists.proofs.Lists.{get_or-firsts}
use Rattle.rows.specs.Rows.{Opposes, Arranged, Weighs, Split, sum_of, low_half, high_half, pairs_of}
use Rattle.rows.proofs.Lists.{pairs_of_low}

xor_not_right : (a b : Bool) → xor a (not b) ≡ not (xor a b)
unfolding xor
xor_not_right true true = refl
xor_not_right true false = refl
xor_not_right false true = refl
xor_not_right false false = refl

-- a word that selects the newest bit gives the opposite for the opposite
tap_newest : (gs taken : List Bool) → tap (true ∷ gs) (true ∷ taken) ≡ not (tap (true ∷ gs) (false ∷ taken))
unfolding tap xor
tap_newest gs taken = go (tap gs taken)
  where
    go : (b : Bool) → xor true b ≡ not (xor false b)
    go true = refl
    go false = refl

module _ (g5 g4 g3 g2 g1 : Bool) (b x5 x4 x3 x2 x1 : Bool) where
  -- a word of seven bits that selects the oldest gives the opposite for the opposite
  tap_oldest :
      tap (true ∷ g5 ∷ g4 ∷ g3 ∷ g2 ∷ g1 ∷ true ∷ []) (b ∷ x5 ∷ x4 ∷ x3 ∷ x2 ∷ x1 ∷ true ∷ [])
      ≡ not (tap (true ∷ g5 ∷ g4 ∷ g3 ∷ g2 ∷ g1 ∷ true ∷ []) (b ∷ x5 ∷ x4 ∷ x3 ∷ x2 ∷ x1 ∷ false ∷ []))
  unfolding tap xor
  tap_oldest =
      ap (λ (r : Bool). xor (true && b) (xor (g5 && x5) (xor (g4 && x4) (xor (g3 && x3) (xor (g2 && x2) (xor (g1 && x1) r)))))) last
      ∙ ap (λ (r : Bool). xor (true && b) (xor (g5 && x5) (xor (g4 && x4) (xor (g3 && x3) (xor (g2 && x2) r))))) (xor_not_right (g1 && x1) _)
      ∙ ap (λ (r : Bool). xor (true && b) (xor (g5 && x5) (xor (g4 && x4) (xor (g3 && x3) r)))) (xor_not_right (g2 && x2) _)
      ∙ ap (λ (r : Bool). xor (true && b) (xor (g5 && x5) (xor (g4 && x4) r))) (xor_not_right (g3 && x3) _)
      ∙ ap (λ (r : Bool). xor (true && b) (xor (g5 && x5) r)) (xor_not_right (g4 && x4) _)
      ∙ ap (λ (r : Bool). xor (true && b) r) (xor_not_right (g5 && x5) _)
      ∙ xor_not_right (true && b) _
    where
      last : xor (true && true) false ≡ not (xor (true && false) false)
      last = refl

-- the number of the state 2j or 2j + 1 as six bits: they differ in the oldest alone
even_bits : (j : ℕ) → bits_of 6 (2 * j) ≡ is_one (j / 16 % 2) ∷ is_one (j / 8 % 2) ∷ is_one (j / 4 % 2) ∷ is_one (j / 2 % 2) ∷ is_one (j % 2) ∷ false ∷ []
unfolding bits_of
even_bits j =
    let e5 : 2 * j / 32 ≡ j / 16 = omega arith in
    let e4 : 2 * j / 16 ≡ j / 8 = omega arith in
    let e3 : 2 * j / 8 ≡ j / 4 = omega arith in
    let e2 : 2 * j / 4 ≡ j / 2 = omega arith in
    let e1 : 2 * j / 2 ≡ j = omega arith in
    let e0 : 2 * j / 1 % 2 ≡ 0 = omega arith in
    rw (e5, e4, e3, e2, e1, e0)

odd_bits : (j : ℕ) → bits_of 6 (2 * j + 1) ≡ is_one (j / 16 % 2) ∷ is_one (j / 8 % 2) ∷ is_one (j / 4 % 2) ∷ is_one (j / 2 % 2) ∷ is_one (j % 2) ∷ true ∷ []
unfolding bits_of
odd_bits j =
    let e5 : (2 * j + 1) / 32 ≡ j / 16 = omega arith in
    let e4 : (2 * j + 1) / 16 ≡ j / 8 = omega arith in
    let e3 : (2 * j + 1) / 8 ≡ j / 4 = omega arith in
    let e2 : (2 * j + 1) / 4 ≡ j / 2 = omega arith in
    let e1 : (2 * j + 1) / 2 ≡ j = omega arith in
    let e0 : (2 * j + 1) / 1 % 2 ≡ 1 = omega arith in
    rw (e5, e4, e3, e2, e1, e0)

-- the three coded bits after the one run of bits are the opposites of those after the other
record Opposed (taken rest : List Bool) : Type 0 where
  first : tap uplink_words.first taken ≡ not (tap uplink_words.first rest)
  second : tap uplink_words.second taken ≡ not (tap uplink_words.second rest)
  third : tap uplink_words.third taken ≡ not (tap uplink_words.third rest)

opposed_newest : (taken : List Bool) → Opposed (true ∷ taken) (false ∷ taken)
unfolding uplink_words bits_of
opposed_newest taken =
    record {
      first = tap_newest (bits_of 6 0o155) taken;
      second = tap_newest (bits_of 6 0o123) taken;
      third = tap_newest (bits_of 6 0o137) taken;
    }

oldest_opposed : (b x5 x4 x3 x2 x1 : Bool) → Opposed (b ∷ x5 ∷ x4 ∷ x3 ∷ x2 ∷ x1 ∷ true ∷ []) (b ∷ x5 ∷ x4 ∷ x3 ∷ x2 ∷ x1 ∷ false ∷ [])
unfolding uplink_words bits_of
oldest_opposed b x5 x4 x3 x2 x1 =
    record {
      first = tap_oldest true false true true false b x5 x4 x3 x2 x1;
      second = tap_oldest false true false false true b x5 x4 x3 x2 x1;
      third = tap_oldest false true true true true b x5 x4 x3 x2 x1;
    }

opposed_oldest : (x : Bool) (j : ℕ) → Opposed (x ∷ bits_of 6 (2 * j + 1)) (x ∷ bits_of 6 (2 * j))
opposed_oldest x j = rw (odd_bits j, even_bits j) (oldest_opposed x (is_one (j / 16 % 2)) (is_one (j / 8 % 2)) (is_one (j / 4 % 2)) (is_one (j / 2 % 2)) (is_one (j % 2)))

-- what three coded bits and three values are apart, as the code adds it
abbrev pub sum3 : (a b c : ℕ) → Bool → Bool → Bool → ℕ
sum3 a b c x y z = against x a + against y b + against z c

-- the sums for the other 16 even states taking 0
abbrev opposites : (Bool → Bool → Bool → ℕ) → List ℕ
opposites s =
    s true false false ∷ s true true true ∷ s false false true ∷ s false true false ∷
    s false false true ∷ s false true false ∷ s true false false ∷ s true true true ∷
    s true true true ∷ s true false false ∷ s false true false ∷ s false false true ∷
    s false true false ∷ s false false true ∷ s true true true ∷ s true false false ∷ []

-- the second half lists the sums of the first, eight places on
high_half_low : (s : Bool → Bool → Bool → ℕ) (j : ℕ) → j < 16 → get_or (high_half s) j 0 ≡ get_or (low_half s) ((j + 8) % 16) 0
unfolding firsts
high_half_low s j h = ap (λ (l : List ℕ). get_or l j 0) listed ∙ get_or-firsts 16 (λ k. get_or (low_half s) ((k + 8) % 16) 0) j h
  where
    listed : high_half s ≡ firsts 16 (λ k. get_or (low_half s) ((k + 8) % 16) 0)
    listed = refl

module _ (a b c : ℕ) where
  distance_three : (x y z : Bool) → distance (x ∷ y ∷ z ∷ []) (a ∷ b ∷ c ∷ []) ≡ sum3 a b c x y z
  unfolding distance
  distance_three x y z = omega arith

  pub whole : ℕ
  whole = weight a + weight b + weight c

  against-not : (x : Bool) (v : ℕ) → against (not x) v + against x v ≡ weight v
  against-not true v = against_both v
  against-not false v = omega (arith, against_both v)

  -- three bits and their opposites share the whole weight
  sum3-not : (x y z : Bool) → sum3 a b c (not x) (not y) (not z) + sum3 a b c x y z ≡ whole
  unfolding whole
  sum3-not x y z = omega (arith, against-not x a, against-not y b, against-not z c)

  -- what a step costs is the sum for its three coded bits
  price-sum3 :
      (x : Bool) (s : ℕ)
      → price uplink_words (a ∷ b ∷ c ∷ []) x s
      ≡ sum3 a b c (tap uplink_words.first (x ∷ bits_of 6 s)) (tap uplink_words.second (x ∷ bits_of 6 s)) (tap uplink_words.third (x ∷ bits_of 6 s))
  unfolding price
  price-sum3 x s = distance_three _ _ _

  -- two steps with opposite coded bits cost the whole weight together
  price_opposed : (x y : Bool) (s t : ℕ) → Opposed (x ∷ bits_of 6 s) (y ∷ bits_of 6 t) → price uplink_words (a ∷ b ∷ c ∷ []) x s + price uplink_words (a ∷ b ∷ c ∷ []) y t ≡ whole
  price_opposed x y s t o =
      rw (price-sum3 x s, price-sum3 y t, o.first, o.second, o.third)
      (sum3-not (tap uplink_words.first (y ∷ bits_of 6 t)) (tap uplink_words.second (y ∷ bits_of 6 t)) (tap uplink_words.third (y ∷ bits_of 6 t)))

  whole_le : whole ≤ 384
  unfolding whole
  whole_le = omega (arith, weight_le a, weight_le b, weight_le c)

  -- the cost of taking 0 in the state 2j, for each j
  pub pair_cost : ℕ → ℕ
  pair_cost j = price uplink_words (a ∷ b ∷ c ∷ []) false (2 * j)

  -- numbers that are those costs and the whole weight are what a step weighs
  pub weighs_of : (pairs : List ℕ) (all : ℕ) → pairs ≡ firsts 32 pair_cost → all ≡ whole → Weighs (a ∷ b ∷ c ∷ []) pairs all
  unfolding pair_cost
  weighs_of pairs all e f =
      record {
        small = record { most = omega (arith, whole_le); within = λ j h. omega (arith, is j h, newest (2 * j)) };
        even0 = λ j h. sym (is j h);
        even1 = λ j h. omega (arith, is j h, newest (2 * j));
        odd0 = λ j h. omega (arith, is j h, oldest j);
        odd1 = λ j h. omega (arith, is j h, oldest j, newest (2 * j + 1));
      }
    where
      is : (j : ℕ) → j < 32 → get_or pairs j 0 ≡ pair_cost j
      is j h = ap (λ (l : List ℕ). get_or l j 0) e ∙ get_or-firsts 32 pair_cost j h

      newest : (s : ℕ) → price uplink_words (a ∷ b ∷ c ∷ []) true s + price uplink_words (a ∷ b ∷ c ∷ []) false s ≡ whole
      newest s = price_opposed true false s s (opposed_newest (bits_of 6 s))

      oldest : (j : ℕ) → price uplink_words (a ∷ b ∷ c ∷ []) false (2 * j + 1) + price uplink_words (a ∷ b ∷ c ∷ []) false (2 * j) ≡ whole
      oldest j = price_opposed false false (2 * j + 1) (2 * j) (opposed_oldest false j)

  -- the eight sums for the 32 pairs are what 001's words give
  arrangement : List ℕ
  arrangement = low_half (sum3 a b c) ++ opposites (sum3 a b c)

  weighs_arranged : Weighs (a ∷ b ∷ c ∷ []) arrangement whole
  unfolding firsts uplink_words bits_of tap xor pair_cost arrangement
  weighs_arranged = weighs_of arrangement whole (listed ∙ sym (ap (firsts 32) (fun_ext summed))) refl
    where
      coded : ℕ → ℕ
      coded j =
          sum3 a b c (tap uplink_words.first (false ∷ bits_of 6 (2 * j))) (tap uplink_words.second (false ∷ bits_of 6 (2 * j))) (tap uplink_words.third (false ∷ bits_of 6 (2 * j)))

      summed : (j : ℕ) → pair_cost j ≡ coded j
      summed j = price-sum3 false (2 * j)

      listed : low_half (sum3 a b c) ++ opposites (sum3 a b c) ≡ firsts 32 coded
      listed = refl

  -- what four sums leave of the whole are the other four
  pairs_arranged : pairs_of (low_half (sum3 a b c)) (high_half (sum3 a b c)) whole ≡ arrangement
  unfolding firsts arrangement
  pairs_arranged =
      ap (λ (q : ℕ). shape q (whole - sum3 a b c false false false) (whole - sum3 a b c true true false) (whole - sum3 a b c true false true)) (left false true true)
      ∙ ap (λ (q : ℕ). shape (sum3 a b c true false false) q (whole - sum3 a b c true true false) (whole - sum3 a b c true false true)) (left false false false)
      ∙ ap (λ (q : ℕ). shape (sum3 a b c true false false) (sum3 a b c true true true) q (whole - sum3 a b c true false true)) (left true true false)
      ∙ ap (λ (q : ℕ). shape (sum3 a b c true false false) (sum3 a b c true true true) (sum3 a b c false false true) q) (left true false true)
    where
      left : (x y z : Bool) → whole - sum3 a b c x y z ≡ sum3 a b c (not x) (not y) (not z)
      left x y z = omega (arith, sum3-not x y z)

      shape : (p q r t : ℕ) → List ℕ
      shape p q r t = low_half (sum3 a b c) ++ (p ∷ q ∷ r ∷ t ∷ r ∷ t ∷ p ∷ q ∷ q ∷ p ∷ t ∷ r ∷ t ∷ r ∷ q ∷ p ∷ [])

  pub split_whole : Split (a ∷ b ∷ c ∷ []) (low_half (sum3 a b c)) (high_half (sum3 a b c)) whole
  split_whole = record { halves = record { most = weighs.small.most; low_within = low; high_within = high }; weighs = weighs }
    where
      weighs : Weighs (a ∷ b ∷ c ∷ []) (pairs_of (low_half (sum3 a b c)) (high_half (sum3 a b c)) whole) whole
      weighs = subst (λ (l : List ℕ). Weighs (a ∷ b ∷ c ∷ []) l whole) (sym pairs_arranged) weighs_arranged

      low : (j : ℕ) → j < 16 → get_or (low_half (sum3 a b c)) j 0 ≤ whole
      low j h = omega (arith, weighs.small.within j (omega arith), pairs_of_low (low_half (sum3 a b c)) (high_half (sum3 a b c)) whole j h)

      high : (j : ℕ) → j < 16 → get_or (high_half (sum3 a b c)) j 0 ≤ whole
      high j h = omega (arith, high_half_low (sum3 a b c) j h, low ((j + 8) % 16) (omega arith))

  -- the halves as the code lists them are what 001's words give
  pub split_arranged : Split (a ∷ b ∷ c ∷ []) (low_half (sum3 a b c)) (high_half (sum3 a b c)) (sum3 a b c false false false + sum3 a b c true true true)
  split_arranged = subst (λ (q : ℕ). Split (a ∷ b ∷ c ∷ []) (low_half (sum3 a b c)) (high_half (sum3 a b c)) q) total split_whole
    where
      total : whole ≡ sum3 a b c false false false + sum3 a b c true true true
      total = omega (arith, sum3-not true true true)

-- the sums of the six amounts
pub split_summed :
    {a b c a0 a1 b0 b1 c0 c1 : ℕ} {low high : List ℕ} {all : ℕ}
    → Opposes false a a0 → Opposes true a a1 → Opposes false b b0 → Opposes true b b1 → Opposes false c c0 → Opposes true c c1
    → Arranged a0 a1 b0 b1 c0 c1 low high all → Split (a ∷ b ∷ c ∷ []) low high all
split_summed {a} {b} {c} {a0} {a1} {b0} {b1} {c0} {c1} pa0 pa1 pb0 pb1 pc0 pc1 r =
    rw (r.low_is, r.high_is, r.all_is)
    (subst (λ (s : Bool → Bool → Bool → ℕ). Split (a ∷ b ∷ c ∷ []) (low_half s) (high_half s) (s false false false + s true true true)) (sym same) (split_arranged a b c))
  where
    each : (x y z : Bool) → sum_of a0 a1 b0 b1 c0 c1 x y z ≡ sum3 a b c x y z
    each x y z = rw (at a x pa0.is pa1.is, at b y pb0.is pb1.is, at c z pc0.is pc1.is)
      where
        at : (v : ℕ) {v0 v1 : ℕ} (x : Bool) → v0 ≡ against false v → v1 ≡ against true v → cond x v1 v0 ≡ against x v
        at v true e f = f
        at v false e f = e

    same : sum_of a0 a1 b0 b1 c0 c1 ≡ sum3 a b c
    same = fun_ext λ x. fun_ext λ y. fun_ext λ z. each x y z
