-- The place of an index in its sub-packet, clause 6.4.4.6.3: counted as the clause counts it, it is what the relation of Lies.antt says, for every
-- extension and every index. From that its closed form. Assumes nothing.
use mathlib.Core.Bool.{Bool, true, false, cond}
use mathlib.Core.Path.{◌≡◌, refl}
use Prim.Native.Nat.{ℕ, zero, suc, ◌+◌, ◌/◌, ◌≤◌, ◌<◌}
use mathlib.Core.Logic.{◌⊎◌, inl, inr, ⊎_elim}
use native.Mathlib.Nat.{not-suc-le-zero, eq-or-lt_of_le, lt_irrefl, lt_trans}
use native.Mathlib.Omega.{arith}
use lib.Arith.{digits_lt, lt_of_le-ne}
use lib.Dec.{eqb}
use borrow.Author.Tests.{eqb-true, eqb-false}
use Rattle.std.proofs.lemmas.Bool.{cases_lt}
use Rattle.interleave.specs.Interleave.{group, group_index, sub_packet, count_in, order}
use Rattle.interleave.proofs.Lies.{Grouped, Lies, first, core, extended, grouped, lies_sub_packet, sub_packet_lies, lies_below, index_of, index_of_lies, lies_index_of}

-- a later group lies higher
grouped_rises : {e i j g g' r r' : ℕ} → Grouped e i g r → Grouped e j g' r' → g < g' → i < j
grouped_rises p q h = omega (arith, digits_lt h p.below)

-- in a sub-packet a later place has a higher index
pub lies_rises : {e i j s o p : ℕ} → Lies e i s o → Lies e j s p → o < p → i < j
lies_rises (first a b c) (first a' b' c') h = omega arith
lies_rises (first a b c) (core a' b' c' d') h = omega arith
lies_rises (first a b c) (extended a' b' c' d') h = omega arith
lies_rises (core a b c d) (first a' b' c') h = omega arith
lies_rises (core a b c d) (core a' b' c' d') h = grouped_rises a a' (omega arith)
lies_rises (core a b c d) (extended a' b' c' d') h = omega arith
lies_rises (extended a b c d) (first a' b' c') h = omega arith
lies_rises (extended a b c d) (core a' b' c' d') h = omega arith
lies_rises (extended a b c d) (extended a' b' c' d') h = grouped_rises a a' (omega arith)

module _ (e s : ℕ) (inside : s < 24 + e) where
  index_of_rises : (o p : ℕ) → o < p → index_of e s o < index_of e s p
  index_of_rises o p h = lies_rises (lies_index_of inside o) (lies_index_of inside p) h

  -- and a higher index has a later place
  index_of_reflects : (o p : ℕ) → index_of e s o < index_of e s p → o < p
  index_of_reflects o p h = go (cases_lt o p)
    where
      go : (o < p) ⊎ (p ≤ o) → o < p
      go (inl q) = q
      go (inr q) =
          ⊎_elim (λ t. absurd (lt_irrefl _ (rw t at h))) (λ t. absurd (lt_irrefl _ (lt_trans h (index_of_rises p o t))))
          (eq-or-lt_of_le q)

  -- k has seen the places below o and no other
  abbrev Seen : ℕ → ℕ → Type 0
  Seen k o = (k ≤ index_of e s o) × ((p : ℕ) → p < o → index_of e s p < k)

  -- where the index k itself lies in the sub-packet it has seen one place less than the next index
  seen_next : (k o p : ℕ) → Lies e k s p → Seen (suc k) o → (Seen k p → count_in e s k ≡ p) → count_in e s k + 1 ≡ o
  seen_next k o p lies (above, below) counted =
      let here : index_of e s p ≡ k = index_of_lies lies in
      let later : p < o = index_of_reflects p o (omega arith) in
      let now : count_in e s k ≡ p = counted (omega arith, λ q h. omega (arith, index_of_rises q p h)) in
      ⊎_elim (λ t. omega arith) (λ t. omega (arith, below (suc p) t, index_of_rises p (suc p) (omega arith)))
      (eq-or-lt_of_le later)

  -- as many indices of the sub-packet are below k as it has seen places
  count_in_seen : (k o : ℕ) → Seen k o → count_in e s k ≡ o
  unfolding count_in
  count_in_seen zero zero seen = refl
  count_in_seen zero (suc o) seen = absurd (not-suc-le-zero (seen.1 o (omega arith)))
  count_in_seen (suc k) o seen = go (eqb (sub_packet e k) s) refl (count_in_seen k)
    where
      lies : sub_packet e k ≡ s → (p : ℕ) × Lies e k s p
      lies q = rw q at (lies_sub_packet e k)

      go : (b : Bool)
          → eqb (sub_packet e k) s ≡ b
          → ((p : ℕ) → Seen k p → count_in e s k ≡ p)
          → cond b (count_in e s k + 1) (count_in e s k) ≡ o
      go true q counted = let p = lies (eqb-true _ _ q) in seen_next k o p.0 p.1 seen (counted p.0)
      go false q counted =
          counted o (
            omega arith,
            λ p h. lt_of_le-ne (omega (arith, seen.1 p h)) (λ t. eqb-false _ _ q (sub_packet_lies (rw t at (lies_index_of inside p)))),
          )

-- the place is that of the relation
pub order_lies : {e i s o : ℕ} → Lies e i s o → order e i ≡ o
unfolding order
order_lies {e} {i} {s} {o} p =
    rw (sub_packet_lies p)
    (count_in_seen e s (lies_below p) i o
    (omega (arith, index_of_lies p), λ q h. lies_rises (lies_index_of (lies_below p) q) p h))

-- every index lies in its sub-packet at its place
pub lies_order : (e i : ℕ) → Lies e i (sub_packet e i) (order e i)
lies_order e i = let p = lies_sub_packet e i in rw (order_lies p.1) p.1

-- the place in closed form: of the first 288, of the core's and of the extension's in a group
pub order_first : (e i : ℕ) → i < 288 → order e i ≡ i / 24
order_first e i h = order_lies (first h refl refl)

pub order_core : (e i : ℕ) → 288 ≤ i → group_index e i < 12 → order e i ≡ 12 + group e i / 2
order_core e i h small = order_lies (core (grouped e i h) small refl refl)

pub order_extended : (e i : ℕ) → 288 ≤ i → 12 ≤ group_index e i → order e i ≡ group e i
order_extended e i h large = order_lies (extended (grouped e i h) large refl refl)
