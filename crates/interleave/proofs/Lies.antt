-- Where an index of the shifted stream lies, clauses 6.4.4.6.2 and 6.4.4.6.3: one relation of index, sub-packet and place in it, with a case for each of
-- the rule's three, and the index that it gives back for a sub-packet and a place. Every index lies in its sub-packet, and every place of every
-- sub-packet has just one index. Assumes nothing.
use mathlib.Core.Bool.{Bool, true, false, cond}
use mathlib.Core.Path.{◌≡◌, refl, sym, ◌∙◌}
use mathlib.Core.Logic.{◌⊎◌, inl, inr}
use Prim.Native.Nat.{ℕ, ◌+◌, ◌-◌, ◌*◌, ◌/◌, ◌%◌, ◌≤◌, ◌<◌}
use native.Mathlib.Nat.{div-add-mod', mod-lt}
use native.Mathlib.Omega.{arith}
use lib.Arith.{digits_div, digits_mod}
use lib.Dec.{ltb}
use borrow.Author.Tests.{ltb-true, ltb-false, lt-ltb, le-ltb}
use Rattle.std.proofs.lemmas.Bool.{cases_lt}
use Rattle.interleave.specs.Interleave.{group_length, group, group_index, sub_packet}

-- index i stands at r in group g
pub record Grouped (e i g r : ℕ) : Type 0 where
  pub at : i ≡ 288 + (g * group_length e + r)
  pub below : r < group_length e

-- index i lies in sub-packet s at place o: it is one of the first 288, or stands among the core's 12 of a group or among the extension's
pub data Lies (e i s o : ℕ) : Type 0 where
  first : i < 288 → s ≡ i % 24 → o ≡ i / 24 → Lies e i s o
  core : {g r : ℕ} → Grouped e i g r → r < 12 → s ≡ r * 2 + g % 2 → o ≡ 12 + g / 2 → Lies e i s o
  extended : {g r : ℕ} → Grouped e i g r → 12 ≤ r → s ≡ r + 12 → o ≡ g → Lies e i s o

-- the index at place o of sub-packet s
unfoldable pub index_of : ℕ → ℕ → ℕ → ℕ
index_of e s o =
    cond (ltb s 24)
    (cond (ltb o 12) (24 * o + s) (288 + ((2 * (o - 12) + s % 2) * group_length e + s / 2)))
    (288 + (o * group_length e + (s - 12)))

module _ {e i g r : ℕ} (p : Grouped e i g r) where
  -- an index of group g at r has that group ..
  pub group_grouped : group e i ≡ g
  unfolding group
  group_grouped = let d : i - 288 ≡ g * group_length e + r = omega arith in rw (d, digits_div g p.below)

  -- .. and that index in it
  pub group_index_grouped : group_index e i ≡ r
  unfolding group_index
  group_index_grouped = let d : i - 288 ≡ g * group_length e + r = omega arith in rw (d, digits_mod g p.below)

-- every index from 288 on stands in its group at its index
pub grouped : (e i : ℕ) → 288 ≤ i → Grouped e i (group e i) (group_index e i)
unfolding group group_index
grouped e i h =
    record {
      at = omega (arith, div-add-mod' (i - 288) (group_length e));
      below = mod-lt (i - 288) (omega arith);
    }

-- the sub-packet is that of the relation
pub sub_packet_lies : {e i s o : ℕ} → Lies e i s o → sub_packet e i ≡ s
unfolding sub_packet
sub_packet_lies {i = i} (first h p q) = rw (lt-ltb i 288 h) (sym p)
sub_packet_lies {i = i} (core {r = r} at h p q) =
    rw (le-ltb i 288 (omega arith), group_index_grouped at, group_grouped at, lt-ltb r 12 h) (sym p)
sub_packet_lies {i = i} (extended {r = r} at h p q) =
    rw (le-ltb i 288 (omega arith), group_index_grouped at, le-ltb r 12 h) (sym p)

-- every index lies in its sub-packet
pub lies_sub_packet : (e i : ℕ) → (o : ℕ) × Lies e i (sub_packet e i) o
lies_sub_packet e i = go (cases_lt i 288) (cases_lt (group_index e i) 12)
  where
    lies : {s o : ℕ} → Lies e i s o → (o : ℕ) × Lies e i (sub_packet e i) o
    lies {o = o} p = (o, rw (sub_packet_lies p) p)

    go : (i < 288) ⊎ (288 ≤ i)
        → (group_index e i < 12) ⊎ (12 ≤ group_index e i)
        → (o : ℕ) × Lies e i (sub_packet e i) o
    go (inl p) q = lies (first p refl refl)
    go (inr p) (inl q) = lies (core (grouped e i p) q refl refl)
    go (inr p) (inr q) = lies (extended (grouped e i p) q refl refl)

-- the sub-packet is one of the 24 of the core or the e of the extension
pub lies_below : {e i s o : ℕ} → Lies e i s o → s < 24 + e
lies_below (first h p q) = omega arith
lies_below (core at h p q) = omega arith
lies_below (extended at h p q) = omega arith

-- the index that is given back is the one that lies there, so there is no other ..
pub index_of_lies : {e i s o : ℕ} → Lies e i s o → index_of e s o ≡ i
unfolding index_of
index_of_lies {s = s} {o = o} (first h p q) = rw (lt-ltb s 24 (omega arith), lt-ltb o 12 (omega arith)) (omega arith)
index_of_lies {s = s} {o = o} (core {g} {r} at h p q) =
    let same : 2 * (o - 12) + s % 2 ≡ g = omega arith in
    let half : s / 2 ≡ r = omega arith in
    rw (lt-ltb s 24 (omega arith), le-ltb o 12 (omega arith), same, half) (sym at.at)
index_of_lies {s = s} (extended {r = r} at h p q) =
    let back : s - 12 ≡ r = omega arith in
    rw (le-ltb s 24 (omega arith), back, q) (sym at.at)

pub lies_unique : {e i j s o : ℕ} → Lies e i s o → Lies e j s o → i ≡ j
lies_unique p q = sym (index_of_lies p) ∙ index_of_lies q

-- .. and it lies there
pub lies_index_of : {e s : ℕ} → s < 24 + e → (o : ℕ) → Lies e (index_of e s o) s o
unfolding index_of
lies_index_of {e} {s} h o = go (ltb s 24) refl (ltb o 12) refl
  where
    go : (b : Bool)
        → ltb s 24 ≡ b
        → (c : Bool)
        → ltb o 12 ≡ c
        → Lies e
        (cond b (cond c (24 * o + s) (288 + ((2 * (o - 12) + s % 2) * group_length e + s / 2))) (288 + (o * group_length e + (s - 12))))
        s
        o
    go true p true q = first (omega (arith, ltb-true)) (omega (arith, ltb-true)) (omega (arith, ltb-true))
    go true p false q =
        core (record { at = refl; below = omega (arith, ltb-true) }) (omega (arith, ltb-true)) (omega (arith, ltb-true))
        (omega (arith, ltb-false))
    go false p c q =
        extended (record { at = refl; below = omega (arith, ltb-false) }) (omega (arith, ltb-false))
        (omega (arith, ltb-false))
        refl
