-- Lists given place by place: what stands at each place of the values received, the pilots, and that only one frame carries given coded bits.
-- Assumes nothing.
use mathlib.Core.Bool.{cond}
use mathlib.Core.List.{List}
use mathlib.Core.Path.{◌≡◌, sym, ◌∙◌}
use mathlib.Core.Logic.{◌⊎◌, inl, inr}
use Prim.Native.Nat.{ℕ, ◌+◌, ◌-◌, ◌*◌, ◌/◌, ◌%◌, ◌≤◌, ◌<◌}
use native.Mathlib.Omega.{arith}
use lib.Dec.{eqb}
use lib.ListN.{length, get_or}
use lib.Seq.{ext_get_or}
use borrow.Author.Tests.{lt-ltb, le-ltb}
use Rattle.std.proofs.lemmas.Bool.{cases_lt}
use Rattle.lists.proofs.Lists.{length-firsts, get_or-firsts}
use Rattle.interleave.specs.Interleave.{coded_bits, sub_packets, Placed, core_pilot, extension_pilot, pilot, Length, DataSymbol}
use Rattle.interleave.specs.Bursts.{Bursts, value_of, heard, received}
use Rattle.interleave.proofs.Placed.{placed_onto}

-- a value for each coded bit ..
pub length-received : (l : ℕ) (marks values : List ℕ) → length (received l marks values) ≡ coded_bits l
unfolding received
length-received l marks values = length-firsts (coded_bits l) (heard l marks values)

-- .. each the one heard for it
pub get_or-received : (l : ℕ) (marks values : List ℕ) (j : ℕ)
    → j < coded_bits l
    → get_or (received l marks values) j 0 ≡ heard l marks values j
unfolding received
get_or-received l marks values j h = get_or-firsts (coded_bits l) (heard l marks values) j h

-- the value heard for a coded bit is that of its place
pub heard_placed : {l j s m : ℕ} (marks values : List ℕ)
    → Placed l j s m
    → heard l marks values j ≡ cond (eqb (get_or marks s 0) 1) (get_or values (24 * s + value_of m) 0) 0
unfolding heard
heard_placed marks values p = rw (p.within, p.packet)

-- the pilot of a sub-packet is the core's or the extension's
pub pilot_core : (s p : ℕ) → s < 24 → pilot s p ≡ get_or core_pilot p 0
unfolding pilot
pilot_core s p h = rw (lt-ltb s 24 h)

pub pilot-extension : (s p : ℕ) → 24 ≤ s → pilot s p ≡ get_or extension_pilot p 0
unfolding pilot
pilot-extension s p h = rw (le-ltb s 24 h)

-- only one frame carries given coded bits: each of its symbols is a coded bit's or the pilot's
pub bursts_unique : {l : ℕ} {coded frame frame' : List ℕ} → Length l → Bursts l coded frame → Bursts l coded frame' → frame ≡ frame'
bursts_unique {l} {coded} {frame} {frame'} long p q = ext_get_or 0 frame frame' (p.sized ∙ sym q.sized) same
  where
    carried : (i : ℕ) → i < 36 * sub_packets l → DataSymbol (i % 36) → get_or frame i 0 ≡ get_or frame' i 0
    carried i h d =
        let (j, placed) = placed_onto long {s = i / 36} (omega arith) d in
        let split : i ≡ 36 * (i / 36) + i % 36 = omega arith in
        rw split (p.bits j (i / 36) (i % 36) placed ∙ sym (q.bits j (i / 36) (i % 36) placed))

    piloted : (i : ℕ) → i < 36 * sub_packets l → 12 ≤ i % 36 → i % 36 < 24 → get_or frame i 0 ≡ get_or frame' i 0
    piloted i h low high =
        let split : i ≡ 36 * (i / 36) + 12 + (i % 36 - 12) = omega arith in
        let s : i / 36 < sub_packets l = omega arith in
        let k : i % 36 - 12 < 12 = omega arith in
        rw split (p.pilots (i / 36) (i % 36 - 12) s k ∙ sym (q.pilots (i / 36) (i % 36 - 12) s k))

    same : (i : ℕ) → i < length frame → get_or frame i 0 ≡ get_or frame' i 0
    same i h = go (cases_lt (i % 36) 12) (cases_lt (i % 36) 24)
      where
        inside : i < 36 * sub_packets l
        inside = omega (arith, p.sized)

        go : (i % 36 < 12) ⊎ (12 ≤ i % 36) → (i % 36 < 24) ⊎ (24 ≤ i % 36) → get_or frame i 0 ≡ get_or frame' i 0
        go (inl low) b = carried i inside (record { inside = omega arith; outside = λ h'. omega arith })
        go (inr a) (inl b) = piloted i inside a b
        go (inr a) (inr high) = carried i inside (record { inside = omega arith; outside = λ h'. high })
