-- The places of the coded bits: each lies in a sub-packet of the message at a data symbol, no two share one, and every data symbol of every sub-packet
-- carries a coded bit. Assumes nothing.
use mathlib.Core.Path.{◌≡◌, refl}
use Prim.Native.Nat.{ℕ, ◌+◌, ◌*◌, ◌<◌}
use native.Mathlib.Nat.{lt_of_mul-lt-mul_right}
use native.Mathlib.Omega.{arith}
use lib.Arith.{digits_lt}
use Rattle.interleave.specs.Interleave.{coded_bits, extension, sub_packets, shifted_index, group_length, order, packet_of, symbol_of, Placed, Length, DataSymbol}
use Rattle.interleave.proofs.Lies.{Lies, first, core, extended, sub_packet_lies, lies_below, lies_unique, index_of, lies_index_of}
use Rattle.interleave.proofs.Order.{order_lies, lies_order}
use Rattle.interleave.proofs.Carries.{Carries, symbol_carries, carries_symbol, carries_below, carries_unique, data_carries, carries_data}
use Rattle.interleave.proofs.Shift.{shifted_index_below, shifted_index_injective, shifted_index_onto}

-- the indices of a frame are those of the places below 24 of each sub-packet
pub lies_place_below : {e i s o : ℕ} → Lies e i s o → i < 288 + 24 * group_length e → o < 24
lies_place_below (first a b c) h = omega arith
lies_place_below {e} (core {g} {r} a b c d) h = omega (arith, lt_of_mul-lt-mul_right (group_length e) {m = g} {n = 24} (omega arith))
lies_place_below {e} (extended {g} {r} a b c d) h = omega (arith, lt_of_mul-lt-mul_right (group_length e) {m = g} {n = 24} (omega arith))

lies_index_below : {e i s o : ℕ} → Lies e i s o → o < 24 → i < 288 + 24 * group_length e
lies_index_below (first a b c) h = omega arith
lies_index_below (core {g} a b c d) h = omega (arith, digits_lt {q = g} {m = 24} (omega arith) a.below)
lies_index_below (extended {g} a b c d) h = omega (arith, digits_lt {q = g} {m = 24} (omega arith) a.below)

-- coded bit j of a message of l bytes is carried at place o of sub-packet s, by symbol m
pub record PlacedAt (l j s o m : ℕ) : Type 0 where
  pub coded : j < coded_bits l
  pub lies : Lies (extension l) (shifted_index (coded_bits l) j) s o
  pub carries : Carries s o m

-- a coded bit is carried where its index lies, by the symbol of its place there ..
pub placed_placed_at : {l j s o m : ℕ} → PlacedAt l j s o m → Placed l j s m
placed_placed_at p =
    record {
      coded = p.coded;
      packet = sub_packet_lies p.lies;
      within = rw (sub_packet_lies p.lies, order_lies p.lies) (symbol_carries p.carries);
    }

module _ {l : ℕ} (long : Length l) where
  -- .. and nowhere else
  pub placed_at_placed : {j s m : ℕ} → Placed l j s m → (o : ℕ) × PlacedAt l j s o m
  placed_at_placed {j} {s} {m} p =
      let o : ℕ = order (extension l) (shifted_index (coded_bits l) j) in
      let lies : Lies (extension l) (shifted_index (coded_bits l) j) s o =
      rw p.packet at (lies_order (extension l) (shifted_index (coded_bits l) j)) in
      let below : o < 24 = lies_place_below lies (omega (arith, shifted_index_below (coded_bits l) j p.coded)) in
      (o, record { coded = p.coded; lies = lies; carries = rw (rw p.packet at p.within) at (carries_symbol s o below) })

  -- a coded bit has a place ..
  pub placed_here : {j : ℕ} → j < coded_bits l → Placed l j (packet_of l j) (symbol_of l j)
  placed_here h = record { coded = h; packet = refl; within = refl }

  -- .. in a sub-packet of the message ..
  pub placed_packet : {j s m : ℕ} → Placed l j s m → s < sub_packets l
  placed_packet p = omega (arith, lies_below (placed_at_placed p).1.lies)

  -- .. at a data symbol
  pub placed_data : {j s m : ℕ} → Placed l j s m → DataSymbol m
  placed_data p = data_carries (placed_at_placed p).1.carries

  -- two coded bits with the same place are the same
  pub placed_unique : {j k s m : ℕ} → Placed l j s m → Placed l k s m → j ≡ k
  placed_unique {j} {k} p q =
      let (o, a) = placed_at_placed p in
      let (o', b) = placed_at_placed q in
      shifted_index_injective (coded_bits l) j k (omega arith) p.coded q.coded
      (lies_unique (rw (carries_unique a.carries b.carries) at a.lies) b.lies)

  -- the index of a place below 24 of a sub-packet of the message is one of the frame's
  pub lies_inside : {i s o : ℕ} → Lies (extension l) i s o → o < 24 → i < coded_bits l
  lies_inside lies h = omega (arith, lies_index_below lies h)

  -- every data symbol of every sub-packet carries a coded bit
  pub placed_onto : {s m : ℕ} → s < sub_packets l → DataSymbol m → (j : ℕ) × Placed l j s m
  placed_onto {s} {m} h d =
      let (o, carries) = carries_data s d in
      let lies = lies_index_of {e = extension l} {s = s} (omega arith) o in
      let (j, coded, found) = shifted_index_onto (coded_bits l) (index_of (extension l) s o) (omega arith) (lies_inside lies (carries_below carries)) in
      (j, placed_placed_at (record { coded = coded; lies = rw found lies; carries = carries }))
