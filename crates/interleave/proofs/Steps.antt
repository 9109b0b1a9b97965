-- The steps of the way from a coded bit to its place, as the functions give them: each from the relation that it computes, and all of them together.
-- Assumes nothing.
use Prim.Native.Nat.{ℕ, ◌+◌, ◌*◌, ◌≤◌, ◌<◌}
use native.Mathlib.Nat.{mul-le-mul}
use native.Mathlib.Omega.{arith}
use Rattle.interleave.specs.Interleave.{coded_bits, extension, group_length, Placed, Length, Shifted, Ordered, Carried}
use Rattle.interleave.proofs.Lies.{Lies, sub_packet_lies}
use Rattle.interleave.proofs.Order.{order_lies, lies_order}
use Rattle.interleave.proofs.Carries.{Carries, symbol_carries, carries_below}
use Rattle.interleave.proofs.Shift.{shifted_index_on, shifted_index_last}
use Rattle.interleave.proofs.Placed.{lies_place_below, lies_inside, placed_placed_at}

-- one of the first 48 indices is that of one of the last coded bits
pub shifted_last : (l i : ℕ) → i < 48 → Shifted (coded_bits l) (i + (48 + 24 * l)) i
shifted_last l i h =
    record {
      coded = omega arith;
      index = omega (arith, shifted_index_last (coded_bits l) (i + (48 + 24 * l)) (omega arith) (omega arith) (omega arith));
    }

-- a place is carried by its symbol of the relation
pub carried_carries : {s o m : ℕ} → Carries s o m → Carried s o m
carried_carries p = record { place = carries_below p; carrier = symbol_carries p }

module _ {l i s o : ℕ} where
  -- an index of the message is ordered as it lies
  pub ordered_lies : i < coded_bits l → Lies (extension l) i s o → Ordered l i s o
  ordered_lies inside p = record { index = inside; packet = sub_packet_lies p; place = order_lies p }

  -- an index that lies at a place below 24 is one of the message's ..
  pub ordered_inside : Length l → o < 24 → Lies (extension l) i s o → Ordered l i s o
  ordered_inside long h p = ordered_lies (lies_inside long p h) p

  -- .. and the other way round
  pub ordered_below : Length l → Ordered l i s o → o < 24
  ordered_below long p =
      lies_place_below (rw (p.packet, p.place) at (lies_order (extension l) i)) (omega (arith, long.low, p.index))

-- a coded bit whose index is 48 further is carried where that index lies ..
pub placed_on : {l j s o m : ℕ} → Length l → Lies (extension l) (j + 48) s o → Carries s o m → Placed l j s m
placed_on {l} {j} long lies carries =
    let inside : j + 48 < coded_bits l = lies_inside long lies (carries_below carries) in
    placed_placed_at (record { coded = omega arith; lies = rw (shifted_index_on (coded_bits l) j inside) lies; carries = carries })

-- .. and one of the last 48 where one of the first 48 indices lies
pub placed_last : {l s o m : ℕ} (i : ℕ) → i < 48 → Lies (extension l) i s o → Carries s o m → Placed l (i + (48 + 24 * l)) s m
placed_last {l} i h lies carries =
    let shifted = shifted_last l i h in
    placed_placed_at (record { coded = shifted.coded; lies = rw shifted.index lies; carries = carries })

-- group g starts at most so far on, as the longest message has groups of 247
pub group-start_below : {l : ℕ} (g n : ℕ) → Length l → g ≤ n → g * group_length (extension l) ≤ n * 247
group-start_below {l} g n long h = mul-le-mul {n₁ = g} {m₁ = group_length (extension l)} {n₂ = n} {m₂ = 247} h (omega (arith, long.high))
