-- The pairs of a sub-packet's symbols from the pilot outwards: the pair that comes next and those after it, and the
-- four runs of pairs of which a sub-packet is made. Assumes nothing.
use mathlib.Core.Path.{◌≡◌, refl}
use Prim.Native.Nat.{ℕ, suc, ◌+◌, ◌-◌, ◌*◌, ◌/◌, ◌%◌, ◌<◌}
use native.Mathlib.Nat.{add-mul, mul_right_comm, mul-zero, add-zero, mul-suc}
use native.Mathlib.Omega.{arith}
use Rattle.interleave.specs.Interleave.{coded_bits, extension, sub_packets, group_length, Placed}
use Rattle.interleave.proofs.Lies.{first, core, extended}
use Rattle.interleave.proofs.Carries.{Carries, low, high}
use Rattle.interleave.proofs.Steps.{placed_on, placed_last}
use Rattle.pairs.specs.Walks.{Walks, CorePacket, ExtensionPacket}

module _ {l s k e a b step : ℕ} (w : Walks l s k e a b step) (more : k < e) where
  -- the pair that comes next
  pub walks_low : Placed l a s (11 - k)
  walks_low = simp (mul-zero, add-zero) at (w.lows 0 (omega arith))

  pub walks_high : Placed l b s (24 + k)
  walks_high = simp (mul-zero, add-zero) at (w.highs 0 (omega arith))

  -- its coded bits are coded bits of the message, and a step leads not far beyond
  pub walks_inside : (a < coded_bits l) × (b < coded_bits l) × (coded_bits l + step < 10000)
  walks_inside = (walks_low.coded, walks_high.coded, omega (arith, w.message.high, w.short))

  -- the pairs after it
  pub walks_next : Walks l s (k + 1) e (a + step) (b + step) step
  walks_next =
      record {
        message = w.message;
        packet = w.packet;
        pairs = omega arith;
        last = w.last;
        short = w.short;
        lows = λ i h. rw (further a i, later i) at (w.lows (suc i) (omega arith));
        highs = λ i h. rw (further b i, later i) at (w.highs (suc i) (omega arith));
      }
    where
      further : (x i : ℕ) → x + step * suc i ≡ x + step + step * i
      further x i = omega (arith, mul-suc step i)

      later : (i : ℕ) → k + suc i ≡ k + 1 + i
      later i = omega arith

-- the coded bit that a place carries: of the first two of the core, of its next ten, of its last twelve, in group g, and of the extension
placed_first_pair : {l s m : ℕ} → CorePacket l s → (o : ℕ) → o < 2 → Carries s o m → Placed l (24 * o + s + (48 + 24 * l)) s m
placed_first_pair {l} {s} p o small carries =
    placed_last (24 * o + s) (omega (arith, p.packet)) (first (omega (arith, p.packet)) (omega (arith, p.packet)) (omega (arith, p.packet))) carries

placed_next_pairs : {l s m : ℕ} → CorePacket l s → (o : ℕ) → o < 10 → Carries s (o + 2) m → Placed l (24 * o + s) s m
placed_next_pairs p o small carries =
    placed_on p.message (first (omega (arith, p.packet)) (omega (arith, p.packet)) (omega (arith, p.packet))) carries

placed_outer_pairs : {l s m : ℕ}
    → CorePacket l s
    → (g : ℕ)
    → g % 2 ≡ s % 2
    → Carries s (12 + g / 2) m
    → Placed l (240 + (g * group_length (extension l) + s / 2)) s m
placed_outer_pairs {l} {s} p g parity carries =
    placed_on p.message
    (core {g = g} {r = s / 2} (record { at = omega arith; below = omega (arith, p.packet) }) (omega (arith, p.packet)) (omega arith)
    refl)
    carries

placed_extension_pairs : {l s m : ℕ}
    → ExtensionPacket l s
    → (g : ℕ)
    → Carries s g m
    → Placed l (240 + (g * group_length (extension l) + (s - 12))) s m
placed_extension_pairs {l} {s} p g carries =
    placed_on p.message
    (extended {g = g} {r = s - 12} (record { at = omega arith; below = omega (arith, p.message.low, p.packet) })
    (omega (arith, p.from))
    (omega (arith, p.from))
    refl)
    carries

placed_moved : {l j k s m : ℕ} → Placed l j s m → k ≡ j → Placed l k s m
placed_moved p same = rw same p

-- i steps of a groups each, from group g on
steps : (g a i n r : ℕ) → 240 + (g * n + r) + a * n * i ≡ 240 + ((g + a * i) * n + r)
steps g a i n r = omega (arith, add-mul g (a * i) n, mul_right_comm a i n)

module _ {l s : ℕ} (p : CorePacket l s) where
  inside : s < sub_packets l
  inside = omega (arith, p.message.low, p.packet)

  -- the pair of the core's first two places, whose coded bits are among the last
  pub walks_first_pair : Walks l s 0 1 (24 * (s % 2) + s + (48 + 24 * l)) (24 * (1 - s % 2) + s + (48 + 24 * l)) 48
  walks_first_pair =
      record {
        message = p.message;
        packet = inside;
        pairs = omega arith;
        last = omega arith;
        short = omega arith;
        lows =
            λ i h.
            placed_moved (placed_first_pair p (2 * i + s % 2) (omega arith) (low (0 + i) (omega arith) (omega arith) refl)) (omega arith);
        highs =
            λ i h.
            placed_moved (placed_first_pair p (2 * i + (1 - s % 2)) (omega arith) (high (0 + i) (omega arith) (omega arith) refl))
            (omega arith);
      }

  -- the five pairs of the next ten
  pub walks_next_pairs : Walks l s 1 6 (24 * (s % 2) + s) (24 * (1 - s % 2) + s) 48
  walks_next_pairs =
      record {
        message = p.message;
        packet = inside;
        pairs = omega arith;
        last = omega arith;
        short = omega arith;
        lows =
            λ i h.
            placed_moved (placed_next_pairs p (2 * i + s % 2) (omega arith) (low (1 + i) (omega arith) (omega arith) refl)) (omega arith);
        highs =
            λ i h.
            placed_moved (placed_next_pairs p (2 * i + (1 - s % 2)) (omega arith) (high (1 + i) (omega arith) (omega arith) refl))
            (omega arith);
      }

  -- the six pairs of the last twelve
  pub walks_outer_pairs : Walks l s 6 12 (240 + (3 * (s % 2) * group_length (extension l) + s / 2)) (240 + ((2 - s % 2) * group_length (extension l) + s / 2)) (4 * group_length (extension l))
  walks_outer_pairs =
      record {
        message = p.message;
        packet = inside;
        pairs = omega arith;
        last = omega arith;
        short = omega (arith, p.message.high);
        lows =
            λ i h.
            placed_moved
            (placed_outer_pairs p (3 * (s % 2) + 4 * i) (omega arith) (low (6 + i) (omega arith) (omega arith) refl))
            (steps (3 * (s % 2)) 4 i (group_length (extension l)) (s / 2));
        highs =
            λ i h.
            placed_moved
            (placed_outer_pairs p (2 - s % 2 + 4 * i) (omega arith) (high (6 + i) (omega arith) (omega arith) refl))
            (steps (2 - s % 2) 4 i (group_length (extension l)) (s / 2));
      }

-- the twelve pairs of a sub-packet of the extension
pub walks_extension_pairs : {l s : ℕ}
    → ExtensionPacket l s
    → Walks l s 0 12 (240 + (s % 2 * group_length (extension l) + (s - 12))) (240 + ((1 - s % 2) * group_length (extension l) + (s - 12))) (2 * group_length (extension l))
walks_extension_pairs {l} {s} p =
    record {
      message = p.message;
      packet = p.packet;
      pairs = omega arith;
      last = omega arith;
      short = omega (arith, p.message.high);
      lows =
          λ i h.
          placed_moved (placed_extension_pairs p (s % 2 + 2 * i) (low (0 + i) (omega arith) (omega arith) refl))
          (steps (s % 2) 2 i (group_length (extension l)) (s - 12));
      highs =
          λ i h.
          placed_moved (placed_extension_pairs p (1 - s % 2 + 2 * i) (high (0 + i) (omega arith) (omega arith) refl))
          (steps (1 - s % 2) 2 i (group_length (extension l)) (s - 12));
    }
