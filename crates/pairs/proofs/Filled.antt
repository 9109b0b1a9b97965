-- The symbols filled in: one coded bit's, a pair's, a value of the pilot's, and a loop over pairs. Assumes nothing.
use mathlib.Core.List.{List, ◌++◌}
use mathlib.Core.Logic.{◌⊎◌, inl, inr}
use mathlib.Core.Path.{◌≡◌, refl, ap}
use Prim.Native.Nat.{ℕ, ◌+◌, ◌-◌, ◌*◌, ◌/◌, ◌%◌, ◌≤◌, ◌<◌}
use native.Mathlib.Omega.{arith}
use lib.ListN.{length, get_or, take, set, length-set}
use lib.Seq.{length-take-le}
use borrow.Rule.Slice.PartMut.{put_mid, post_of}
use Rattle.std.proofs.Common.{rules}
use Rattle.std.proofs.lemmas.Bool.{cases_lt}
use Rattle.std.proofs.lemmas.List.{places, set-append_left, set-append_right}
use Rattle.interleave.specs.Interleave.{sub_packets, Placed, Length, DataSymbol, pilot}
use Rattle.interleave.proofs.Placed.{placed_data, placed_unique}
use Rattle.pairs.specs.Turns.{turn_of, fill_turn, IsSymbol, Filled}
use Rattle.pairs.specs.Over.{Over}
use Rattle.pairs.specs.declared.Walk.{Walk}
use Rattle.pairs.proofs.Spread.{spread_one, spread_join, spread_turns}
use Rattle.pairs.proofs.Turns.{turn_of_low, turn_of_high, turn_of_pilot, turn_of_below, turn_of_late}
use Rattle.pairs.proofs.Turns.{fill_turn-at, fill_turn_injective}

-- a frame with the burst of sub-packet s in it
abbrev pub with_burst : ℕ → List ℕ → List ℕ → List ℕ
with_burst s frame burst = put_mid (36 * s) (36 * s + 36 - 36 * s) frame burst

-- what is written into the burst is written into the frame
set_burst : (s m v : ℕ) (frame burst : List ℕ)
    → 36 * s ≤ length frame
    → m < length burst
    → with_burst s frame (set burst m v) ≡ set (with_burst s frame burst) (36 * s + m) v
set_burst s m v frame burst room within =
    let before : List ℕ = take (36 * s) frame in
    let after : List ℕ = post_of (36 * s) (36 * s + 36 - 36 * s) frame in
    let sized : length before ≡ 36 * s = length-take-le (36 * s) frame room in
    let here : 36 * s + m - 36 * s ≡ m = omega arith in
    rw (
      set-append_right before (burst ++ after) (36 * s) (36 * s + m) v sized (omega arith),
      here,
      set-append_left burst after m v within,
    )

module _ {l : ℕ} (coded : List ℕ) (long : Length l) where
  -- a coded bit is the byte at its place ..
  is_symbol_bit : {j s m : ℕ} → Placed l j s m → IsSymbol l coded (36 * s + m) (get_or coded j 0)
  is_symbol_bit {j} {s} {m} p =
      record {
        bits = λ k s' m' q same. ap (λ (i : ℕ). get_or coded i 0) (bit k s' m' q same);
        pilots = λ s' k h h' same. absurd (omega (arith, d.inside, d.outside (omega (arith, d.inside))));
      }
    where
      d : DataSymbol m
      d = placed_data long p

      bit : (k s' m' : ℕ) → Placed l k s' m' → 36 * s + m ≡ 36 * s' + m' → j ≡ k
      bit k s' m' q same =
          let packet : s' ≡ s = omega (arith, d.inside, (placed_data long q).inside) in
          let within : m' ≡ m = omega (arith, d.inside, (placed_data long q).inside) in
          placed_unique long p (rw (packet, within) at q)

  -- .. and a value of the pilot the byte at its
  is_symbol_pilot : (s p : ℕ) → p < 12 → IsSymbol l coded (36 * s + (12 + p)) (pilot s p)
  is_symbol_pilot s p h =
      record {
        bits =
            λ j s' m' q same.
            let d = placed_data long q in
            absurd (omega (arith, d.inside, d.outside (omega (arith, d.inside))));
        pilots =
            λ s' k h' h'' same.
            let packet : s ≡ s' = omega arith in
            let within : p ≡ k = omega arith in
            rw (packet, within);
      }

  -- a symbol, stored in its burst
  filled_symbol : (t s m v : ℕ) (frame burst : List ℕ)
      → 36 * sub_packets l ≤ length frame
      → s < sub_packets l
      → length burst ≡ 36
      → m < 36
      → 36 * s + turn_of m ≡ t
      → IsSymbol l coded (36 * s + m) v
      → Filled l coded t (t + 1) (with_burst s frame burst) (with_burst s frame (set burst m v))
  filled_symbol t s m v frame burst room packet size within turn right =
      let whole : length (with_burst s frame burst) ≡ length frame = search (rules, places) in
      rw (← turn, ← fill_turn-at s m within, set_burst s m v frame burst (omega arith) (omega arith))
      (spread_one (with_burst s frame burst) (36 * s + m) v (omega arith) (omega arith)
      (λ y h same. fill_turn_injective y (36 * s + m) same)
      right)

  -- the coded bits of a pair of symbols, after what the turns before filled in
  pub filled_pair : {s k a b t : ℕ} {frame : List ℕ} (burst : List ℕ)
      → 36 * sub_packets l ≤ length frame
      → length burst ≡ 36
      → s < sub_packets l
      → k < 12
      → Placed l a s (11 - k)
      → Placed l b s (24 + k)
      → t ≤ 36 * s + 2 * k
      → Filled l coded t (36 * s + 2 * k) frame (with_burst s frame burst)
      → Filled l coded t (36 * s + 2 * (k + 1)) frame
      (with_burst s frame (set (set burst (11 - k) (get_or coded a 0)) (24 + k) (get_or coded b 0)))
  filled_pair {s} {k} {a} {frame = frame} burst room size packet below low high from before =
      let one : List ℕ = set burst (11 - k) (get_or coded a 0) in
      let sized : length one ≡ 36 = omega (arith, length-set burst (11 - k) (get_or coded a 0)) in
      let lower =
      filled_symbol (36 * s + 2 * k) s (11 - k) _ frame burst room packet size (omega arith)
      (omega (arith, turn_of_low k below))
      (is_symbol_bit low) in
      let higher =
      filled_symbol (36 * s + 2 * k + 1) s (24 + k) _ frame one room packet sized (omega arith)
      (omega (arith, turn_of_high k below))
      (is_symbol_bit high) in
      spread_turns (spread_join (omega arith) (omega arith) before (spread_join (omega arith) (omega arith) lower higher)) refl
      (omega arith)

  -- the pilot of a sub-packet, after its pairs: the frame with it in its place
  abbrev with_pilot : ℕ → List ℕ → List ℕ → List ℕ
  with_pilot s frame pilots = put_mid (36 * s + 12) (36 * s + 24 - (36 * s + 12)) frame pilots

  pub filled_pilot : {s : ℕ} (frame pilots : List ℕ)
      → 36 * sub_packets l ≤ length frame
      → s < sub_packets l
      → length pilots ≡ 12
      → ((p : ℕ) → p < 12 → get_or pilots p 0 ≡ pilot s p)
      → Filled l coded (36 * s + 24) (36 * (s + 1)) frame (with_pilot s frame pilots)
  unfolding fill_turn
  filled_pilot {s} frame pilots room packet twelve right =
      record {
        sized = search (rules, places);
        written =
            λ x h from to.
            let below = turn_of_below (x % 36) (omega arith) in
            symbol x (omega (arith, below)) (omega (arith, below));
        kept = λ x h. other x h (cases_lt x (36 * s + 12)) (cases_lt x (36 * s + 24));
      }
    where
      stored : (p : ℕ) → p < 12 → get_or (with_pilot s frame pilots) (36 * s + (12 + p)) 0 ≡ get_or pilots p 0
      stored p h = search (rules, places)

      symbol : (x : ℕ)
          → x / 36 ≡ s
          → 24 ≤ turn_of (x % 36)
          → IsSymbol l coded x (get_or (with_pilot s frame pilots) x 0)
      symbol x packet' late =
          let within = turn_of_late (x % 36) (omega arith) late in
          let p : x % 36 - 12 < 12 = omega (arith, within) in
          let here : x ≡ 36 * s + (12 + (x % 36 - 12)) = omega (arith, within) in
          rw here (rw (stored (x % 36 - 12) p, right (x % 36 - 12) p) (is_symbol_pilot s (x % 36 - 12) p))

      other : (x : ℕ)
          → (x < 36 * sub_packets l → 36 * s + 24 ≤ fill_turn x → fill_turn x < 36 * (s + 1) → ⊥)
          → (x < 36 * s + 12) ⊎ (36 * s + 12 ≤ x)
          → (x < 36 * s + 24) ⊎ (36 * s + 24 ≤ x)
          → get_or (with_pilot s frame pilots) x 0 ≡ get_or frame x 0
      other x h (inl low) b = search (rules, places)
      other x h (inr high) (inr above) = search (rules, places)
      other x h (inr high) (inl below) =
          let turn = turn_of_pilot (x % 36) (omega arith) (omega arith) in
          absurd (h (omega arith) (omega (arith, turn)) (omega (arith, turn)))

-- the symbols of a walk are those of the pairs that it is over
pub filled_over : {l s k e : ℕ} {w : Walk} {coded old new : List ℕ}
    → Over l s k e w
    → Filled l coded (36 * w.s + 2 * w.from) (36 * w.s + 2 * w.to) old new
    → Filled l coded (36 * s + 2 * k) (36 * s + 2 * e) old new
filled_over o f = rw (o.packet, o.from, o.to) at f
