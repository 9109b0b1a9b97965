-- A buffer that is filled from the payload's end to its start: what is stored before the part that is there already joins it, and the three stores of `compose`
-- give the payload. Assumes nothing.
use mathlib.Core.Bool.{Bool}
use mathlib.Core.List.{List, [], ◌++◌, map, map-append, append-nil, append_assoc}
use mathlib.Core.Path.{◌≡◌, refl, sym, ap, ◌∙◌}
use Prim.Native.Nat.{ℕ, ◌+◌, ◌-◌, ◌*◌, ◌≤◌}
use native.Mathlib.Omega.{arith}
use lib.ListN.{length, take, drop, length-append, length-drop, length-map, take-append-drop}
use lib.Seq.{sets, sets-eq, take-take, take_all, take_at, drop_at, take-append-le, drop-append-le, drop-append-add, length-take-le}
use Rattle.bits.specs.Bits.{bit, is_one, bits_of, bits_of_bytes}
use Rattle.bits.proofs.Bits.{map-is_one-map-bit, length-bits_of, length-bits_of_bytes}
use Rattle.crc.specs.Crc.{crc8}
use Rattle.payload.specs.Payload.{payload_bits, payload_crc, header_crc, payload}
use Rattle.payload.proofs.Payload.{payload_fields, payload_crc-crc8, header_crc-crc8}
use Rattle.payload.proofs.Parts.{map-is_one_part}

-- the buffer holds a part of the payload from place `at` to its end n, and is as it was before and behind it
record Filled (old : List ℕ) (n at : ℕ) (part : List Bool) (bits : List ℕ) : Type 0 where
  pub room : n ≤ length old
  pub sized : at + length part ≡ n
  pub written : bits ≡ take at old ++ (map bit part ++ drop n old)

filled_none : (old : List ℕ) (n : ℕ) → n ≤ length old → Filled old n n [] old
filled_none old n room = record { room = room; sized = omega arith; written = sym (take-append-drop n old) }

module _ {old bits : List ℕ} {n from : ℕ} {part : List Bool} (p : Filled old n from part bits) where
  start-length : length (take from old) ≡ from
  start-length = length-take-le from old (omega (arith, p.room, p.sized))

  bits_length : length bits ≡ length old
  bits_length = rw (p.written, length-append, start-length, length-append, length-map, length-drop) (omega (arith, p.room, p.sized))

  -- what is stored right before the part joins it
  filled_put : (vs : List Bool) (at : ℕ) {next : List ℕ} → from ≡ at + length vs → next ≡ sets bits at (map bit vs) → Filled old n at (vs ++ part) next
  filled_put vs at place stored =
      let end : at + length (map bit vs) ≡ from = rw length-map (sym place) in
      let short : at ≤ length (take from old) = rw start-length (omega arith) in
      let front : take at bits ≡ take at old =
      rw p.written (take-append-le at (take from old) (map bit part ++ drop n old) short ∙ take-take at from old (omega arith)) in
      let rest : drop from bits ≡ map bit part ++ drop n old =
      rw p.written (drop_at (take from old) (map bit part ++ drop n old) from start-length) in
      record {
        room = p.room;
        sized = rw length-append (omega (arith, p.sized));
        written =
            stored
            ∙ sets-eq (map bit vs) bits at (rw end (omega (arith, bits_length, p.room, p.sized)))
            ∙ rw (end, front, rest, map-append) (simp append_assoc);
      }

  -- the bits of the part are in the buffer
  filled_part : (skip k : ℕ) {place : ℕ} → skip + k ≤ length part → place ≡ from + skip → map is_one (take k (drop place bits)) ≡ take k (drop skip part)
  filled_part skip k h e =
      let e₁ = e ∙ ap (λ (m : ℕ). m + skip) (sym start-length) in
      let behind : drop (length (take from old) + skip) bits ≡ drop skip (map bit part ++ drop n old) =
      rw p.written (drop-append-add (take from old) (map bit part ++ drop n old) skip) in
      let split : drop skip (map bit part ++ drop n old) ≡ drop skip (map bit part) ++ drop n old =
      drop-append-le skip (map bit part) (drop n old) (rw length-map (omega arith)) in
      let run : take k (drop skip (map bit part) ++ drop n old) ≡ take k (drop skip (map bit part)) =
      take-append-le k (drop skip (map bit part)) (drop n old) (rw (length-drop, length-map) (omega arith)) in
      rw (e₁, behind, split, run, map-is_one_part, map-is_one-map-bit)

-- what `compose` stores, in its order
module _ (message : List ℕ) (mode : ℕ) (old : List ℕ) (least : 20 ≤ length message) (room : payload_bits (length message) ≤ length old) where
  -- the part that the payload CRC is taken over, and the part that follows the CRCs
  body : List Bool
  body = bits_of_bytes message ++ bits_of 2 mode

  behind : List Bool
  behind = bits_of 8 (length message) ++ (bits_of_bytes message ++ bits_of 2 mode)

  length_body : length body ≡ 8 * length message + 2
  unfolding body
  length_body = rw (length-append, length-bits_of, length-bits_of_bytes)

  length_behind : length behind ≡ 8 * length message + 10
  unfolding behind body
  length_behind = rw (length-append, length-bits_of) (omega (arith, length_body))

  module _ {first : List ℕ} (stored : first ≡ sets old 16 (map bit (bits_of 8 (length message) ++ (bits_of_bytes message ++ bits_of 2 mode)))) where
    filled_16 : Filled old (payload_bits (length message)) 16 behind first
    unfolding behind
    filled_16 =
        rw append-nil at (filled_put (filled_none old (payload_bits (length message)) room) behind 16 (omega (arith, length_behind)) stored)

    -- the CRC over what stands from place 24 on
    pub crc8_filled_24 : crc8 (map is_one (take (26 + 8 * length message - 24) (drop 24 first))) ≡ payload_crc message mode
    unfolding behind body
    crc8_filled_24 =
        let k : ℕ = 26 + 8 * length message - 24 in
        ap crc8 (
        filled_part filled_16 8 k (omega (arith, length_behind)) refl
        ∙ ap (λ (l : List Bool). take k l) (drop_at (bits_of 8 (length message)) body 8 (length-bits_of 8 (length message)))
        ∙ take_all k body (omega (arith, length_body))
        )
        ∙ payload_crc-crc8 message mode

    module _ {p : ℕ} {second : List ℕ} (right : p ≡ payload_crc message mode) (stored₂ : second ≡ sets first 8 (map bit (bits_of 8 p))) where
      filled_8 : Filled old (payload_bits (length message)) 8 (bits_of 8 (payload_crc message mode) ++ behind) second
      filled_8 =
          filled_put filled_16 (bits_of 8 (payload_crc message mode)) 8 (rw length-bits_of refl)
          (stored₂ ∙ ap (λ (x : ℕ). sets first 8 (map bit (bits_of 8 x))) right)

      -- the CRC over what stands from place 8 to 24
      pub crc8_filled_8 : crc8 (map is_one (take 16 (drop 8 second))) ≡ header_crc message mode
      unfolding behind body
      crc8_filled_8 =
          let ps : List Bool = bits_of 8 (payload_crc message mode) in
          let ls : List Bool = bits_of 8 (length message) in
          let long : length (ps ++ ls) ≡ 16 = simp (length-append, length-bits_of) in
          ap crc8 (
          filled_part filled_8 0 16 (rw (length-append, length-bits_of) (omega (arith, length_behind))) refl
          ∙ ap (λ (l : List Bool). take 16 l) (sym (append_assoc ps ls body))
          ∙ take_at (ps ++ ls) body 16 long
          )
          ∙ header_crc-crc8 message mode

      -- and with the header CRC before them they are the payload
      pub composed : {h : ℕ} {third : List ℕ} → h ≡ header_crc message mode → third ≡ sets second 0 (map bit (bits_of 8 h))
          → third ≡ map bit (payload message mode) ++ drop (payload_bits (length message)) old
      unfolding behind
      composed right₃ stored₃ =
          let whole =
          filled_put filled_8 (bits_of 8 (header_crc message mode)) 0 (rw length-bits_of refl)
          (stored₃ ∙ ap (λ (x : ℕ). sets second 0 (map bit (bits_of 8 x))) right₃) in
          rw (payload_fields message mode least) whole.written
