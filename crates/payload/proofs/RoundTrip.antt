-- Opening and composing are each other's way back: what the checks leave of a payload is its message and its mode, and bits that
-- pass the checks are the payload of the message and the mode that they hold. Assumes nothing.
use mathlib.Core.Bool.{Bool}
use mathlib.Core.List.{List, ◌++◌}
use mathlib.Core.Path.{◌≡◌, sym, ap, ◌∙◌}
use Prim.Native.Nat.{ℕ, ◌+◌, ◌*◌, ◌<◌, ◌≤◌}
use native.Mathlib.Omega.{arith}
use lib.ListN.{length, get_or, take, drop, length-append, length-drop, take-append-drop}
use lib.Seq.{take_at, drop_at, drop-drop, take-add, take_all, length-take-le}
use Rattle.bits.specs.Bits.{bits_of, bits_of_bytes, number_of}
use Rattle.bits.proofs.Bits.{length-bits_of, length-bits_of_bytes, number_of-bits_of}
use Rattle.crc.specs.Crc.{crc8}
use Rattle.crc.proofs.Crc.{crc8_below_256}
use Rattle.payload.specs.Payload.{payload_bits, payload_crc, header_crc, payload}
use Rattle.payload.specs.Open.{header_field, payload_field, open_refusal, message_of, mode_of}
use Rattle.payload.proofs.Bytes.{length-bytes_of, field_bits, field_below, bytes_of_below_256, bits_of_bytes-bytes_of, bytes_of-bits_of_bytes}
use Rattle.payload.proofs.Payload.{payload_fields, header_crc-crc8, payload_crc-crc8}
use Rattle.payload.proofs.Refusal.{Passes, refusal_0, passes_refusal}

-- the fields of a run that is put together from them

-- three fields of eight bits, and what follows them
record Fields (bs hs ps ls rest : List Bool) : Type 0 where
  pub whole : bs ≡ hs ++ (ps ++ (ls ++ rest))
  pub first : length hs ≡ 8
  pub second : length ps ≡ 8
  pub third : length ls ≡ 8

module _ {bs hs ps ls rest : List Bool} (f : Fields bs hs ps ls rest) where
  fields_first : take 8 bs ≡ hs
  fields_first = rw f.whole (take_at hs (ps ++ (ls ++ rest)) 8 f.first)

  fields_drop_8 : drop 8 bs ≡ ps ++ (ls ++ rest)
  fields_drop_8 = rw f.whole (drop_at hs (ps ++ (ls ++ rest)) 8 f.first)

  fields_drop_16 : drop 16 bs ≡ ls ++ rest
  fields_drop_16 = sym (drop-drop 8 8 bs) ∙ rw fields_drop_8 (drop_at ps (ls ++ rest) 8 f.second)

  fields_drop_24 : drop 24 bs ≡ rest
  fields_drop_24 = sym (drop-drop 8 16 bs) ∙ rw fields_drop_16 (drop_at ls rest 8 f.third)

  fields_second : take 8 (drop 8 bs) ≡ ps
  fields_second = rw fields_drop_8 (take_at ps (ls ++ rest) 8 f.second)

  fields_third : take 8 (drop 16 bs) ≡ ls
  fields_third = rw fields_drop_16 (take_at ls rest 8 f.third)

  fields_second_third : take 16 (drop 8 bs) ≡ ps ++ ls
  fields_second_third =
      take-add 8 8 (drop 8 bs)
      ∙ cc (fields_second, fields_third, drop-drop 8 8 bs)

-- composed, then opened

-- a message that can be sent: 20 to 255 bytes, and a mode of two bits
pub record Sendable (message : List ℕ) (mode : ℕ) : Type 0 where
  pub least : 20 ≤ length message
  pub most : length message ≤ 255
  pub bytes : (i : ℕ) → i < length message → get_or message i 0 < 256
  pub two_bits : mode < 4

-- the bits are taken, and hold this message and this mode
pub record OpensTo (message : List ℕ) (mode : ℕ) (bs : List Bool) : Type 0 where
  pub taken : open_refusal (length message) bs ≡ 0
  pub same_message : message_of (length message) bs ≡ message
  pub same_mode : mode_of (length message) bs ≡ mode

payload_crc_below_256 : (message : List ℕ) (mode : ℕ) → payload_crc message mode < 256
unfolding payload_crc
payload_crc_below_256 message mode = crc8_below_256 (bits_of_bytes message ++ bits_of 2 mode)

header_crc_below_256 : (message : List ℕ) (mode : ℕ) → header_crc message mode < 256
unfolding header_crc
header_crc_below_256 message mode = crc8_below_256 (bits_of 8 (payload_crc message mode) ++ bits_of 8 (length message))

module _ {message : List ℕ} {mode : ℕ} (s : Sendable message mode) where
  sent_fields : Fields (payload message mode) (bits_of 8 (header_crc message mode)) (bits_of 8 (payload_crc message mode))
      (bits_of 8 (length message)) (bits_of_bytes message ++ bits_of 2 mode)
  sent_fields =
      record {
        whole = payload_fields message mode s.least;
        first = length-bits_of 8 (header_crc message mode);
        second = length-bits_of 8 (payload_crc message mode);
        third = length-bits_of 8 (length message);
      }

  sent-drop_message : drop (24 + 8 * length message) (payload message mode) ≡ bits_of 2 mode
  sent-drop_message =
      sym (drop-drop (8 * length message) 24 (payload message mode))
      ∙ rw (fields_drop_24 sent_fields) (drop_at (bits_of_bytes message) (bits_of 2 mode) (8 * length message) (length-bits_of_bytes message))

  sent_passes : Passes (length message) (payload message mode)
  sent_passes =
      record {
        header =
            rw (fields_first sent_fields, fields_second_third sent_fields, header_crc-crc8 message mode)
            (number_of-bits_of 8 (header_crc message mode) (header_crc_below_256 message mode));
        psi = rw (fields_third sent_fields) (number_of-bits_of 8 (length message) (omega (arith, s.most)));
        payload =
            let all : take (8 * length message + 2) (bits_of_bytes message ++ bits_of 2 mode) ≡ bits_of_bytes message ++ bits_of 2 mode =
            take_all (8 * length message + 2) (bits_of_bytes message ++ bits_of 2 mode) (rw (length-append, length-bits_of, length-bits_of_bytes) (omega arith)) in
            rw (fields_second sent_fields, fields_drop_24 sent_fields, all, payload_crc-crc8 message mode)
            (number_of-bits_of 8 (payload_crc message mode) (payload_crc_below_256 message mode));
      }

  -- what the checks leave of a payload is its message and its mode
  pub open_payload : OpensTo message mode (payload message mode)
  open_payload =
      record {
        taken = passes_refusal (length message) (payload message mode) sent_passes;
        same_message = rw (fields_drop_24 sent_fields) (bytes_of-bits_of_bytes message (bits_of 2 mode) s.bytes);
        same_mode =
            rw sent-drop_message
            (ap number_of (take_all 2 (bits_of 2 mode) (rw length-bits_of (omega arith))) ∙ number_of-bits_of 2 mode s.two_bits);
      }

-- opened, then composed

-- the bits are the payload of the message and the mode that they hold
pub record Composes (l : ℕ) (bs : List Bool) : Type 0 where
  pub whole : bs ≡ payload (message_of l bs) (mode_of l bs)
  pub sized : length (message_of l bs) ≡ l
  pub bytes : (i : ℕ) → i < l → get_or (message_of l bs) i 0 < 256
  pub two_bits : mode_of l bs < 4

module _ (l : ℕ) (bs : List Bool) (sized : length bs ≡ payload_bits l) where
  part_length : (k at : ℕ) → at + k ≤ 26 + 8 * l → length (take k (drop at bs)) ≡ k
  part_length k at h = length-take-le k (drop at bs) (rw length-drop (omega arith))

  part_bits : (k at : ℕ) → at + k ≤ 26 + 8 * l → bits_of k (number_of (take k (drop at bs))) ≡ take k (drop at bs)
  part_bits k at h = field_bits k (take k (drop at bs)) (part_length k at h)

  held_message : bits_of_bytes (message_of l bs) ≡ take (8 * l) (drop 24 bs)
  held_message = bits_of_bytes-bytes_of l (drop 24 bs) (rw length-drop (omega arith))

  held_mode : bits_of 2 (mode_of l bs) ≡ take 2 (drop (24 + 8 * l) bs)
  held_mode = part_bits 2 (24 + 8 * l) (omega arith)

  -- message and mode, which stand together
  held_body : bits_of_bytes (message_of l bs) ++ bits_of 2 (mode_of l bs) ≡ take (8 * l + 2) (drop 24 bs)
  held_body = cc (held_message, held_mode, take-add (8 * l) 2 (drop 24 bs), drop-drop (8 * l) 24 bs)

  held_rest : take (8 * l + 2) (drop 24 bs) ≡ drop 24 bs
  held_rest = take_all (8 * l + 2) (drop 24 bs) (rw length-drop (omega arith))

  -- the run is its fields, one after another
  held_whole : bs ≡ take 8 bs ++ (take 8 (drop 8 bs) ++ (take 8 (drop 16 bs) ++ drop 24 bs))
  held_whole =
      cc (
        take-append-drop 8 bs,
        take-append-drop 8 (drop 8 bs),
        take-append-drop 8 (drop 16 bs),
        drop-drop 8 8 bs,
        drop-drop 8 16 bs,
      )

  module _ (least : 20 ≤ l) (taken : open_refusal l bs ≡ 0) where
    held-length : length (message_of l bs) ≡ l
    held-length = length-bytes_of l (drop 24 bs)

    held_psi : bits_of 8 l ≡ take 8 (drop 16 bs)
    held_psi = ap (λ (n : ℕ). bits_of 8 n) (sym (refusal_0 l bs taken).psi) ∙ part_bits 8 16 (omega arith)

    held-payload_crc : payload_crc (message_of l bs) (mode_of l bs) ≡ payload_field bs
    held-payload_crc =
        sym (payload_crc-crc8 (message_of l bs) (mode_of l bs)) ∙ ap crc8 held_body ∙ sym (refusal_0 l bs taken).payload

    held_second : bits_of 8 (payload_crc (message_of l bs) (mode_of l bs)) ≡ take 8 (drop 8 bs)
    held_second = ap (λ (n : ℕ). bits_of 8 n) held-payload_crc ∙ part_bits 8 8 (omega arith)

    held-header_crc : header_crc (message_of l bs) (mode_of l bs) ≡ header_field bs
    held-header_crc =
        sym (header_crc-crc8 (message_of l bs) (mode_of l bs))
        ∙ ap crc8 (cc (held_second, held_psi, held-length, take-add 8 8 (drop 8 bs), drop-drop 8 8 bs))
        ∙ sym (refusal_0 l bs taken).header

    held_first : bits_of 8 (header_crc (message_of l bs) (mode_of l bs)) ≡ take 8 bs
    held_first = ap (λ (n : ℕ). bits_of 8 n) held-header_crc ∙ part_bits 8 0 (omega arith)

    -- bits that pass the checks are the payload of what they hold
    pub payload_open : Composes l bs
    payload_open =
        record {
          whole =
              held_whole
              ∙ cc (
                held_first,
                held_second,
                held_psi,
                held-length,
                held_body,
                held_rest,
                payload_fields (message_of l bs) (mode_of l bs) (rw held-length least),
              );
          sized = held-length;
          bytes = bytes_of_below_256 l (drop 24 bs) (rw length-drop (omega arith));
          two_bits = field_below 2 (take 2 (drop (24 + 8 * l) bs)) (part_length 2 (24 + 8 * l) (omega arith));
        }
