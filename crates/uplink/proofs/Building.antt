-- The steps of building, one after the other, make the frame of the message; what build answers.
-- Assumes nothing.
use mathlib.Core.Bool.{Bool, cond}
use mathlib.Core.List.{List, ◌++◌, map}
use mathlib.Core.Path.{◌≡◌, sym, ap, ◌∙◌}
use Prim.Native.Nat.{ℕ, ◌+◌, ◌*◌}
use native.Mathlib.Omega.{arith}
use borrow.Author.Tests.{eq-eqb}
use lib.ListN.{length, take, drop, length-map, get_or-append}
use lib.Seq.{take_at}
use Rattle.bits.specs.Bits.{bit, is_one}
use Rattle.bits.proofs.Bits.{map-is_one-map-bit}
use Rattle.coder.specs.Coder.{coded, uplink_words}
use Rattle.coder.proofs.Coded.{length-coded}
use Rattle.whiten.specs.Whiten.{whitened}
use Rattle.whiten.proofs.Whiten.{length-whitened}
use Rattle.interleave.specs.Interleave.{coded_bits, Length}
use Rattle.interleave.specs.Bursts.{Bursts}
use Rattle.payload.specs.Payload.{payload, payload_bits}
use Rattle.payload.proofs.Payload.{length-payload}
use Rattle.placing.specs.Placing.{Framed}
use Rattle.std.specs.Prelude.{Ok}
use Rattle.uplink.specs.Frame.{coded_payload}
use Rattle.uplink.specs.Build.{frame_size, build_refusal, Builds}
use Rattle.uplink.specs.Parts.{Put}
use Rattle.uplink.proofs.Taken.{build_taken}

-- only the coded bits count for the bursts
bursts_front : {l : ℕ} (bits rest : List ℕ) {frame : List ℕ} → length bits ≡ coded_bits l → Bursts l (bits ++ rest) frame → Bursts l bits frame
bursts_front bits rest e p =
    record {
      sized = p.sized;
      bits = λ j s m q. p.bits j s m q ∙ get_or-append bits rest 0 j (omega (arith, q.coded));
      pilots = p.pilots;
    }

-- bits that stand first in a buffer, read back
pub front_bits : (xs : List Bool) (rest : List ℕ) (n : ℕ) → length xs ≡ n → map is_one (take n (map bit xs ++ rest)) ≡ xs
front_bits xs rest n e = ap (map is_one) (take_at (map bit xs) rest n (length-map xs bit ∙ e)) ∙ map-is_one-map-bit xs

module _ (message : List ℕ) (mode : ℕ) (told : Length (length message)) where
  length-whitened-payload : length (whitened (payload message mode)) ≡ 26 + 8 * length message
  length-whitened-payload = length-whitened (payload message mode) ∙ length-payload message mode told.low

  pub length-coded_payload : length (coded_payload message mode) ≡ coded_bits (length message)
  unfolding coded_payload
  length-coded_payload = omega (arith, length-coded uplink_words (whitened (payload message mode)), length-whitened-payload)

  -- composed, whitened, coded and filled in
  pub put_of :
      (bits₀ coded₀ : List ℕ) {bits part coded_bytes before after : List ℕ}
      → bits ≡ map bit (payload message mode) ++ drop (payload_bits (length message)) bits₀
      → part ≡ map bit (whitened (map is_one (take (26 + 8 * length message) bits)))
      → coded_bytes
      ≡ map bit (coded uplink_words (map is_one (take (26 + 8 * length message) (part ++ drop (26 + 8 * length message) bits))))
      ++ drop (3 * (length (take (26 + 8 * length message) (part ++ drop (26 + 8 * length message) bits)) + 6)) coded₀
      → Framed (length message) coded_bytes before after
      → Put message mode before after
  unfolding coded_payload
  put_of bits₀ coded₀ {bits} {part} {coded_bytes} {before} {after} b w k f =
      record { sized = f.sized; frame = bursts_front (map bit (coded_payload message mode)) _ (length-map (coded_payload message mode) bit ∙ length-coded_payload) framed; rest = f.rest }
    where
      part_is : part ≡ map bit (whitened (payload message mode))
      part_is =
          w
          ∙ ap (λ (l : List ℕ). map bit (whitened (map is_one (take (26 + 8 * length message) l)))) b
          ∙ ap (λ (x : List Bool). map bit (whitened x)) (front_bits (payload message mode) (drop (payload_bits (length message)) bits₀) (26 + 8 * length message) (length-payload message mode told.low))

      sent : map is_one (take (26 + 8 * length message) (part ++ drop (26 + 8 * length message) bits)) ≡ whitened (payload message mode)
      sent =
          ap (λ (l : List ℕ). map is_one (take (26 + 8 * length message) (l ++ drop (26 + 8 * length message) bits))) part_is
          ∙ front_bits (whitened (payload message mode)) (drop (26 + 8 * length message) bits) (26 + 8 * length message) length-whitened-payload

      framed : Bursts (length message) (map bit (coded_payload message mode) ++ drop (3 * (length (take (26 + 8 * length message) (part ++ drop (26 + 8 * length message) bits)) + 6)) coded₀) (take (36 * (length message + 4)) after)
      framed = rw (k ∙ ap (λ (x : List Bool). map bit (coded uplink_words x) ++ drop (3 * (length (take (26 + 8 * length message) (part ++ drop (26 + 8 * length message) bits)) + 6)) coded₀) sent) at f.frame

module _ {l mode : ℕ} {message before : List ℕ} where
  pub builds_done : {after : List ℕ} → build_refusal l mode (length message) (length before) ≡ 0 → Put message mode before after → Builds l mode message before after (Ok (36 * (l + 4)))
  builds_done {after} z p =
      let same : length message ≡ l = (build_taken l mode (length message) (length before) z).sized in
      record {
        refusal = sym z;
        size = sym (ap (λ (t : Bool). cond t (frame_size l) 0) (eq-eqb (build_refusal l mode (length message) (length before)) 0 z));
        sized = p.sized;
        frame = λ e. rw (← same) p.frame;
        rest = λ e. rw (← same) p.rest;
        kept = λ d. absurd (d z);
      }
