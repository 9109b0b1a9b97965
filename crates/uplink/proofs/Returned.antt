-- Where the frame of a message is within half of the way to every other string, its message and mode are returned; so are those of a frame heard on the right side everywhere.
-- Assumes nothing.
use mathlib.Core.Bool.{Bool, true, false, not, true≢false}
use mathlib.Core.List.{List, [], ◌∷◌}
use mathlib.Core.Path.{◌≡◌, refl, sym, ap, subst, ◌∙◌}
use Prim.Native.Nat.{ℕ, ◌*◌, ◌<◌}
use native.Mathlib.Omega.{arith}
use lib.ListN.{length, get_or}
use Rattle.coder.specs.Coder.{coded, uplink_words}
use Rattle.coder.specs.Cost.{cost, apart}
use Rattle.coder.specs.Nearest.{nearest}
use Rattle.coder.proofs.Nearest.{nearest_eq}
use Rattle.coder.proofs.Coded.{length-coded, coded_injective, uplink_words_tell}
use Rattle.coder.proofs.Cost.{within_half_nearest}
use Rattle.whiten.specs.Whiten.{whitened}
use Rattle.whiten.proofs.Whiten.{length-whitened, whitened-whitened}
use Rattle.interleave.specs.Interleave.{coded_bits}
use Rattle.interleave.specs.Bursts.{heard, received}
use Rattle.interleave.proofs.Bursts.{length-received, get_or-received}
use Rattle.payload.specs.Payload.{payload, payload_bits}
use Rattle.payload.specs.Open.{open_refusal, message_of, mode_of}
use Rattle.payload.proofs.Payload.{length-payload}
use Rattle.payload.proofs.RoundTrip as Trip
use Rattle.uplink.specs.Frame.{coded_payload}
use Rattle.uplink.specs.Recover.{silent, nearest_string, opened, recover_refusal}
use Rattle.uplink.specs.Demands.{Formed, Sendable, RightSide}
use Rattle.uplink.proofs.Refusals.{recover_opening}
use Rattle.uplink.proofs.Silence.{received-silent, apart-zeros}
use Rattle.uplink.proofs.Sides.{distance_right, apart_right}

-- another string of the same length: the first bit is turned over
other : List Bool → List Bool
other [] = []
other (b ∷ xs) = not b ∷ xs

length_other : (xs : List Bool) → length (other xs) ≡ length xs
unfolding other
length_other [] = refl
length_other (b ∷ xs) = refl

other_differs : (xs : List Bool) → 0 < length xs → other xs ≡ xs → ⊥
unfolding other
other_differs [] h e = absurd (omega arith)
other_differs (true ∷ xs) h e = true≢false (sym (ap (λ (l : List Bool). get_or l 0 true) e))
other_differs (false ∷ xs) h e = true≢false (ap (λ (l : List Bool). get_or l 0 true) e)

module _ (message : List ℕ) (mode : ℕ) (marks values : List ℕ) (room : ℕ) (sendable : Sendable message mode) (formed : Formed (length message) marks values room) where
  -- the string that enters the coder
  abbrev pub sent : List Bool
  sent = whitened (payload message mode)

  abbrev pub got : List ℕ
  got = received (length message) marks values

  length-sent : length sent ≡ payload_bits (length message)
  length-sent = length-whitened (payload message mode) ∙ length-payload message mode sendable.told.low

  opens : Trip.OpensTo message mode (payload message mode)
  opens = Trip.open_payload (record { least = sendable.told.low; most = sendable.told.high; bytes = sendable.bytes; two_bits = omega (arith, sendable.modes) })

  module _ (half : (y : List Bool) → length y ≡ payload_bits (length message) → (y ≡ sent → ⊥) → 2 * cost uplink_words got sent < apart (coded_payload message mode) (coded uplink_words y) got) where
    nearest-sent : nearest_string (length message) marks values ≡ sent
    unfolding coded_payload
    nearest-sent =
        ap (λ (n : ℕ). nearest (cost uplink_words got) n) (sym length-sent)
        ∙ sym (nearest_eq (cost uplink_words got) (within_half_nearest uplink_words got sent (λ y e d. half y (e ∙ length-sent) d)))

    opened-sent : opened (length message) marks values ≡ payload message mode
    opened-sent = ap whitened nearest-sent ∙ whitened-whitened (payload message mode)

    heard_something : (t : Bool) → silent marks values ≡ t → silent marks values ≡ false
    unfolding coded_payload
    heard_something false e = e
    heard_something true e =
        absurd (omega (
          arith,
          half (other sent) (length_other sent ∙ length-sent) (other_differs sent (omega (arith, length-sent))),
          apart-zeros (coded uplink_words sent) (coded uplink_words (other sent)) got (received-silent (length message) marks values sendable.told e),
        ))

    pub refusal_none : recover_refusal (length message) marks values room ≡ 0
    refusal_none =
        recover_opening (length message) marks values room formed (heard_something (silent marks values) refl)
        ∙ ap (open_refusal (length message)) opened-sent
        ∙ opens.taken

    pub message_sent : message_of (length message) (opened (length message) marks values) ≡ message
    message_sent = ap (message_of (length message)) opened-sent ∙ opens.same_message

    pub mode_sent : mode_of (length message) (opened (length message) marks values) ≡ mode
    mode_sent = ap (mode_of (length message)) opened-sent ∙ opens.same_mode

  -- heard on the right side at every coded bit, the string costs nothing and every other is apart from it
  pub right_half :
      ((j : ℕ) → j < coded_bits (length message) → RightSide (get_or (coded_payload message mode) j false) (heard (length message) marks values j))
      → (y : List Bool) → length y ≡ payload_bits (length message) → (y ≡ sent → ⊥) → 2 * cost uplink_words got sent < apart (coded_payload message mode) (coded uplink_words y) got
  unfolding coded_payload cost
  right_half right y e d =
      omega (
        arith,
        distance_right (coded uplink_words sent) got side,
        apart_right (coded uplink_words sent) (coded uplink_words y) got (omega (arith, length-coded uplink_words sent, length-coded uplink_words y, length-sent))
            (omega (arith, length-received (length message) marks values, length-coded uplink_words sent, length-sent))
            (λ s. d (sym (coded_injective uplink_words uplink_words_tell sent y (length-sent ∙ sym e) s)))
            side,
      )
    where
      side : (j : ℕ) → j < length (coded uplink_words sent) → RightSide (get_or (coded uplink_words sent) j false) (get_or got j 0)
      side j h =
          let l : j < coded_bits (length message) = omega (arith, length-coded uplink_words sent, length-sent) in
          subst (λ (v : ℕ). RightSide (get_or (coded uplink_words sent) j false) v) (sym (get_or-received (length message) marks values j l)) (right j l)
