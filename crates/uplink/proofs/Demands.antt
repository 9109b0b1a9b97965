-- The customer's demands hold of whatever meets the contracts of build and recover.
-- Assumes nothing.
use mathlib.Core.List.{List, ◌++◌}
use mathlib.Core.Path.{◌≡◌, refl, sym, ap, subst, ◌∙◌}
use Prim.Native.Nat.{ℕ}
use borrow.Author.Tests.{eq-eqb, ne_eqb}
use lib.ListN.{length, take, drop}
use lib.Seq.{take_at}
use Rattle.coder.specs.Coder.{uplink_words}
use Rattle.coder.specs.Cost.{cost}
use Rattle.coder.specs.Nearest.{Nearest}
use Rattle.coder.proofs.Nearest.{nearest_is}
use Rattle.whiten.specs.Whiten.{whitened}
use Rattle.whiten.proofs.Whiten.{length-whitened, whitened-whitened}
use Rattle.interleave.specs.Bursts.{received}
use Rattle.payload.specs.Payload.{payload_bits}
use Rattle.payload.specs.Open.{message_of, mode_of}
use Rattle.payload.proofs.RoundTrip as Trip
use Rattle.uplink.specs.Answers.{Recovery, recovered_mode, recovered_cost}
use Rattle.uplink.specs.Recover.{nearest_string, opened, recover_refusal, Recovers}
use Rattle.uplink.specs.Demands.{FirstBuild, FirstRecover, Formed, Demand1, Sendable, Returned, Demand2, Behind, Demand3}
use Rattle.uplink.proofs.Refusals.{build_done, build_first, recover_first}
use Rattle.uplink.proofs.Taken.{RecoverTaken, recover_taken}
use Rattle.uplink.proofs.Returned.{refusal_none, message_sent, mode_sent, right_half}

pub demand_1 : Demand1
demand_1 =
    record {
      build_order = λ {l} {mode} {message} {before} p. subst (λ (k : ℕ). FirstBuild l mode (length message) (length before) k) (sym p.refusal) (build_first l mode (length message) (length before));
      recover_order = λ {l} {marks} {values} {before} p. subst (λ (k : ℕ). FirstRecover l marks values (length before) k) (sym p.refusal) (recover_first l marks values (length before));
      build_keeps = λ p d. p.kept (λ e. d (p.refusal ∙ e));
      recover_keeps = λ {l} {marks} {values} {before} p d. p.message ∙ rw (ne_eqb (recover_refusal l marks values (length before)) 0 (λ e. d (p.refusal ∙ e)));
    }

module _ {l : ℕ} {marks values before after : List ℕ} {answer : Recovery} (p : Recovers l marks values before after answer) (z : recover_refusal l marks values (length before) ≡ 0) where
  -- what a call that is not refused answers and writes
  done_mode : recovered_mode answer ≡ mode_of l (opened l marks values)
  done_mode = p.mode ∙ rw (eq-eqb (recover_refusal l marks values (length before)) 0 z)

  done_cost : recovered_cost answer ≡ cost uplink_words (received l marks values) (nearest_string l marks values)
  done_cost = p.weight ∙ rw (eq-eqb (recover_refusal l marks values (length before)) 0 z)

  done_message : after ≡ message_of l (opened l marks values) ++ drop l before
  done_message = p.message ∙ rw (eq-eqb (recover_refusal l marks values (length before)) 0 z)

  pub behind_of : Behind l marks values (take l after) (recovered_mode answer) (recovered_cost answer)
  behind_of =
      record {
        string = nearest_string l marks values;
        sized = near.sized;
        payload_is = sym (whitened-whitened (nearest_string l marks values)) ∙ ap whitened (held.whole ∙ rw (done_mode, written));
        total_is = done_cost;
        least = near.least;
        first = near.first;
      }
    where
      near : Nearest (cost uplink_words (received l marks values)) (payload_bits l) (nearest_string l marks values)
      near = nearest_is (cost uplink_words (received l marks values)) (payload_bits l)

      taken : RecoverTaken l marks values (length before)
      taken = recover_taken l marks values (length before) z

      held : Trip.Composes l (opened l marks values)
      held = Trip.payload_open l (opened l marks values) (length-whitened (nearest_string l marks values) ∙ near.sized) taken.formed.told.low taken.passes

      written : take l after ≡ message_of l (opened l marks values)
      written = ap (take l) done_message ∙ take_at (message_of l (opened l marks values)) (drop l before) l held.sized

module _ {message : List ℕ} {mode : ℕ} {marks values before after : List ℕ} {answer : Recovery} (s : Sendable message mode) (f : Formed (length message) marks values (length before)) where
  -- a call that is not refused and opens to a message and mode returns them
  returned_of :
      recover_refusal (length message) marks values (length before) ≡ 0
      → message_of (length message) (opened (length message) marks values) ≡ message
      → mode_of (length message) (opened (length message) marks values) ≡ mode
      → Recovers (length message) marks values before after answer → Returned message mode before after answer
  returned_of z m d p =
      record {
        refusal = p.refusal ∙ z;
        length_is = p.told ∙ rw (eq-eqb (recover_refusal (length message) marks values (length before)) 0 z);
        mode_is = done_mode p z ∙ d;
        written = done_message p z ∙ ap (λ (x : List ℕ). x ++ drop (length message) before) m;
      }

pub demand_2 : Demand2
demand_2 =
    record {
      frame = λ p z. p.frame (sym p.refusal ∙ z);
      taken = λ {mode} {message} {before} p s r. p.refusal ∙ build_done (length message) mode (length message) (length before) s.told refl r s.modes;
      comes_back = λ {mode} {message} {marks} {values} {before} s f right p.
          let h = right_half message mode marks values (length before) s f right in
          returned_of s f (refusal_none message mode marks values (length before) s f h) (message_sent message mode marks values (length before) s f h) (mode_sent message mode marks values (length before) s f h) p;
    }

pub demand_3 : Demand3
demand_3 =
    record {
      behind = λ p z. behind_of p (sym p.refusal ∙ z);
      returned = λ {mode} {message} {marks} {values} {before} s f h p.
          returned_of s f (refusal_none message mode marks values (length before) s f h) (message_sent message mode marks values (length before) s f h) (mode_sent message mode marks values (length before) s f h) p;
    }
