-- Document 01's promises besides the demands: no second answer, what soft values are worth, and that the programs it names do not meet the contracts.
-- Assumes nothing.
use mathlib.Core.Bool.{Bool, true, false, cond}
use mathlib.Core.List.{List, map}
use mathlib.Core.Path.{◌≡◌, refl, sym, ap, subst, ◌∙◌}
use Prim.Native.Nat.{ℕ, ◌≤◌, ◌<◌}
use native.Mathlib.Decide.{ℕ_discrete}
use native.Mathlib.Omega.{arith}
use borrow.Author.Tests.{eq-eqb, ne_eqb}
use lib.ListN.{length, get_or, take, replicate, length-replicate, get_or-replicate, length-map}
use lib.Seq.{ext_get_or}
use Rattle.bits.specs.Bits.{bit, is_one}
use Rattle.bits.proofs.Bits.{map-is_one-map-bit}
use Rattle.coder.specs.Coder.{uplink_words}
use Rattle.coder.specs.Cost.{weight, against, cost}
use Rattle.coder.proofs.Coded.{coded_injective, uplink_words_tell}
use Rattle.coder.proofs.Cost.{cost_le}
use Rattle.coder.proofs.Nearest.{nearest_is}
use Rattle.whiten.specs.Whiten.{whitened}
use Rattle.whiten.proofs.Whiten.{length-whitened, whitened-whitened}
use Rattle.interleave.specs.Interleave.{coded_bits, packet_of, symbol_of, pilot, core_pilot, Length}
use Rattle.interleave.specs.Bursts.{received}
use Rattle.interleave.proofs.Placed.{placed_here}
use Rattle.payload.specs.Payload.{payload, payload_bits}
use Rattle.payload.specs.Open.{mode_of}
use Rattle.payload.proofs.Payload.{length-payload}
use Rattle.payload.proofs.RoundTrip as Trip
use Rattle.uplink.specs.Answers.{Recovery, built_refusal, recovered_cost}
use Rattle.uplink.specs.Frame.{coded_payload, Frame}
use Rattle.uplink.specs.Recover.{nearest_string, nearest_cost, recover_refusal, Recovers}
use Rattle.uplink.specs.Demands.{NoSecond, SoftValues, Sendable, Returned, Builder, Recoverer, ShutOut}
use Rattle.uplink.proofs.Building.{length-coded_payload}
use Rattle.uplink.proofs.Unique.{built_answer_unique, built_buffer_unique, recovered_answer_unique, recovered_buffer_unique}
use Rattle.uplink.proofs.Lost.{recovers_alike}
use Rattle.uplink.proofs.Clean.{clean_marks, clean_values, clean_formed, clean_right}
use Rattle.uplink.proofs.Demands.{demand_2}
use Rattle.uplink.proofs.Taken.{recover_taken}

pub no_second : NoSecond
no_second =
    record {
      build_answer = λ p q. built_answer_unique p q;
      build_buffer = λ p q. built_buffer_unique p q;
      recover_answer = λ p q. recovered_answer_unique p q;
      recover_buffer = λ p q. recovered_buffer_unique p q;
    }

zero_nothing : (b : Bool) → against b 0 ≡ 0
unfolding against weight
zero_nothing true = refl
zero_nothing false = refl

cost_most : {l : ℕ} {marks values before after : List ℕ} {answer : Recovery} → Recovers l marks values before after answer → recovered_cost answer ≤ 795648
cost_most {l} {marks} {values} {before} {after} {answer} p = go (ℕ_discrete (recover_refusal l marks values (length before)) 0)
  where
    go : Dec (recover_refusal l marks values (length before) ≡ 0) → recovered_cost answer ≤ 795648
    go (yes z) =
        omega (
          arith,
          p.weight ∙ ap (λ (t : Bool). cond t (nearest_cost l marks values) 0) (eq-eqb (recover_refusal l marks values (length before)) 0 z),
          cost_le uplink_words (received l marks values) (nearest_string l marks values),
          (nearest_is (cost uplink_words (received l marks values)) (payload_bits l)).sized,
          (recover_taken l marks values (length before) z).formed.told.high,
        )
    go (no d) = omega (arith, p.weight ∙ ap (λ (t : Bool). cond t (nearest_cost l marks values) 0) (ne_eqb (recover_refusal l marks values (length before)) 0 d))

pub soft_values : SoftValues
soft_values =
    record {
      lost_answer = λ a p q. recovered_answer_unique p (recovers_alike a q);
      lost_buffer = λ a p q. recovered_buffer_unique p (recovers_alike a q);
      zero_says_nothing = zero_nothing;
      most = cost_most;
    }

-- the frame tells the coded bits, and those the mode
module _ {message : List ℕ} {mode mode' : ℕ} {frame : List ℕ} (s : Sendable message mode) (s' : Sendable message mode') (p : Frame message mode frame) (q : Frame message mode' frame) where
  same_coded : map bit (coded_payload message mode) ≡ map bit (coded_payload message mode')
  same_coded =
      ext_get_or 0 (map bit (coded_payload message mode)) (map bit (coded_payload message mode')) (long ∙ sym long')
      (λ j h.
      let here = placed_here s.told {j = j} (omega (arith, long)) in
      sym (p.bits j (packet_of (length message) j) (symbol_of (length message) j) here) ∙ q.bits j (packet_of (length message) j) (symbol_of (length message) j) here)
    where
      long : length (map bit (coded_payload message mode)) ≡ coded_bits (length message)
      long = length-map (coded_payload message mode) bit ∙ length-coded_payload message mode s.told

      long' : length (map bit (coded_payload message mode')) ≡ coded_bits (length message)
      long' = length-map (coded_payload message mode') bit ∙ length-coded_payload message mode' s.told

  same_payload : payload message mode ≡ payload message mode'
  unfolding coded_payload
  same_payload =
      sym (whitened-whitened (payload message mode))
      ∙ ap whitened
      (coded_injective uplink_words uplink_words_tell (whitened (payload message mode)) (whitened (payload message mode'))
      (length-whitened (payload message mode) ∙ length-payload message mode s.told.low ∙ sym (length-whitened (payload message mode') ∙ length-payload message mode' s.told.low))
      (sym (map-is_one-map-bit (coded_payload message mode)) ∙ ap (map is_one) same_coded ∙ map-is_one-map-bit (coded_payload message mode')))
      ∙ whitened-whitened (payload message mode')

  opens : {m : ℕ} → Sendable message m → mode_of (length message) (payload message m) ≡ m
  opens {m} t = (Trip.open_payload {message = message} {mode = m} (record { least = t.told.low; most = t.told.high; bytes = t.bytes; two_bits = omega (arith, t.modes) })).same_mode

  pub frame_mode : mode ≡ mode'
  frame_mode = sym (opens s) ∙ ap (mode_of (length message)) same_payload ∙ opens s'

-- twenty equal bytes
abbrev equal : ℕ → List ℕ
equal v = replicate 20 v

twenty : Length 20
twenty = record { low = omega arith; high = omega arith }

equal_sendable : (v mode : ℕ) → v < 256 → mode ≤ 3 → Sendable (equal v) mode
equal_sendable v mode h m =
    record { told = twenty; bytes = λ i l. subst (λ (x : ℕ). x < 256) (sym (get_or-replicate 20 i v 0 l)) h; modes = m }

-- a frame of such a message that is heard cleanly
abbrev marks : ℕ → List ℕ
marks v = clean_marks 20 twenty (coded_payload (equal v) 0)

abbrev values : ℕ → List ℕ
values v = clean_values 20 twenty (coded_payload (equal v) 0)

-- it comes back, whatever recovers it
comes_back : (v : ℕ) → v < 256 → (before : List ℕ) → 20 ≤ length before → {after : List ℕ} {answer : Recovery} → Recovers 20 (marks v) (values v) before after answer → Returned (equal v) 0 before after answer
comes_back v h before r p =
    demand_2.comes_back (equal_sendable v 0 h (omega arith)) (clean_formed 20 twenty (coded_payload (equal v) 0) (length before) r) (clean_right 20 twenty (coded_payload (equal v) 0)) p

-- room for the frame of twenty bytes, and for the twenty bytes
abbrev frame_room : ℕ → List ℕ
frame_room v = replicate 864 v

-- such a message is built, whatever builds it
builds : (b : Builder) (v mode r : ℕ) → v < 256 → mode ≤ 3 → built_refusal (b.answer 20 mode (equal v) (frame_room r)) ≡ 0
builds b v mode r h m =
    demand_2.taken (b.meets 20 mode (equal v) (frame_room r)) (equal_sendable v mode h m) (omega (arith, length-replicate 864 r))

returns : (r : Recoverer) (v w : ℕ) → v < 256 → Returned (equal v) 0 (equal w) (r.after 20 (marks v) (values v) (equal w)) (r.answer 20 (marks v) (values v) (equal w))
returns r v w h = comes_back v h (equal w) (omega arith) (r.meets 20 (marks v) (values v) (equal w))

-- the message written is the one that was sent
written : (r : Recoverer) (v w : ℕ) → v < 256 → r.after 20 (marks v) (values v) (equal w) ≡ equal v
written r v w h = (returns r v w h).written

pub shut_out : ShutOut
unfolding pilot core_pilot
shut_out =
    record {
      refuses_every_build = λ b d. d 20 0 (equal 0) (frame_room 0) (builds b 0 0 0 (omega arith) (omega arith));
      gives_one_frame = λ b frame d.
          let first = builds b 0 0 0 (omega arith) (omega arith) in
          let second = builds b 0 1 0 (omega arith) (omega arith) in
          let p : Frame (equal 0) 0 frame = subst (λ (f : List ℕ). Frame (equal 0) 0 f) (d 20 0 (equal 0) (frame_room 0) first) (demand_2.frame (b.meets 20 0 (equal 0) (frame_room 0)) first) in
          let q : Frame (equal 0) 1 frame = subst (λ (f : List ℕ). Frame (equal 0) 1 f) (d 20 1 (equal 0) (frame_room 0) second) (demand_2.frame (b.meets 20 1 (equal 0) (frame_room 0)) second) in
          let e : ◌≡◌ {A = ℕ} 0 1 = frame_mode (equal_sendable 0 0 (omega arith) (omega arith)) (equal_sendable 0 1 (omega arith) (omega arith)) p q in
          omega arith;
      builds_nothing = λ b d.
          let p : Frame (equal 0) 0 (take 864 (frame_room 2)) = subst (λ (f : List ℕ). Frame (equal 0) 0 (take 864 f)) (d 20 0 (equal 0) (frame_room 2)) (demand_2.frame (b.meets 20 0 (equal 0) (frame_room 2)) (builds b 0 0 2 (omega arith) (omega arith))) in
          let e : ◌≡◌ {A = ℕ} 2 0 = p.pilots 0 0 (omega arith) (omega arith) in
          omega arith;
      refuses_every_frame = λ r d. d 20 (marks 0) (values 0) (equal 0) (returns r 0 0 (omega arith)).refusal;
      returns_one_message = λ r message d.
          let first : equal 0 ≡ message = sym (ap (take 20) (written r 0 0 (omega arith))) ∙ d 20 (marks 0) (values 0) (equal 0) (returns r 0 0 (omega arith)).refusal in
          let second : equal 1 ≡ message = sym (ap (take 20) (written r 1 0 (omega arith))) ∙ d 20 (marks 1) (values 1) (equal 0) (returns r 1 0 (omega arith)).refusal in
          let e : ◌≡◌ {A = ℕ} 0 1 = ap (λ (m : List ℕ). get_or m 0 0) (first ∙ sym second) in
          omega arith;
      recovers_nothing = λ r d.
          let e : ◌≡◌ {A = ℕ} 1 0 = ap (λ (m : List ℕ). get_or m 0 0) (sym (d 20 (marks 0) (values 0) (equal 1)) ∙ written r 0 1 (omega arith)) in
          omega arith;
    }
