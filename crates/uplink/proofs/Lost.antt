-- Two calls that differ only in values of lost sub-packets answer alike.
-- Assumes nothing.
use mathlib.Core.Bool.{Bool, true, false, cond, not, ◌&&◌, ◌||◌}
use mathlib.Core.List.{List, [], ◌∷◌, ◌++◌}
use mathlib.Core.Path.{◌≡◌, refl, sym, ap, ap₂, ◌∙◌}
use Prim.Native.Nat.{ℕ, suc, ◌+◌, ◌-◌, ◌*◌, ◌<◌, min}
use native.Mathlib.Decide.{dec_lt}
use native.Mathlib.Omega.{arith}
use borrow.Author.Tests.{eqb-true}
use lib.Dec.{eqb}
use lib.ListN.{length, get_or, take, drop, length-take, length-drop}
use lib.Seq.{ext_get_or, get_or-take, get_or-drop}
use Rattle.interleave.specs.Interleave.{coded_bits, packet_of, symbol_of, Length}
use Rattle.lists.proofs.Lists.{firsts_same}
use Rattle.interleave.specs.Bursts.{value_of, heard, received}
use Rattle.interleave.proofs.Placed.{placed_here, placed_data}
use Rattle.uplink.specs.Answers.{Recovery}
use Rattle.uplink.specs.Recover.{zeros, silent, opened, nearest_cost, recover_refusal, Recovers}
use Rattle.uplink.specs.Demands.{Alike}
use Rattle.uplink.proofs.Silence.{value_of_below}
use Rattle.uplink.proofs.Refusals.{recover_short, recover_long}
use Rattle.coder.specs.Coder.{uplink_words}
use Rattle.coder.specs.Cost.{cost}
use Rattle.coder.specs.Nearest.{nearest}
use Rattle.whiten.specs.Whiten.{whitened}
use Rattle.payload.specs.Payload.{payload_bits}
use Rattle.payload.specs.Open.{message_of, mode_of}

-- what is heard is the same
pub received_alike : (l : ℕ) (marks values others : List ℕ) → Length l → Alike marks values others → received l marks values ≡ received l marks others
unfolding received heard
received_alike l marks values others told a = firsts_same (coded_bits l) (heard l marks values) (heard l marks others) each
  where
    each : (j : ℕ) → j < coded_bits l → heard l marks values j ≡ heard l marks others j
    each j h = go (eqb (get_or marks (packet_of l j) 0) 1) refl
      where
        go : (t : Bool) → eqb (get_or marks (packet_of l j) 0) 1 ≡ t → cond t (get_or values (24 * packet_of l j + value_of (symbol_of l j)) 0) 0 ≡ cond t (get_or others (24 * packet_of l j + value_of (symbol_of l j)) 0) 0
        go true e = a.same (packet_of l j) (value_of (symbol_of l j)) (value_of_below (placed_data told (placed_here told h))) (eqb-true _ _ e)
        go false e = refl

-- and so is silence
pub silent_alike : (marks values others : List ℕ) → Alike marks values others → silent marks values ≡ silent marks others
unfolding silent
silent_alike [] values others a = refl
silent_alike (m ∷ ms) values others a =
    ap₂ (λ (x y : Bool). x && y) (go (eqb m 1) refl) (silent_alike ms (drop 24 values) (drop 24 others) rest)
  where
    here : m ≡ 1 → take 24 values ≡ take 24 others
    here e =
        ext_get_or 0 (take 24 values) (take 24 others) (length-take 24 values ∙ ap (λ (n : ℕ). min 24 n) a.sized ∙ sym (length-take 24 others))
        (λ i h.
        let l : i < 24 = omega (arith, length-take 24 values) in
        let z : 24 * 0 + i ≡ i = omega arith in
        get_or-take 24 values i 0 l ∙ (rw z at (a.same 0 i l e)) ∙ sym (get_or-take 24 others i 0 l))

    go : (t : Bool) → eqb m 1 ≡ t → (not t || zeros (take 24 values)) ≡ (not t || zeros (take 24 others))
    go true e = ap zeros (here (eqb-true m 1 e))
    go false e = refl

    rest : Alike ms (drop 24 values) (drop 24 others)
    rest =
        record {
          sized = length-drop 24 values ∙ ap (λ (n : ℕ). n - 24) a.sized ∙ sym (length-drop 24 others);
          same = λ s p h e.
              let z : 24 * suc s + p ≡ 24 + (24 * s + p) = omega arith in
              get_or-drop 24 values (24 * s + p) 0 ∙ (rw z at (a.same (suc s) p h e)) ∙ sym (get_or-drop 24 others (24 * s + p) 0);
        }

module _ {l : ℕ} {marks values others : List ℕ} (a : Alike marks values others) where
  opened_alike : Length l → opened l marks values ≡ opened l marks others
  opened_alike h = ap (λ (v : List ℕ). whitened (nearest (cost uplink_words v) (payload_bits l))) (received_alike l marks values others h a)

  cost_alike : Length l → nearest_cost l marks values ≡ nearest_cost l marks others
  cost_alike h = ap (λ (v : List ℕ). cost uplink_words v (nearest (cost uplink_words v) (payload_bits l))) (received_alike l marks values others h a)

  refusal_alike : Length l → (room : ℕ) → recover_refusal l marks values room ≡ recover_refusal l marks others room
  unfolding recover_refusal
  refusal_alike h room = rw (a.sized, silent_alike marks values others a, opened_alike h)

  -- what answers the one call answers the other
  recovers_told : Length l → {before after : List ℕ} {answer : Recovery} → Recovers l marks others before after answer → Recovers l marks values before after answer
  recovers_told h {before} p =
      let e = refusal_alike h (length before) in
      record {
        refusal = p.refusal ∙ sym e;
        told = p.told ∙ ap (λ (r : ℕ). cond (eqb r 0) l 0) (sym e);
        mode = p.mode ∙ ap₂ (λ (r : ℕ) (x : List Bool). cond (eqb r 0) (mode_of l x) 0) (sym e) (sym (opened_alike h));
        weight = p.weight ∙ ap₂ (λ (r c : ℕ). cond (eqb r 0) c 0) (sym e) (sym (cost_alike h));
        message = p.message ∙ ap₂ (λ (r : ℕ) (x : List Bool). cond (eqb r 0) (message_of l x ++ drop l before) before) (sym e) (sym (opened_alike h));
      }

  -- a wrong length is refused alike
  recovers_wrong : ((vs : List ℕ) (room : ℕ) → recover_refusal l marks vs room ≡ 1) → {before after : List ℕ} {answer : Recovery} → Recovers l marks others before after answer → Recovers l marks values before after answer
  recovers_wrong one {before} p =
      record {
        refusal = p.refusal ∙ one others (length before) ∙ sym (one values (length before));
        told = p.told ∙ rw (one others (length before), one values (length before));
        mode = p.mode ∙ rw (one others (length before), one values (length before));
        weight = p.weight ∙ rw (one others (length before), one values (length before));
        message = p.message ∙ rw (one others (length before), one values (length before));
      }

  pub recovers_alike : {before after : List ℕ} {answer : Recovery} → Recovers l marks others before after answer → Recovers l marks values before after answer
  recovers_alike {before} {after} {answer} p = go (dec_lt l 20) (dec_lt 255 l)
    where
      go : Dec (l < 20) → Dec (255 < l) → Recovers l marks values before after answer
      go (yes h) d = recovers_wrong (λ vs room. recover_short l marks vs room h) p
      go (no h) (yes d) = recovers_wrong (λ vs room. recover_long l marks vs room d) p
      go (no h) (no d) = recovers_told (record { low = omega arith; high = omega arith }) p
