-- No second answer and no second state of the buffer meets the contract of build or of recover.
-- Assumes nothing.
use mathlib.Core.Bool.{Bool, cond}
use mathlib.Core.List.{List, ◌++◌}
use mathlib.Core.Path.{◌≡◌, refl, sym, ap, ap₂, ◌∙◌}
use Prim.Native.Nat.{ℕ, ◌<◌}
use native.Mathlib.Decide.{ℕ_discrete}
use native.Mathlib.Omega.{arith}
use borrow.Author.Tests.{eq-eqb}
use lib.ListN.{length, take-append-drop}
use Rattle.interleave.specs.Interleave.{Length}
use Rattle.interleave.proofs.Bursts.{bursts_unique}
use Rattle.std.specs.Prelude.{Ok, Err}
use Rattle.refusals.proofs.Refusals.{number_injective, same_answer}
use Rattle.uplink.specs.declared.Recovered.{Recovered}
use Rattle.uplink.specs.Answers.{Built, Recovery, built_refusal, built_size, recovered_refusal, recovered_length, recovered_mode, recovered_cost}
use Rattle.uplink.specs.Build.{frame_size, build_refusal, Builds}
use Rattle.uplink.specs.Recover.{recover_refusal, Recovers}
use Rattle.uplink.proofs.Taken.{BuildTaken, build_taken, recover_taken}

module _ {l mode : ℕ} {message before after after' : List ℕ} {answer answer' : Built}
    (p : Builds l mode message before after answer) (q : Builds l mode message before after' answer') where
  number : ℕ
  number = build_refusal l mode (length message) (length before)

  pub built_answer_unique : answer ≡ answer'
  built_answer_unique = same_answer answer answer' (p.refusal ∙ sym q.refusal) (p.size ∙ sym q.size) sizes
    where
      sizes : built_refusal answer ≡ 0 → 0 < built_size answer
      sizes z = omega (arith, p.size ∙ ap (λ (t : Bool). cond t (frame_size l) 0) (eq-eqb (build_refusal l mode (length message) (length before)) 0 (sym p.refusal ∙ z)))

  pub built_buffer_unique : after ≡ after'
  built_buffer_unique = go (ℕ_discrete (build_refusal l mode (length message) (length before)) 0)
    where
      go : Dec (build_refusal l mode (length message) (length before) ≡ 0) → after ≡ after'
      go (yes z) =
          let t : BuildTaken l mode (length message) (length before) = build_taken l mode (length message) (length before) z in
          let h : Length (length message) = rw t.sized t.told in
          sym (take-append-drop (frame_size l) after)
          ∙ ap₂ (λ (x y : List ℕ). x ++ y) (bursts_unique h (p.frame z) (q.frame z)) (p.rest z ∙ sym (q.rest z))
          ∙ take-append-drop (frame_size l) after'
      go (no d) = p.kept d ∙ sym (q.kept d)

-- three numbers are what recovering answers where it is done
same_numbers : (a b : Recovered) → a.length ≡ b.length → a.mode ≡ b.mode → a.cost ≡ b.cost → a ≡ b
same_numbers a b e f g =
    ap (λ (l : ℕ). record { length = l; mode = a.mode; cost = a.cost }) e
    ∙ ap₂ (λ (m c : ℕ). record { length = b.length; mode = m; cost = c }) f g

recovered_same :
    (a b : Recovery) → recovered_refusal a ≡ recovered_refusal b → recovered_length a ≡ recovered_length b → recovered_mode a ≡ recovered_mode b → recovered_cost a ≡ recovered_cost b
    → (recovered_refusal a ≡ 0 → 0 < recovered_length a) → a ≡ b
recovered_same (Ok x) (Ok y) r e f g z = ap Ok (same_numbers x y e f g)
recovered_same (Err x) (Err y) r e f g z = ap Err (number_injective x y r)
recovered_same (Ok x) (Err y) r e f g z = absurd (omega (arith, z refl))
recovered_same (Err x) (Ok y) r e f g z = absurd (omega (arith, z r))

module _ {l : ℕ} {marks values before after after' : List ℕ} {answer answer' : Recovery}
    (p : Recovers l marks values before after answer) (q : Recovers l marks values before after' answer') where
  pub recovered_answer_unique : answer ≡ answer'
  recovered_answer_unique =
      recovered_same answer answer' (p.refusal ∙ sym q.refusal) (p.told ∙ sym q.told) (p.mode ∙ sym q.mode) (p.weight ∙ sym q.weight) lengths
    where
      lengths : recovered_refusal answer ≡ 0 → 0 < recovered_length answer
      lengths z =
          omega (
            arith,
            p.told ∙ ap (λ (t : Bool). cond t l 0) (eq-eqb (recover_refusal l marks values (length before)) 0 (sym p.refusal ∙ z)),
            (recover_taken l marks values (length before) (sym p.refusal ∙ z)).formed.told.low,
          )

  pub recovered_buffer_unique : after ≡ after'
  recovered_buffer_unique = p.message ∙ sym q.message
