-- No second answer, and no second state of the lent buffer, satisfies the contract. Assumes nothing.
use mathlib.Core.List.{List}
use mathlib.Core.Logic.{⊎_elim}
use mathlib.Core.Path.{◌≡◌, sym, ap, ◌∙◌}
use Rattle.std.specs.Prelude.{Ok, Err}
use Prim.Native.Nat.{ℕ, ◌<◌}
use native.Mathlib.Nat.{eq-zero-or-pos}
use native.Mathlib.Omega.{arith}
use lib.Ieee.{Float}
use lib.ListN.{length}
use Rattle.refusals.proofs.Refusals.{number_injective}
use Rattle.quantise.specs.Answers.{Quantised, quantised_refusal}
use Rattle.quantise.specs.Quantise.{quantise_refusal, Quantises}
use Rattle.quantise.specs.Promises.{NoSecond}

-- two refusals of one number are one answer
refused_same : (a b : Quantised) → quantised_refusal a ≡ quantised_refusal b → 0 < quantised_refusal a → a ≡ b
refused_same (Err x) (Err y) e h = ap Err (number_injective x y e)
refused_same (Err x) (Ok f) e h = absurd (omega arith)
refused_same (Ok f) b e h = absurd (omega arith)

module _ {numbers : List Float} {before after after' : List ℕ} {answer answer' : Quantised}
    (p : Quantises numbers before after answer) (q : Quantises numbers before after' answer') where
  answer_unique : answer ≡ answer'
  answer_unique = ⊎_elim
      (λ (z : quantise_refusal (length numbers) (length before) ≡ 0). p.finding z ∙ sym (q.finding z))
      (λ (h : 0 < quantise_refusal (length numbers) (length before)). refused_same answer answer' (p.refusal ∙ sym q.refusal) (omega (arith, p.refusal)))
      (eq-zero-or-pos (quantise_refusal (length numbers) (length before)))

pub no_second : NoSecond
no_second = record { answer = λ p q. answer_unique p q; buffer = λ p q. p.bytes ∙ sym q.bytes }
