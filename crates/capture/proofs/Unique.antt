-- No second answer, and no second state of a lent buffer, satisfies a contract.
-- Assumes nothing.
use mathlib.Core.Bool.{Bool, cond}
use mathlib.Core.List.{List}
use mathlib.Core.Path.{◌≡◌, sym, ap, ◌∙◌}
use Prim.Native.Nat.{ℕ}
use native.Mathlib.Omega.{arith}
use borrow.Author.Tests.{eq-eqb}
use lib.ListN.{length}
use Rattle.refusals.proofs.Refusals.{same_answer}
use Rattle.capture.specs.Capture.{capture_size}
use Rattle.capture.specs.Answers.{Written, Read, written_refusal, written_size, read_refusal_of, read_length}
use Rattle.capture.specs.Writing.{write_refusal, Writes}
use Rattle.capture.specs.Reading.{told_in, read_refusal, Reads}
use Rattle.capture.specs.Promises.{NoSecond}
use Rattle.capture.proofs.ReadRefusals.{read_taken}

-- where nothing is refused the numbers are these
pub written_size_lem : {l : ℕ} {marks values before after : List ℕ} {answer : Written} → Writes l marks values before after answer → written_refusal answer ≡ 0 → written_size answer ≡ capture_size l
written_size_lem {l} {marks} {values} {before} p z =
    p.size ∙ ap (λ (t : Bool). cond t (capture_size l) 0) (eq-eqb (write_refusal l marks values (length before)) 0 (sym p.refusal ∙ z))

pub read_length_lem : {c marks values marks' values' : List ℕ} {answer : Read} → Reads c marks values marks' values' answer → read_refusal_of answer ≡ 0 → read_length answer ≡ told_in c
read_length_lem {c} {marks} {values} p z =
    p.told ∙ ap (λ (t : Bool). cond t (told_in c) 0) (eq-eqb (read_refusal c (length marks) (length values)) 0 (sym p.refusal ∙ z))

module _ {l : ℕ} {marks values before after after' : List ℕ} {answer answer' : Written}
    (p : Writes l marks values before after answer) (q : Writes l marks values before after' answer') where
  written_answer_unique : answer ≡ answer'
  written_answer_unique = same_answer answer answer' (p.refusal ∙ sym q.refusal) (p.size ∙ sym q.size) (λ z. omega (arith, written_size_lem p z))

module _ {c marks values marks₁ marks₂ values₁ values₂ : List ℕ} {answer answer' : Read}
    (p : Reads c marks values marks₁ values₁ answer) (q : Reads c marks values marks₂ values₂ answer') where
  read_answer_unique : answer ≡ answer'
  read_answer_unique =
      same_answer answer answer' (p.refusal ∙ sym q.refusal) (p.told ∙ sym q.told)
      (λ z. omega (arith, read_length_lem p z, (read_taken c (length marks) (length values) (sym p.refusal ∙ z)).told.low))

pub no_second : NoSecond
no_second =
    record {
      write_answer = λ p q. written_answer_unique p q;
      write_buffer = λ p q. p.bytes ∙ sym q.bytes;
      read_answer = λ p q. read_answer_unique p q;
      read_marks = λ p q. p.marks_bytes ∙ sym q.marks_bytes;
      read_values = λ p q. p.values_bytes ∙ sym q.values_bytes;
    }
