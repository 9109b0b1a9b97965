-- What C gets of each operation: an answer that meets the operation's contract, in its paper's numbers, field by field.
-- To be believed: Hands, built_fields, recovered_fields, written_fields, read_fields, quantised_fields, version; NoSecond is
-- what follows. Assumes nothing.
use Rattle.std.specs.Prelude.{List, ◌≡◌, ℕ, Float}
use Rattle.uplink.specs.Answers.{Built, Recovery, built_refusal, built_size, recovered_refusal, recovered_length, recovered_mode, recovered_cost}
use Rattle.uplink.specs.Build.{Builds}
use Rattle.uplink.specs.Recover.{Recovers}
use Rattle.capture.specs.Answers.{Written, Read, written_refusal, written_size, read_refusal_of, read_length}
use Rattle.capture.specs.Writing.{Writes}
use Rattle.capture.specs.Reading.{Reads}
use Rattle.quantise.specs.Answers.{Quantised, quantised_refusal, quantised_finding, quantised_peak}
use Rattle.quantise.specs.Quantise.{Quantises}
use Rattle.gateway.specs.declared.GloamWritten.{GloamWritten}
use Rattle.gateway.specs.declared.GloamRead.{GloamRead}
use Rattle.gateway.specs.declared.GloamRecovered.{GloamRecovered}
use Rattle.gateway.specs.declared.GloamQuantised.{GloamQuantised}

-- the version of the interface, from the three numbers of the file VERSION: 10,000 major + 100 minor + patch
abbrev pub version : ℕ
version = 200

-- the struct that C gets for each answer: the refusal, 0 where it is done, and the answer's numbers, 0 where it is refused
abbrev pub built_fields : Built → GloamWritten
built_fields answer = record { refusal = built_refusal answer; size = built_size answer }

abbrev pub recovered_fields : Recovery → GloamRecovered
recovered_fields answer =
    record {
      refusal = recovered_refusal answer;
      length = recovered_length answer;
      mode = recovered_mode answer;
      cost = recovered_cost answer;
    }

abbrev pub written_fields : Written → GloamWritten
written_fields answer = record { refusal = written_refusal answer; size = written_size answer }

abbrev pub read_fields : Read → GloamRead
read_fields answer = record { refusal = read_refusal_of answer; length = read_length answer }

abbrev pub quantised_fields : Quantised → GloamQuantised
quantised_fields answer = record { refusal = quantised_refusal answer; finding = quantised_finding answer; peak = quantised_peak answer }

-- C is handed the fields of an answer that meets the contract
pub record Hands {Answer Fields : Type 0} (Meets : Answer → Type 0) (fields : Answer → Fields) (r : Fields) : Type 0 where
  pub answer : Answer
  pub meets : Meets answer
  pub handed : r ≡ fields answer

-- no second struct, and no second state of a lent buffer, is possible
pub record NoSecond : Type 0 where
  pub build_answer :
      {l mode : ℕ} {message before after after' : List ℕ} {r r' : GloamWritten}
      → Hands (Builds l mode message before after) built_fields r → Hands (Builds l mode message before after') built_fields r' → r ≡ r'
  pub build_buffer :
      {l mode : ℕ} {message before after after' : List ℕ} {r r' : GloamWritten}
      → Hands (Builds l mode message before after) built_fields r → Hands (Builds l mode message before after') built_fields r' → after ≡ after'
  pub recover_answer :
      {l : ℕ} {marks values before after after' : List ℕ} {r r' : GloamRecovered}
      → Hands (Recovers l marks values before after) recovered_fields r → Hands (Recovers l marks values before after') recovered_fields r' → r ≡ r'
  pub recover_buffer :
      {l : ℕ} {marks values before after after' : List ℕ} {r r' : GloamRecovered}
      → Hands (Recovers l marks values before after) recovered_fields r → Hands (Recovers l marks values before after') recovered_fields r' → after ≡ after'
  pub write_answer :
      {l : ℕ} {marks values before after after' : List ℕ} {r r' : GloamWritten}
      → Hands (Writes l marks values before after) written_fields r → Hands (Writes l marks values before after') written_fields r' → r ≡ r'
  pub write_buffer :
      {l : ℕ} {marks values before after after' : List ℕ} {r r' : GloamWritten}
      → Hands (Writes l marks values before after) written_fields r → Hands (Writes l marks values before after') written_fields r' → after ≡ after'
  pub read_answer :
      {c marks values marks₁ marks₂ values₁ values₂ : List ℕ} {r r' : GloamRead}
      → Hands (Reads c marks values marks₁ values₁) read_fields r → Hands (Reads c marks values marks₂ values₂) read_fields r' → r ≡ r'
  pub read_marks :
      {c marks values marks₁ marks₂ values₁ values₂ : List ℕ} {r r' : GloamRead}
      → Hands (Reads c marks values marks₁ values₁) read_fields r → Hands (Reads c marks values marks₂ values₂) read_fields r' → marks₁ ≡ marks₂
  pub read_values :
      {c marks values marks₁ marks₂ values₁ values₂ : List ℕ} {r r' : GloamRead}
      → Hands (Reads c marks values marks₁ values₁) read_fields r → Hands (Reads c marks values marks₂ values₂) read_fields r' → values₁ ≡ values₂
  pub quantise_answer :
      {numbers : List Float} {before after after' : List ℕ} {r r' : GloamQuantised}
      → Hands (Quantises numbers before after) quantised_fields r → Hands (Quantises numbers before after') quantised_fields r' → r ≡ r'
  pub quantise_buffer :
      {numbers : List Float} {before after after' : List ℕ} {r r' : GloamQuantised}
      → Hands (Quantises numbers before after) quantised_fields r → Hands (Quantises numbers before after') quantised_fields r' → after ≡ after'
