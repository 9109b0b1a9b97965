-- What document 01 promises of the stored capture, of whatever meets the contracts of writing and reading.
-- To be believed: all of it. Assumes nothing.
use Rattle.std.specs.Prelude.{List, ◌≡◌, ℕ, ◌+◌, ◌*◌, ◌≤◌, length, take}
use Rattle.capture.specs.Capture.{capture_size}
use Rattle.capture.specs.Answers.{Written, Read, written_refusal, read_refusal_of, read_length}
use Rattle.capture.specs.Writing.{Writes}
use Rattle.capture.specs.Reading.{Reads}

-- no second answer, and no second state of a lent buffer, satisfies a contract
pub record NoSecond : Type 0 where
  pub write_answer :
      {l : ℕ} {marks values before after after' : List ℕ} {answer answer' : Written}
      → Writes l marks values before after answer → Writes l marks values before after' answer' → answer ≡ answer'
  pub write_buffer :
      {l : ℕ} {marks values before after after' : List ℕ} {answer answer' : Written}
      → Writes l marks values before after answer → Writes l marks values before after' answer' → after ≡ after'
  pub read_answer :
      {c marks values marks₁ marks₂ values₁ values₂ : List ℕ} {answer answer' : Read}
      → Reads c marks values marks₁ values₁ answer → Reads c marks values marks₂ values₂ answer' → answer ≡ answer'
  pub read_marks :
      {c marks values marks₁ marks₂ values₁ values₂ : List ℕ} {answer answer' : Read}
      → Reads c marks values marks₁ values₁ answer → Reads c marks values marks₂ values₂ answer' → marks₁ ≡ marks₂
  pub read_values :
      {c marks values marks₁ marks₂ values₁ values₂ : List ℕ} {answer answer' : Read}
      → Reads c marks values marks₁ values₁ answer → Reads c marks values marks₂ values₂ answer' → values₁ ≡ values₂

-- the two round trips
pub record RoundTrips : Type 0 where
  -- "Reading what was written gives the same L, marks and values"
  pub read_written :
      {l : ℕ} {marks values before after : List ℕ} {written : Written} {room₁ room₂ marks' values' : List ℕ} {answer : Read}
      → Writes l marks values before after written → written_refusal written ≡ 0
      → l + 4 ≤ length room₁ → 24 * (l + 4) ≤ length room₂
      → Reads (take (capture_size l) after) room₁ room₂ marks' values' answer
      → (read_refusal_of answer ≡ 0) × (read_length answer ≡ l) × (take (l + 4) marks' ≡ marks) × (take (24 * (l + 4)) values' ≡ values)
  -- "writing what was read gives the same bytes"
  pub write_read :
      {c room₁ room₂ marks values before after : List ℕ} {answer : Read} {written : Written}
      → Reads c room₁ room₂ marks values answer → read_refusal_of answer ≡ 0
      → length c ≤ length before
      → Writes (read_length answer) (take (read_length answer + 4) marks) (take (24 * (read_length answer + 4)) values) before after written
      → (written_refusal written ≡ 0) × (take (length c) after ≡ c)
