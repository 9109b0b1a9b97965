-- Quantising a burst, #101: 24 numbers to 24 values and a finding. "Refusals: 2 unless there are exactly 24 numbers,
-- then 3."
-- To be believed: patterns, values_of, quantise_refusal, Quantises. A number's bits are the kit's `to_bits`; `Account`
-- of Promises says that they tell its exact value. Assumes nothing.
use Rattle.std.specs.Prelude.{Ok, cond, List, map, ◌++◌, ◌≡◌, ℕ, ltb, eqb, Float, length, drop}
use Rattle.std.specs.Float.{binary32}
use Rattle.std.specs.Float.Ieee.{to_bits}
use Rattle.quantise.specs.Number.{number_of}
use Rattle.quantise.specs.Value.{value_of}
use Rattle.quantise.specs.Finding.{finding_of}
use Rattle.quantise.specs.Answers.{Quantised, quantised_refusal}

-- the bits of each number
abbrev pub patterns : List Float → List ℕ
patterns numbers = map (to_bits binary32) numbers

-- the value of each number, from its bits
abbrev pub values_of : List ℕ → List ℕ
values_of bs = map (λ b. value_of (number_of b)) bs

-- the first of: 2 not exactly 24 numbers; 3 room for fewer than 24 values. 0 where none holds
unfoldable pub quantise_refusal : ℕ → ℕ → ℕ
quantise_refusal count room = cond (eqb count 24) (cond (ltb room 24) 3 0) 2

-- what quantising answers and leaves in the lent buffer, for every input
pub record Quantises (numbers : List Float) (before after : List ℕ) (answer : Quantised) : Type 0 where
  pub refusal : quantised_refusal answer ≡ quantise_refusal (length numbers) (length before)
  pub finding : quantise_refusal (length numbers) (length before) ≡ 0 → answer ≡ Ok (finding_of (patterns numbers))
  pub bytes : after ≡ cond (eqb (quantise_refusal (length numbers) (length before)) 0) (values_of (patterns numbers) ++ drop 24 before) before
