-- What each answer says in numbers: refusal 0 where it is done, and then the finding: 1 heard, 2 silent, 3 faulty,
-- and the peak of one that is heard; else the refusal's number. What does not hold is 0.
-- To be believed: all of it. Assumes nothing.
use Rattle.std.specs.Prelude.{ℕ, Float, Result, Ok, Err}
use Rattle.std.specs.Float.{binary32}
use Rattle.std.specs.Float.Ieee.{of_bits}
use Rattle.quantise.specs.declared.Finding.{Finding}
use Rattle.quantise.specs.declared.Finding.TheVariants.{Heard, Silent, Faulty}
use Rattle.refusals.specs.declared.Refusal.{Refusal}
use Rattle.refusals.specs.Refusals.{refused}

-- the number whose bits are all 0
abbrev pub plus_zero : Float
plus_zero = of_bits binary32 0

abbrev pub finding_number : Finding → ℕ
finding_number (Heard peak) = 1
finding_number Silent = 2
finding_number Faulty = 3

abbrev pub finding_peak : Finding → Float
finding_peak (Heard peak) = peak
finding_peak Silent = plus_zero
finding_peak Faulty = plus_zero

-- quantising answers the finding
abbrev pub Quantised : Type 0
Quantised = Result Finding Refusal

abbrev pub quantised_refusal : Quantised → ℕ
quantised_refusal = refused

abbrev pub quantised_finding : Quantised → ℕ
quantised_finding (Ok found) = finding_number found
quantised_finding (Err refusal) = 0

abbrev pub quantised_peak : Quantised → Float
quantised_peak (Ok found) = finding_peak found
quantised_peak (Err refusal) = plus_zero
