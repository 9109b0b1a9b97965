-- What each answer says, in document 01's numbers: refusal 0 where it is done, and then the numbers that it answers;
-- else the refusal's number, and the others are 0.
-- To be believed: all of it. Assumes nothing.
use Rattle.std.specs.Prelude.{ℕ, Result, Ok, Err}
use Rattle.refusals.specs.declared.Refusal.{Refusal}
use Rattle.refusals.specs.Refusals.{refused, answered}
use Rattle.uplink.specs.declared.Recovered.{Recovered}

-- build answers the bytes written
abbrev pub Built : Type 0
Built = Result ℕ Refusal

abbrev pub built_refusal : Built → ℕ
built_refusal = refused

abbrev pub built_size : Built → ℕ
built_size = answered

-- recover answers the length, the mode and the cost
abbrev pub Recovery : Type 0
Recovery = Result Recovered Refusal

abbrev pub recovered_refusal : Recovery → ℕ
recovered_refusal = refused

abbrev pub recovered_length : Recovery → ℕ
recovered_length (Ok recovered) = recovered.length
recovered_length (Err refusal) = 0

abbrev pub recovered_mode : Recovery → ℕ
recovered_mode (Ok recovered) = recovered.mode
recovered_mode (Err refusal) = 0

abbrev pub recovered_cost : Recovery → ℕ
recovered_cost (Ok recovered) = recovered.cost
recovered_cost (Err refusal) = 0
