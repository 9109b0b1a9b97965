-- What each answer says, in document 01's numbers: refusal 0 where it is done, and then the number that it answers;
-- else the refusal's number, and the other is 0.
-- To be believed: all of it. Assumes nothing.
use Rattle.std.specs.Prelude.{ℕ, Result}
use Rattle.refusals.specs.declared.Refusal.{Refusal}
use Rattle.refusals.specs.Refusals.{refused, answered}

-- writing answers the size
abbrev pub Written : Type 0
Written = Result ℕ Refusal

abbrev pub written_refusal : Written → ℕ
written_refusal = refused

abbrev pub written_size : Written → ℕ
written_size = answered

-- reading answers the length of the message
abbrev pub Read : Type 0
Read = Result ℕ Refusal

abbrev pub read_refusal_of : Read → ℕ
read_refusal_of = refused

abbrev pub read_length : Read → ℕ
read_length = answered
