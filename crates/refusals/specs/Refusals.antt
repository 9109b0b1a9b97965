-- Document 01, "What comes back": the numbers of the refusals, and the number of an answer.
-- To be believed: number, refused, answered. Assumes nothing.
use Rattle.std.specs.Prelude.{ℕ, Result, Ok, Err}
use Rattle.refusals.specs.declared.Refusal.{Refusal}
use Rattle.refusals.specs.declared.Refusal.TheVariants as Refusal-is

-- the table's first column
abbrev pub number : Refusal → ℕ
number Refusal-is.Length = 1
number Refusal-is.Size = 2
number Refusal-is.Room = 3
number Refusal-is.Mode = 4
number Refusal-is.Mark = 5
number Refusal-is.Silence = 6
number Refusal-is.HeaderCrc = 7
number Refusal-is.Psi = 8
number Refusal-is.PayloadCrc = 9
number Refusal-is.Capture = 10

-- the number of an answer: 0 where it is done
abbrev pub refused : {A : Type 0} → Result A Refusal → ℕ
refused (Ok x) = 0
refused (Err refusal) = number refusal

-- the number that an answer has where it is done, and 0 where it is refused
abbrev pub answered : Result ℕ Refusal → ℕ
answered (Ok n) = n
answered (Err refusal) = 0
