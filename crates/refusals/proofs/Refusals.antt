-- Laws of the numbers: none is 0, and each is of one refusal, so that an answer's number tells its refusal. Assumes nothing.
use mathlib.Core.Path.{◌≡◌, refl, sym, ap, ◌∙◌}
use Prim.Native.Nat.{ℕ}
use native.Mathlib.Omega.{arith}
use Rattle.std.specs.Prelude.{cond, eqb, Result, Ok, Err, ◌<◌}
use Rattle.refusals.specs.declared.Refusal.{Refusal}
use Rattle.refusals.specs.declared.Refusal.TheVariants.{Length, Size, Room, Mode, Mark, Silence, HeaderCrc, Psi, PayloadCrc, Capture}
use Rattle.refusals.specs.Refusals.{number, refused, answered}

-- the refusal of a number, back
of_number : ℕ → Refusal
of_number n =
    (cond (eqb n 1) Length
    (cond (eqb n 2) Size
    (cond (eqb n 3) Room
    (cond (eqb n 4) Mode
    (cond (eqb n 5) Mark
    (cond (eqb n 6) Silence
    (cond (eqb n 7) HeaderCrc
    (cond (eqb n 8) Psi
    (cond (eqb n 9) PayloadCrc
    Capture)))))))))

of_number-number : (r : Refusal) → of_number (number r) ≡ r
unfolding of_number
of_number-number Length = refl
of_number-number Size = refl
of_number-number Room = refl
of_number-number Mode = refl
of_number-number Mark = refl
of_number-number Silence = refl
of_number-number HeaderCrc = refl
of_number-number Psi = refl
of_number-number PayloadCrc = refl
of_number-number Capture = refl

pub number_injective : (r s : Refusal) → number r ≡ number s → r ≡ s
number_injective r s e = sym (of_number-number r) ∙ ap of_number e ∙ of_number-number s

pub number_not_zero : (r : Refusal) → number r ≡ 0 → ⊥
number_not_zero Length e = absurd (omega arith)
number_not_zero Size e = absurd (omega arith)
number_not_zero Room e = absurd (omega arith)
number_not_zero Mode e = absurd (omega arith)
number_not_zero Mark e = absurd (omega arith)
number_not_zero Silence e = absurd (omega arith)
number_not_zero HeaderCrc e = absurd (omega arith)
number_not_zero Psi e = absurd (omega arith)
number_not_zero PayloadCrc e = absurd (omega arith)
number_not_zero Capture e = absurd (omega arith)

-- an answer is told by its refusal and its number, where a number goes with refusal 0 alone
pub same_answer : (a b : Result ℕ Refusal) → refused a ≡ refused b → answered a ≡ answered b → (refused a ≡ 0 → 0 < answered a) → a ≡ b
same_answer (Ok x) (Ok y) r s z = ap Ok s
same_answer (Err x) (Err y) r s z = ap Err (number_injective x y r)
same_answer (Ok x) (Err y) r s z = absurd (omega (arith, z refl))
same_answer (Err x) (Ok y) r s z = absurd (omega (arith, z r))
