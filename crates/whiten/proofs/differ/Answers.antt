-- `whiten::differ` meets its contract: a test that two bits are not the same says whether they differ. Assumes nothing.
use mathlib.Core.Bool.{Bool, true, false, not, beq, xor}
use mathlib.Core.Path.{◌≡◌, refl, ap, ◌∙◌}
use Rattle.bits.specs.Bits.{bit, is_one}
use Rattle.bits.proofs.Bits.{bool_byte-bit}
use Rattle.whiten.proofs.differ.Goals as goal

not-beq : (x y : Bool) → not (beq x y) ≡ xor x y
unfolding xor
not-beq true true = refl
not-beq true false = refl
not-beq false true = refl
not-beq false false = refl

pub returns : goal.returns
returns c = c.from.ensures ∙ bool_byte-bit _ ∙ ap bit (not-beq (is_one c.args.v) (is_one c.args.w))
