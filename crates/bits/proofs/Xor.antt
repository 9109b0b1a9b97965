-- Laws of `xor`, the sum of two bits: order and grouping do not matter, and a bit that is added twice is gone.
-- Assumes nothing.
use mathlib.Core.Bool.{Bool, true, false, xor}
use mathlib.Core.Path.{◌≡◌, refl, ◌∙◌, ap}

pub xor_comm : (a b : Bool) → xor a b ≡ xor b a
unfolding xor
xor_comm true true = refl
xor_comm true false = refl
xor_comm false true = refl
xor_comm false false = refl

pub xor_assoc : (a b c : Bool) → xor (xor a b) c ≡ xor a (xor b c)
unfolding xor
xor_assoc true true true = refl
xor_assoc true true false = refl
xor_assoc true false true = refl
xor_assoc true false false = refl
xor_assoc false true true = refl
xor_assoc false true false = refl
xor_assoc false false true = refl
xor_assoc false false false = refl

pub xor_self : (a : Bool) → xor a a ≡ false
unfolding xor
xor_self true = refl
xor_self false = refl

pub xor_false : (a : Bool) → xor a false ≡ a
unfolding xor
xor_false true = refl
xor_false false = refl

-- the same bit added twice
pub xor_self_cancel : (a b : Bool) → xor (xor a b) b ≡ a
xor_self_cancel a b = xor_assoc a b b ∙ ap (λ (c : Bool). xor a c) (xor_self b) ∙ xor_false a
