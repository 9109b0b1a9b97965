-- The whitening sequence has period 511: its register comes back to nine ones after 511 bits, by one computed test, and
-- a bit depends on the nine before it only. Assumes nothing.
use mathlib.Core.Bool.{Bool, false, xor}
use mathlib.Core.List.{List, ◌∷◌}
use mathlib.Core.Path.{◌≡◌, refl, ap, ap₂, sym, ◌∙◌}
use Prim.Native.Nat.{ℕ, zero, suc, ◌+◌, ◌*◌, ◌/◌, ◌%◌}
use native.Mathlib.Nat.{zero-add, suc-add, div-add-mod'}
use native.Mathlib.Omega.{arith}
use lib.Dec.{lit<}
use lib.ListN.{take}
use lib.Seq.{get_or-take, take-take}
use Rattle.whiten.specs.Whiten.{next, before, white}

-- the nine newest bits decide the next one
next-take : (h : List Bool) → next (take 9 h) ≡ next h
unfolding next
next-take h = ap₂ xor (get_or-take 9 h _ false (lit< tt)) (get_or-take 9 h _ false (lit< tt))

next_same_nine : (h g : List Bool) → take 9 h ≡ take 9 g → next h ≡ next g
next_same_nine h g e = sym (next-take h) ∙ ap next e ∙ next-take g

-- after 511 bits the nine newest are what they were
take-before_511 : take 9 (before 511) ≡ take 9 (before 0)
unfolding before next xor
take-before_511 = refl

-- and so the nine newest of one more bit
take-next_same_nine : (h g : List Bool) → take 9 h ≡ take 9 g → take 9 (next h ∷ h) ≡ take 9 (next g ∷ g)
take-next_same_nine h g e =
    let eight : take 8 h ≡ take 8 g =
    sym (take-take 8 9 h (omega arith)) ∙ ap (take 8) e ∙ take-take 8 9 g (omega arith) in
    cc (next_same_nine h g e)

take-before_period : (k : ℕ) → take 9 (before (k + 511)) ≡ take 9 (before k)
unfolding before
take-before_period zero = take-before_511
take-before_period (suc k) =
    ap (λ (n : ℕ). take 9 (before n)) (suc-add k 511)
    ∙ take-next_same_nine (before (k + 511)) (before k) (take-before_period k)

pub white_period : (k : ℕ) → white (k + 511) ≡ white k
unfolding white
white_period k = next_same_nine (before (k + 511)) (before k) (take-before_period k)

white_periods : (q k : ℕ) → white (q * 511 + k) ≡ white k
white_periods zero k = ap white (zero-add k)
white_periods (suc q) k =
    let one_more : suc q * 511 + k ≡ q * 511 + k + 511 = omega arith in
    ap white one_more ∙ white_period (q * 511 + k) ∙ white_periods q k

pub white-mod : (k : ℕ) → white (k % 511) ≡ white k
white-mod k = sym (white_periods (k / 511) (k % 511)) ∙ ap white (div-add-mod' k 511)
