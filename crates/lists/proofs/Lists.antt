-- How many values a list of the first has, and which. Assumes nothing.
use mathlib.Core.List.{List, [], ◌∷◌, ◌++◌}
use mathlib.Core.Logic.{⊎_elim}
use mathlib.Core.Path.{◌≡◌, refl, ap₂, ◌∙◌}
use Prim.Native.Nat.{ℕ, zero, suc, ◌<◌}
use native.Mathlib.Nat.{eq-or-lt_of_le, le_of_suc-le-suc, not-suc-le-zero}
use native.Mathlib.Omega.{arith}
use lib.ListN.{length, get_or, length-append, get_or-append}
use lib.Seq.{get_or_at}
use Rattle.lists.specs.Lists.{firsts}

pub length-firsts : (n : ℕ) (f : ℕ → ℕ) → length (firsts n f) ≡ n
unfolding firsts
length-firsts zero f = refl
length-firsts (suc n) f = omega (arith, length-append (firsts n f) (f n ∷ []), length-firsts n f)

pub get_or-firsts : (n : ℕ) (f : ℕ → ℕ) (k : ℕ) → k < n → get_or (firsts n f) k 0 ≡ f k
unfolding firsts
get_or-firsts zero f k h = absurd (not-suc-le-zero h)
get_or-firsts (suc n) f k h =
    ⊎_elim
    (λ e. rw e (get_or_at (firsts n f) (f n) [] 0 n (length-firsts n f)))
    (λ l. get_or-append (firsts n f) (f n ∷ []) 0 k (omega (arith, length-firsts n f)) ∙ get_or-firsts n f k l)
    (eq-or-lt_of_le (le_of_suc-le-suc h))

-- functions that agree on the first numbers have the same first values
pub firsts_same : (n : ℕ) (f g : ℕ → ℕ) → ((k : ℕ) → k < n → f k ≡ g k) → firsts n f ≡ firsts n g
unfolding firsts
firsts_same zero f g h = refl
firsts_same (suc n) f g h =
    ap₂ (λ (l : List ℕ) (x : ℕ). l ++ (x ∷ [])) (firsts_same n f g (λ k l. h k (omega arith))) (h n (omega arith))
