-- A test that antt computes at every number below a given one, and what it shows of each. Assumes nothing.
use mathlib.Core.Bool.{Bool, true, false, false≢true, ◌&&◌}
use mathlib.Core.Logic.{⊎_elim}
use mathlib.Core.Path.{◌≡◌, refl}
use Prim.Native.Nat.{ℕ, zero, suc, ◌<◌}
use native.Mathlib.Nat.{not-suc-le-zero, eq-or-lt_of_le, le_of_suc-le-suc}

-- a test that passes at each number below n
abbrev pub every : ℕ → (ℕ → Bool) → Bool
every zero f = true
every (suc n) f = f n && every n f

pub &&-left : (a b : Bool) → a && b ≡ true → a ≡ true
&&-left true b h = refl
&&-left false b h = h

pub &&-right : (a b : Bool) → a && b ≡ true → b ≡ true
&&-right true b h = h
&&-right false b h = absurd (false≢true h)

pub every-at : (n : ℕ) (f : ℕ → Bool) → every n f ≡ true → (k : ℕ) → k < n → f k ≡ true
every-at zero f h k l = absurd (not-suc-le-zero l)
every-at (suc n) f h k l =
    ⊎_elim (λ t. rw t (&&-left (f n) (every n f) h)) (λ t. every-at n f (&&-right (f n) (every n f) h) k t)
    (eq-or-lt_of_le (le_of_suc-le-suc l))
