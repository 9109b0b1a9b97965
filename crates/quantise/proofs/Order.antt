-- Tests of order, and what two of them say together. Assumes nothing.
use mathlib.Core.Bool.{Bool, true, false, cond, ◌&&◌, ◌||◌}
use mathlib.Core.Logic.{◌⊎◌, inl, inr, ⊎_elim}
use mathlib.Core.Path.{◌≡◌, refl}
use Prim.Native.Nat.{ℕ, ◌≤◌, ◌<◌, max}
use native.Mathlib.Omega.{arith}
use borrow.Author.Tests.{ltb-true, ltb-false, lt-ltb, le-ltb, eq-eqb, ne_eqb}
use lib.Dec.{ltb, eqb}

pub less_or-not : (a b : ℕ) → (a < b) ⊎ (b ≤ a)
less_or-not a b = go (ltb a b) refl
  where
    go : (t : Bool) → ltb a b ≡ t → (a < b) ⊎ (b ≤ a)
    go true e = inl (ltb-true a b e)
    go false e = inr (ltb-false a b e)

-- two tests that pass together are one
pub same_order : (a b c d : ℕ) → (a < b → c < d) → (b ≤ a → d ≤ c) → ltb a b ≡ ltb c d
same_order a b c d f g = ⊎_elim (λ l. rw (lt-ltb a b l, lt-ltb c d (f l))) (λ l. rw (le-ltb a b l, le-ltb c d (g l))) (less_or-not a b)

pub same_zero : (a b : ℕ) → (0 < a → 0 < b) → (a ≡ 0 → b ≡ 0) → eqb a 0 ≡ eqb b 0
same_zero a b f g =
    ⊎_elim
    (λ (l : 0 < a). rw (ne_eqb a 0 (λ e. omega arith), ne_eqb b 0 (λ e. omega (arith, f l))))
    (λ (l : a ≤ 0). rw (eq-eqb a 0 (omega arith), eq-eqb b 0 (g (omega arith))))
    (less_or-not 0 a)

pub some_above : (k m n : ℕ) → ltb k m || ltb k n ≡ ltb k (max m n)
some_above k m n = ⊎_elim
    (λ (l : k < m). rw (lt-ltb k m l, lt-ltb k (max m n) (omega arith)))
    (λ (g : m ≤ k). rw (le-ltb k m g) (same_order k n k (max m n) (λ l. omega arith) (λ l. omega arith)))
    (less_or-not k m)

pub both_zero : (m n : ℕ) → eqb m 0 && eqb n 0 ≡ eqb (max m n) 0
both_zero m n = ⊎_elim
    (λ (l : 0 < m). rw (ne_eqb m 0 (λ e. omega arith), ne_eqb (max m n) 0 (λ e. omega arith)))
    (λ (g : m ≤ 0). rw (eq-eqb m 0 (omega arith)) (same_zero n (max m n) (λ l. omega arith) (λ e. omega arith)))
    (less_or-not 0 m)

-- the greater of two
pub cond_max : (m n : ℕ) → cond (ltb n m) m n ≡ max m n
cond_max m n = ⊎_elim (λ l. rw (lt-ltb n m l) (omega arith)) (λ g. rw (le-ltb n m g) (omega arith)) (less_or-not n m)
