-- The costs of pairs, read off their halves; stores into a list, one after the other.
-- Assumes nothing.
use mathlib.Core.Bool.{Bool, cond}
use mathlib.Core.List.{List}
use mathlib.Core.Path.{◌≡◌, ap, ◌∙◌}
use Prim.Native.Nat.{ℕ, ◌+◌, ◌-◌, ◌<◌}
use native.Mathlib.Omega.{arith}
use borrow.Author.Count.{below_more}
use borrow.Author.Tests.{lt-ltb, le-ltb}
use lib.ListN.{length, get_or, set}
use lib.Seq.{get_or-set_same, get_or-set_other}
use Rattle.lists.proofs.Lists.{get_or-firsts}
use Rattle.rows.specs.Rows.{pair_at, pairs_of}

-- stores of f 0, f 1, .. at the places g 0, g 1, ..: one more
pub set_grows :
    (l : List ℕ) (g f : ℕ → ℕ) (j v : ℕ)
    → g j < length l
    → ((k : ℕ) → k < j → g k ≡ g j → ⊥)
    → ((k : ℕ) → k < j → get_or l (g k) 0 ≡ f k)
    → v ≡ f j
    → (k : ℕ) → k < j + 1 → get_or (set l (g j) v) (g k) 0 ≡ f k
set_grows l g f j v h apart old new =
    below_more (λ (k : ℕ). get_or (set l (g j) v) (g k) 0 ≡ f k) j
    (λ k b. get_or-set_other l (g j) (g k) v 0 (apart k b) ∙ old k b)
    (get_or-set_same l (g j) v 0 h ∙ new)

-- and a store elsewhere
pub set_keeps :
    (l : List ℕ) (g f : ℕ → ℕ) (i v n : ℕ)
    → ((k : ℕ) → k < n → g k ≡ i → ⊥)
    → ((k : ℕ) → k < n → get_or l (g k) 0 ≡ f k)
    → (k : ℕ) → k < n → get_or (set l i v) (g k) 0 ≡ f k
set_keeps l g f i v n apart old k b = get_or-set_other l i (g k) v 0 (apart k b) ∙ old k b

-- the costs of the pairs in the first half and in the second
module _ (low high : List ℕ) (all : ℕ) where
  pub pairs_of_low : (j : ℕ) → j < 16 → get_or (pairs_of low high all) j 0 ≡ get_or low j 0
  pairs_of_low j h =
      get_or-firsts 32 (pair_at low high all) j (omega arith)
      ∙ ap (λ (t : Bool). cond t (get_or low j 0) (all - get_or high (j - 16) 0)) (lt-ltb j 16 h)

  pub pairs_of_high : (j : ℕ) → j < 16 → get_or (pairs_of low high all) (j + 16) 0 ≡ all - get_or high j 0
  pairs_of_high j h =
      let e : j + 16 - 16 ≡ j = omega arith in
      get_or-firsts 32 (pair_at low high all) (j + 16) (omega arith)
      ∙ ap (λ (t : Bool). cond t (get_or low (j + 16) 0) (all - get_or high (j + 16 - 16) 0)) (le-ltb (j + 16) 16 (omega arith))
      ∙ ap (λ (q : ℕ). all - get_or high q 0) e
