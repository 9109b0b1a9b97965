-- The walk of a machine is the nearest string by what it costs from its state; machines that follow each other walk alike.
-- Assumes nothing.
use mathlib.Core.Bool.{Bool, true, false, true≢false, false≢true}
use mathlib.Core.List.{List, [], ◌∷◌}
use mathlib.Core.Path.{◌≡◌, refl, ap, ◌∙◌}
use Prim.Native.Nat.{ℕ, zero, suc, ◌+◌, ◌≤◌, min}
use native.Mathlib.Nat.{le_refl}
use native.Mathlib.Omega.{arith}
use borrow.Author.Tests.{ltb-true, ltb-false}
use lib.ListN.{length}
use Rattle.coder.specs.Nearest.{NotAfter, same, less, more, Nearest}
use Rattle.trellis.specs.Machine.{Machine, spent, rem, takes, walk}

module _ (M : Machine) where
  pub length-walk : (k : ℕ) (s : M.State) → length (walk M k s) ≡ k
  unfolding walk
  length-walk zero s = refl
  length-walk (suc k) s = ap suc (length-walk k (M.move (takes M k s) s))

  -- no string costs less than `rem`
  pub rem_le : (k : ℕ) (s : M.State) (y : List Bool) → length y ≡ k → rem M k s ≤ spent M s y
  unfolding rem spent
  rem_le zero s [] e = le_refl _
  rem_le zero s (b ∷ y) e = absurd (omega arith)
  rem_le (suc k) s [] e = absurd (omega arith)
  rem_le (suc k) s (false ∷ y) e = omega (arith, rem_le k (M.move false s) y (omega arith))
  rem_le (suc k) s (true ∷ y) e = omega (arith, rem_le k (M.move true s) y (omega arith))

  -- the walk costs `rem`
  pub spent-walk : (k : ℕ) (s : M.State) → spent M s (walk M k s) ≡ rem M k s
  unfolding rem spent walk takes
  spent-walk zero s = refl
  spent-walk (suc k) s = go (takes M k s) refl (spent-walk k (M.move (takes M k s) s))
    where
      go :
          (b : Bool) → takes M k s ≡ b → spent M (M.move b s) (walk M k (M.move b s)) ≡ rem M k (M.move b s)
          → M.price b s + spent M (M.move b s) (walk M k (M.move b s)) ≡ min (M.price false s + rem M k (M.move false s)) (M.price true s + rem M k (M.move true s))
      go true e ih = omega (arith, ih, ltb-true)
      go false e ih = omega (arith, ih, ltb-false)

  -- of the strings that cost no more, none comes before the walk
  pub walk_first : (k : ℕ) (s : M.State) (y : List Bool) → length y ≡ k → spent M s y ≡ rem M k s → NotAfter (walk M k s) y
  unfolding walk takes rem spent
  walk_first zero s [] e c = same
  walk_first zero s (b ∷ y) e c = absurd (omega arith)
  walk_first (suc k) s [] e c = absurd (omega arith)
  walk_first (suc k) s (b ∷ y) e c = go (takes M k s) refl b (omega arith) (λ d. walk_first k (M.move b s) y (omega arith) d) c
    where
      go :
          (t : Bool) → takes M k s ≡ t → (b : Bool) → length y ≡ k → (spent M (M.move b s) y ≡ rem M k (M.move b s) → NotAfter (walk M k (M.move b s)) y)
          → spent M s (b ∷ y) ≡ rem M (suc k) s → NotAfter (t ∷ walk M k (M.move t s)) (b ∷ y)
      go false e false l ih c = more (ih (omega (arith, ltb-false)))
      go false e true l ih c = less
      go true e true l ih c = more (ih (omega (arith, ltb-true)))
      go true e false l ih c = absurd (omega (arith, ltb-true, rem_le k (M.move false s) y l))

  -- the walk is the nearest string
  pub walk-nearest : (k : ℕ) (s : M.State) → Nearest (spent M s) k (walk M k s)
  walk-nearest k s =
      record {
        sized = length-walk k s;
        least = λ y e. omega (arith, rem_le k s y e, spent-walk k s);
        first = λ y e c. walk_first k s y e (c ∙ spent-walk k s);
      }

-- the second machine follows the first, from related states: the same prices, and related states after each move
pub record Follows (M N : Machine) (R : M.State → N.State → Type 0) : Type 0 where
  pub price : (b : Bool) {s : M.State} {t : N.State} → R s t → M.price b s ≡ N.price b t
  pub move : (b : Bool) {s : M.State} {t : N.State} → R s t → R (M.move b s) (N.move b t)
  pub rest : {s : M.State} {t : N.State} → R s t → M.rest s ≡ N.rest t

module _ {M N : Machine} {R : M.State → N.State → Type 0} (f : Follows M N R) where
  pub rem_follows : (k : ℕ) {s : M.State} {t : N.State} → R s t → rem M k s ≡ rem N k t
  unfolding rem
  rem_follows zero r = f.rest r
  rem_follows (suc k) r =
      rw (f.price false r, f.price true r, rem_follows k (f.move false r), rem_follows k (f.move true r))

  pub takes_follows : (k : ℕ) {s : M.State} {t : N.State} → R s t → takes M k s ≡ takes N k t
  unfolding takes
  takes_follows k r =
      rw (f.price false r, f.price true r, rem_follows k (f.move false r), rem_follows k (f.move true r))

  pub walk_follows : (k : ℕ) {s : M.State} {t : N.State} → R s t → walk M k s ≡ walk N k t
  unfolding walk
  walk_follows zero r = refl
  walk_follows (suc k) {s} {t} r = go (takes M k s) (takes N k t) (takes_follows k r) (λ b. walk_follows k (f.move b r))
    where
      go : (a b : Bool) → a ≡ b → ((c : Bool) → walk M k (M.move c s) ≡ walk N k (N.move c t)) → a ∷ walk M k (M.move a s) ≡ b ∷ walk N k (N.move b t)
      go true true e ih = ap (λ (l : List Bool). true ∷ l) (ih true)
      go false false e ih = ap (λ (l : List Bool). false ∷ l) (ih false)
      go true false e ih = absurd (true≢false e)
      go false true e ih = absurd (false≢true e)
