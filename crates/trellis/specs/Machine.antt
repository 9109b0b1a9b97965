-- A machine that takes bits: what a string costs from a state, the least that so many steps cost, and the walk that takes 0 unless 1 is cheaper.
-- Nothing here has to be believed: that the walk is the nearest string is a theorem (proofs/Machine.antt). Assumes nothing.
use Rattle.std.specs.Prelude.{Bool, true, false, List, [], ◌∷◌, ℕ, zero, suc, ◌+◌, min, ltb}

-- a state moves with the bit that it takes, at a price, and has a cost of its own where the string ends
pub record Machine : Type 1 where
  pub State : Type 0
  pub move : Bool → State → State
  pub price : Bool → State → ℕ
  pub rest : State → ℕ

-- what a string costs from a state
unfoldable pub spent : (M : Machine) → M.State → List Bool → ℕ
spent M s [] = M.rest s
spent M s (x ∷ xs) = M.price x s + spent M (M.move x s) xs

-- the least that a string of k bits costs from a state
unfoldable pub rem : (M : Machine) → ℕ → M.State → ℕ
rem M zero s = M.rest s
rem M (suc k) s =
    min (M.price false s + rem M k (M.move false s)) (M.price true s + rem M k (M.move true s))

-- with k steps to go after this one, 1 is cheaper than 0
unfoldable pub takes : (M : Machine) → ℕ → M.State → Bool
takes M k s = ltb (M.price true s + rem M k (M.move true s)) (M.price false s + rem M k (M.move false s))

-- the walk of k steps
unfoldable pub walk : (M : Machine) → ℕ → M.State → List Bool
walk M zero s = []
walk M (suc k) s = takes M k s ∷ walk M k (M.move (takes M k s) s)
