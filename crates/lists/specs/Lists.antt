-- A list of the first values of a function. To be believed: firsts. Assumes nothing.
use Rattle.std.specs.Prelude.{List, [], ◌∷◌, ◌++◌, ℕ, zero, suc}

-- f 0, f 1, .. f (n - 1)
unfoldable pub firsts : ℕ → (ℕ → ℕ) → List ℕ
firsts zero f = []
firsts (suc n) f = firsts n f ++ (f n ∷ [])
