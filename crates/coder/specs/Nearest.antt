-- The nearest string, document 01: of all strings of n bits the one of least cost; among equals, the one with 0 at the first bit where they differ. For any cost.
-- To be believed: NotAfter, Nearest; `nearest` is the string itself, found by looking at all of them (`nearest_is` of proofs/Nearest.antt). Assumes nothing.
use Rattle.std.specs.Prelude.{Bool, true, false, cond, List, [], ◌∷◌, ◌≡◌, ℕ, zero, suc, ◌≤◌, ltb, length}

-- the first string is the second, or has 0 at the first bit where the two differ
pub data NotAfter : List Bool → List Bool → Type 0 where
  same : {x : List Bool} → NotAfter x x
  less : {x y : List Bool} → NotAfter (false ∷ x) (true ∷ y)
  more : {b : Bool} {x y : List Bool} → NotAfter x y → NotAfter (b ∷ x) (b ∷ y)

-- of all strings of n bits x costs least, and is first among those that cost the same
pub record Nearest (cost : List Bool → ℕ) (n : ℕ) (x : List Bool) : Type 0 where
  pub sized : length x ≡ n
  pub least : (y : List Bool) → length y ≡ n → cost x ≤ cost y
  pub first : (y : List Bool) → length y ≡ n → cost y ≡ cost x → NotAfter x y

-- of two strings the second where it costs less, and else the first
abbrev pub cheaper : (List Bool → ℕ) → List Bool → List Bool → List Bool
cheaper cost x y = cond (ltb (cost y) (cost x)) y x

-- all strings of n bits are looked at: the nearest of those that begin with 0, unless the nearest of those that begin with 1 costs less
unfoldable pub nearest : (List Bool → ℕ) → ℕ → List Bool
nearest cost zero = []
nearest cost (suc n) =
    cheaper cost (false ∷ nearest (λ x. cost (false ∷ x)) n) (true ∷ nearest (λ x. cost (true ∷ x)) n)
