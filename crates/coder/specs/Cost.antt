-- Received values and what a string costs against them, document 01, "From soft values to message".
-- To be believed: negative, weight, against, distance, cost, apart. Assumes nothing.
use Rattle.std.specs.Prelude.{Bool, true, false, cond, List, [], ◌∷◌, ℕ, ◌+◌, ◌-◌, leb}
use Rattle.std.specs.Bool.{xor}
use Rattle.coder.specs.Coder.{Words, coded}

-- a value is one byte in two's complement: from 128 on it is negative
abbrev pub negative : ℕ → Bool
negative v = leb 128 v

-- the weight of a value is its magnitude; -128 weighs 128
unfoldable pub weight : ℕ → ℕ
weight v = cond (negative v) (256 - v) v

-- the weight at a place where the coded bit and the value disagree, and 0 where they agree: a negative value says 0 and a positive one 1; a zero says nothing, since it weighs 0
unfoldable pub against : Bool → ℕ → ℕ
against true v = cond (negative v) (weight v) 0
against false v = cond (negative v) 0 (weight v)

-- the sum over all places of coded bits and values
unfoldable pub distance : List Bool → List ℕ → ℕ
distance [] vs = 0
distance (b ∷ bs) [] = 0
distance (b ∷ bs) (v ∷ vs) = against b v + distance bs vs

-- the cost of a string: the sum of the weights at the coded places where its coded bit and the value disagree
unfoldable pub cost : Words → List ℕ → List Bool → ℕ
cost w values xs = distance (coded w xs) values

-- the sum of the weights at the places where two runs of coded bits differ
unfoldable pub apart : List Bool → List Bool → List ℕ → ℕ
apart [] ys vs = 0
apart (x ∷ xs) [] vs = 0
apart (x ∷ xs) (y ∷ ys) [] = 0
apart (x ∷ xs) (y ∷ ys) (v ∷ vs) = cond (xor x y) (weight v) 0 + apart xs ys vs
