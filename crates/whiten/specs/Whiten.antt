-- Data whitening, TS 103 357 clause 6.4.4.3: the complete PHY payload is whitened by the PN9 sequence of IEEE 802.15.4.
-- To be believed: before, next, white, whitened. Assumes nothing.
use Rattle.std.specs.Prelude.{Bool, true, false, List, [], ◌∷◌, ℕ, zero, suc, get_or, replicate}
use Rattle.std.specs.Bool.{xor}

-- w(k) = w(k-4) xor w(k-9), from all the bits before w(k), newest first
unfoldable pub next : List Bool → Bool
next h = xor (get_or h 3 false) (get_or h 8 false)

-- the bits before w(k), newest first: w(k-1) down to w(0), and before those nine bits that are all 1
unfoldable pub before : ℕ → List Bool
before zero = replicate 9 true
before (suc k) = next (before k) ∷ before k

-- w(k)
unfoldable pub white : ℕ → Bool
white k = next (before k)

-- bits that meet w(k), w(k+1), ..
unfoldable pub whitened_from : ℕ → List Bool → List Bool
whitened_from k [] = []
whitened_from k (b ∷ bs) = xor b (white k) ∷ whitened_from (suc k) bs

-- 6.4.4.3: w(0) meets the first bit
unfoldable pub whitened : List Bool → List Bool
whitened bs = whitened_from 0 bs
