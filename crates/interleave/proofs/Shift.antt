-- The shift of clause 6.4.4.6.1: its two cases, and that it takes the coded bits to the indices one to one. Assumes nothing.
use mathlib.Core.Path.{◌≡◌}
use mathlib.Core.Logic.{◌⊎◌, inl, inr}
use Prim.Native.Nat.{ℕ, ◌+◌, ◌-◌, ◌≤◌, ◌<◌}
use native.Mathlib.Nat.{mod-lt, mod-eq_of_lt, mod-eq-sub-mod}
use native.Mathlib.Omega.{arith}
use Rattle.std.proofs.lemmas.Bool.{cases_lt}
use Rattle.interleave.specs.Interleave.{shifted_index}

pub shifted_index_below : (c j : ℕ) → j < c → shifted_index c j < c
shifted_index_below c j h = mod-lt _ (omega arith)

-- all but the last 48 move on by 48 ..
pub shifted_index_on : (c j : ℕ) → j + 48 < c → shifted_index c j ≡ j + 48
shifted_index_on c j h = mod-eq_of_lt h

-- .. and the last 48 become the first 48
pub shifted_index_last : (c j : ℕ) → j < c → c ≤ j + 48 → 48 ≤ c → shifted_index c j ≡ j + 48 - c
shifted_index_last c j h last long =
    let below : j + 48 - c < c = omega arith in rw (mod-eq-sub-mod last, mod-eq_of_lt below)

-- two coded bits with the same index are the same
pub shifted_index_injective : (c j k : ℕ) → 48 ≤ c → j < c → k < c → shifted_index c j ≡ shifted_index c k → j ≡ k
shifted_index_injective c j k long hj hk same = go (cases_lt (j + 48) c) (cases_lt (k + 48) c)
  where
    go : (j + 48 < c) ⊎ (c ≤ j + 48) → (k + 48 < c) ⊎ (c ≤ k + 48) → j ≡ k
    go (inl p) (inl q) = omega (arith, shifted_index_on c j p, shifted_index_on c k q)
    go (inl p) (inr q) = omega (arith, shifted_index_on c j p, shifted_index_last c k hk q long)
    go (inr p) (inl q) = omega (arith, shifted_index_last c j hj p long, shifted_index_on c k q)
    go (inr p) (inr q) = omega (arith, shifted_index_last c j hj p long, shifted_index_last c k hk q long)

-- every index is that of a coded bit
pub shifted_index_onto : (c i : ℕ) → 48 ≤ c → i < c → (j : ℕ) × (j < c) × (shifted_index c j ≡ i)
shifted_index_onto c i long h = go (cases_lt i 48)
  where
    go : (i < 48) ⊎ (48 ≤ i) → (j : ℕ) × (j < c) × (shifted_index c j ≡ i)
    go (inl below) =
        (i + c - 48, omega arith, omega (arith, shifted_index_last c (i + c - 48) (omega arith) (omega arith) long))
    go (inr above) =
        (i - 48, omega arith, omega (arith, shifted_index_on c (i - 48) (omega arith)))
