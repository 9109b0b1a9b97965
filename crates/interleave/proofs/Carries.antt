-- The symbol of a place, Table 6-43: one relation of sub-packet, place and symbol, with a case for the symbols below the pilot and one for those above.
-- The table gives what the relation says; every place below 24 and every data symbol stands in it, and each symbol once. Assumes nothing.
use mathlib.Core.Bool.{Bool, true, false, ◌&&◌}
use mathlib.Core.List.{List}
use mathlib.Core.Path.{◌≡◌, refl}
use Prim.Native.Nat.{ℕ, ◌+◌, ◌-◌, ◌*◌, ◌/◌, ◌%◌, ◌≤◌, ◌<◌}
use mathlib.Core.Logic.{◌⊎◌, inl, inr, ⊎_elim}
use native.Mathlib.Omega.{arith}
use lib.Dec.{eqb}
use lib.ListN.{get_or}
use borrow.Author.Tests.{eqb-true, eqb-false}
use Rattle.std.proofs.lemmas.Bool.{cases_lt}
use Rattle.interleave.specs.Interleave.{even_row, odd_row, symbol, DataSymbol}
use Rattle.lists.proofs.Every.{every, every-at, &&-left, &&-right}

-- of the places of sub-packet s, o is carried by symbol m: the k-th below the pilot counted downwards, or the k-th above it
pub data Carries (s o m : ℕ) : Type 0 where
  low : (k : ℕ) → k < 12 → o ≡ 2 * k + s % 2 → m ≡ 11 - k → Carries s o m
  high : (k : ℕ) → k < 12 → o ≡ 2 * k + (1 - s % 2) → m ≡ 24 + k → Carries s o m

-- a row holds the relation's symbols: those below the pilot from place a on, those above it from place b on
abbrev row_test : List ℕ → ℕ → ℕ → ℕ → Bool
row_test row a b k = eqb (get_or row (2 * k + a) 0) (11 - k) && eqb (get_or row (2 * k + b) 0) (24 + k)

module _ (row : List ℕ) (a b : ℕ) (h : every 12 (row_test row a b) ≡ true) (k : ℕ) (l : k < 12) where
  passed : row_test row a b k ≡ true
  passed = every-at 12 (row_test row a b) h k l

  row_low : get_or row (2 * k + a) 0 ≡ 11 - k
  row_low = eqb-true _ _ (&&-left _ (eqb (get_or row (2 * k + b) 0) (24 + k)) passed)

  row_high : get_or row (2 * k + b) 0 ≡ 24 + k
  row_high = eqb-true _ _ (&&-right (eqb (get_or row (2 * k + a) 0) (11 - k)) _ passed)

parity : (s : ℕ) → (s % 2 ≡ 0) ⊎ (s % 2 ≡ 1)
parity s = go (eqb (s % 2) 0) refl
  where
    go : (b : Bool) → eqb (s % 2) 0 ≡ b → (s % 2 ≡ 0) ⊎ (s % 2 ≡ 1)
    go true t = inl (eqb-true (s % 2) 0 t)
    go false t = inr (omega (arith, eqb-false))

-- the table's symbol is that of the relation
pub symbol_carries : {s o m : ℕ} → Carries s o m → symbol s o ≡ m
unfolding symbol even_row odd_row
symbol_carries {s} (low k h p q) =
    rw (p, q)
    (⊎_elim (λ t. rw t (row_low even_row 0 1 refl k h)) (λ t. rw t (row_low odd_row 1 0 refl k h)) (parity s))
symbol_carries {s} (high k h p q) =
    rw (p, q)
    (⊎_elim (λ t. rw t (row_high even_row 0 1 refl k h)) (λ t. rw t (row_high odd_row 1 0 refl k h)) (parity s))

-- every place below 24 is carried by its symbol, and there is no other place
pub carries_symbol : (s o : ℕ) → o < 24 → Carries s o (symbol s o)
carries_symbol s o h = ⊎_elim (λ t. carried (low (o / 2) (omega arith) (omega arith) refl)) (λ t. carried (high (o / 2) (omega arith) (omega arith) refl)) (parity (s + o))
  where
    carried : {m : ℕ} → Carries s o m → Carries s o (symbol s o)
    carried p = rw (symbol_carries p) p

pub carries_below : {s o m : ℕ} → Carries s o m → o < 24
carries_below (low k h p q) = omega arith
carries_below (high k h p q) = omega arith

-- a symbol carries one place at most
pub carries_unique : {s o p m : ℕ} → Carries s o m → Carries s p m → o ≡ p
carries_unique (low k a b c) (low k' a' b' c') = omega arith
carries_unique (low k a b c) (high k' a' b' c') = omega arith
carries_unique (high k a b c) (low k' a' b' c') = omega arith
carries_unique (high k a b c) (high k' a' b' c') = omega arith

-- a symbol that carries a place is a data symbol ..
pub data_carries : {s o m : ℕ} → Carries s o m → DataSymbol m
data_carries (low k a b c) = record { inside = omega arith; outside = λ h. omega arith }
data_carries (high k a b c) = record { inside = omega arith; outside = λ h. omega arith }

-- .. and every data symbol carries one
pub carries_data : (s : ℕ) {m : ℕ} → DataSymbol m → (o : ℕ) × Carries s o m
carries_data s {m} d = go (cases_lt m 12)
  where
    go : (m < 12) ⊎ (12 ≤ m) → (o : ℕ) × Carries s o m
    go (inl below) = (2 * (11 - m) + s % 2, low (11 - m) (omega arith) refl (omega arith))
    go (inr t) =
        let above : 24 ≤ m = d.outside t in
        (2 * (m - 24) + (1 - s % 2), high (m - 24) (omega arith) refl (omega arith))
