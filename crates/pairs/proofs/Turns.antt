-- The turns of a sub-packet's symbols: their numbers, and that each symbol has its own. Assumes nothing.
use mathlib.Core.Bool.{Bool, true, false, cond, ◌&&◌}
use mathlib.Core.Path.{◌≡◌, refl, sym, ◌∙◌, ap}
use Prim.Native.Nat.{ℕ, ◌+◌, ◌-◌, ◌*◌, ◌/◌, ◌%◌, ◌≤◌, ◌<◌}
use mathlib.Core.Logic.{◌⊎◌, inl, inr}
use native.Mathlib.Omega.{arith}
use lib.Dec.{ltb, eqb}
use Rattle.std.proofs.lemmas.Bool.{cases_lt}
use borrow.Author.Tests.{ltb-true, ltb-false, eqb-true, lt-ltb, le-ltb}
use Rattle.interleave.specs.Interleave.{Length, Placed, DataSymbol}
use Rattle.lists.proofs.Every.{every-at, &&-left, &&-right}
use Rattle.interleave.proofs.Placed.{placed_data, placed_unique}
use Rattle.pairs.specs.Turns.{turn_of, gather_turn, fill_turn}

pub turn_of_low : (k : ℕ) → k < 12 → turn_of (11 - k) ≡ 2 * k
unfolding turn_of
turn_of_low k h = rw (lt-ltb (11 - k) 12 (omega arith)) (omega arith)

pub turn_of_high : (k : ℕ) → k < 12 → turn_of (24 + k) ≡ 2 * k + 1
unfolding turn_of
turn_of_high k h = rw (le-ltb (24 + k) 12 (omega arith), le-ltb (24 + k) 24 (omega arith)) (omega arith)

pub turn_of_pilot : (m : ℕ) → 12 ≤ m → m < 24 → turn_of m ≡ 12 + m
unfolding turn_of
turn_of_pilot m low high = rw (le-ltb m 12 low, lt-ltb m 24 high)

-- the symbol whose turn it is
symbol_at : ℕ → ℕ
symbol_at t = cond (ltb t 24) (cond (eqb (t % 2) 0) (11 - t / 2) (24 + t / 2)) (t - 12)

turn_test : ℕ → Bool
turn_test m = ltb (turn_of m) 36 && eqb (symbol_at (turn_of m)) m

module _ (m : ℕ) (h : m < 36) where
  tested : turn_test m ≡ true
  unfolding turn_test turn_of symbol_at
  tested = every-at 36 turn_test refl m h

  pub turn_of_below : turn_of m < 36
  unfolding turn_test
  turn_of_below = ltb-true _ _ (&&-left _ (eqb (symbol_at (turn_of m)) m) tested)

  symbol_at_turn_of : symbol_at (turn_of m) ≡ m
  unfolding turn_test
  symbol_at_turn_of = eqb-true _ _ (&&-right (ltb (turn_of m) 36) _ tested)

-- two symbols with the same turn are the same
pub turn_of_injective : (m n : ℕ) → m < 36 → n < 36 → turn_of m ≡ turn_of n → m ≡ n
turn_of_injective m n h h' same = sym (symbol_at_turn_of m h) ∙ ap symbol_at same ∙ symbol_at_turn_of n h'

-- the data symbols come before the pilot
pub turn_of_data : {m : ℕ} → DataSymbol m → turn_of m < 24
unfolding turn_of
turn_of_data {m} d = go (ltb m 12) refl
  where
    go : (b : Bool) → ltb m 12 ≡ b → cond b (2 * (11 - m)) (cond (ltb m 24) (12 + m) (2 * (m - 24) + 1)) < 24
    go true e = omega arith
    go false e =
        let above : 24 ≤ m = d.outside (ltb-false m 12 e) in rw (le-ltb m 24 above) (omega (arith, d.inside))

-- .. and only the pilot comes after them
pub turn_of_late : (m : ℕ) → m < 36 → 24 ≤ turn_of m → (12 ≤ m) × (m < 24)
unfolding turn_of
turn_of_late m h late = go (cases_lt m 12) (cases_lt m 24)
  where
    go : (m < 12) ⊎ (12 ≤ m) → (m < 24) ⊎ (24 ≤ m) → (12 ≤ m) × (m < 24)
    go (inl a) b = absurd (omega (arith, rw (lt-ltb m 12 a) at late))
    go (inr a) (inl b) = (a, b)
    go (inr a) (inr b) = absurd (omega (arith, rw (le-ltb m 12 a, le-ltb m 24 b) at late))

-- a coded bit's turn is that of its place ..
pub gather_turn_placed : {l j s m : ℕ} → Placed l j s m → gather_turn l j ≡ 24 * s + turn_of m
unfolding gather_turn
gather_turn_placed p = rw (p.within, p.packet)

-- .. and no other coded bit has it
pub gather_turn_injective : {l j k s m s' m' : ℕ}
    → Length l
    → Placed l j s m
    → Placed l k s' m'
    → gather_turn l j ≡ gather_turn l k
    → j ≡ k
gather_turn_injective {l} {j} {k} {s} {m} {s'} {m'} long p q same =
    let d = placed_data long p in
    let d' = placed_data long q in
    let turn : 24 * s + turn_of m ≡ 24 * s' + turn_of m' = sym (gather_turn_placed p) ∙ same ∙ gather_turn_placed q in
    let packet : s' ≡ s = omega (arith, turn_of_data d, turn_of_data d') in
    let within : m' ≡ m =
    turn_of_injective m' m d'.inside d.inside (omega (arith, turn_of_data d, turn_of_data d')) in
    placed_unique long p (rw (packet, within) at q)

-- so with the bytes of a frame
pub fill_turn-at : (s m : ℕ) → m < 36 → fill_turn (36 * s + m) ≡ 36 * s + turn_of m
unfolding fill_turn
fill_turn-at s m h =
    let whole : (36 * s + m) / 36 ≡ s = omega arith in
    let part : (36 * s + m) % 36 ≡ m = omega arith in
    rw (whole, part)

pub fill_turn_below : (n x : ℕ) → x < 36 * n → fill_turn x < 36 * n
unfolding fill_turn
fill_turn_below n x h = omega (arith, turn_of_below (x % 36) (omega arith))

pub fill_turn_injective : (x y : ℕ) → fill_turn x ≡ fill_turn y → x ≡ y
unfolding fill_turn
fill_turn_injective x y same =
    let h : x % 36 < 36 = omega arith in
    let h' : y % 36 < 36 = omega arith in
    let within : x % 36 ≡ y % 36 =
    turn_of_injective (x % 36) (y % 36) h h' (omega (arith, turn_of_below (x % 36) h, turn_of_below (y % 36) h')) in
    omega (arith, turn_of_below (x % 36) h, turn_of_below (y % 36) h')
