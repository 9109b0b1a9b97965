-- What a step costs at most, and that the six last steps take 0: a state other than 0 at the end is never worth what they could save.
-- Assumes nothing.
use mathlib.Core.Bool.{Bool, true, false, cond}
use mathlib.Core.List.{List, ◌∷◌}
use mathlib.Core.Path.{◌≡◌, refl}
use Prim.Native.Nat.{ℕ, zero, suc, ◌+◌, ◌*◌, ◌^◌, ◌≤◌, ◌<◌}
use native.Mathlib.Nat.{pow-suc, suc-add}
use native.Mathlib.Omega.{arith}
use borrow.Author.Tests.{eq-eqb, ne_eqb}
use lib.Dec.{eqb}
use lib.Pow.{pow_mono, pow_pos}
use Rattle.bits.specs.Bits.{bits_of}
use Rattle.coder.specs.Coder.{Words, outputs}
use Rattle.coder.proofs.Cost.{distance_le}
use Rattle.trellis.specs.Machine.{rem, takes}
use Rattle.trellis.specs.Numbered.{At, price, open64, numbered}

module _ (w : Words) where
  -- a step costs at most three times 128
  pub price_le : (values : List ℕ) (b : Bool) (s : ℕ) → price w values b s ≤ 384
  unfolding price
  price_le values b s = distance_le (outputs w (b ∷ bits_of 6 s)) values

  -- what k steps cost that take 0
  unfoldable pub slide : ℕ → At → ℕ
  slide zero s = 0
  slide (suc k) s = (open64 w).price false s + slide k ((open64 w).move false s)

  pub slide_le : (k : ℕ) (s : At) → slide k s ≤ 384 * k
  unfolding slide
  slide_le zero s = omega arith
  slide_le (suc k) s = omega (arith, price_le s.values false s.state, slide_le k ((open64 w).move false s))

  -- a state that k zeros do not take to 0 costs 2,304 or more
  rem_stray : (k : ℕ) (s : At) → 2 ^ k ≤ s.state → 2304 ≤ rem (open64 w) k s
  unfolding rem
  rem_stray zero s h = rw (ne_eqb s.state 0 (λ e. omega arith)) (omega arith)
  rem_stray (suc k) s h =
      omega (
        arith,
        rem_stray k ((open64 w).move false s) (omega (arith, pow-suc 2 k)),
        rem_stray k ((open64 w).move true s) (omega (arith, pow-suc 2 k)),
      )

  -- a state that k zeros take to 0, k at most six, costs what they cost
  rem-slide : (k : ℕ) → k ≤ 6 → (s : At) → s.state < 2 ^ k → rem (open64 w) k s ≡ slide k s
  unfolding rem slide
  rem-slide zero h s e = rw (eq-eqb s.state 0 (omega arith))
  rem-slide (suc k) h s e =
      let reached : rem (open64 w) k ((open64 w).move false s) ≡ slide k ((open64 w).move false s) =
      rem-slide k (omega arith) ((open64 w).move false s) (omega (arith, pow-suc 2 k))
      in
      let small : 2 ^ k ≤ 32 = pow_mono {j = 5} (omega arith) in
      omega (
        arith,
        rem_stray k ((open64 w).move true s) (omega arith),
        slide_le k ((open64 w).move false s),
        price_le s.values false s.state,
      )

  -- the six last steps take 0 from every state
  pub rem_six : (s : At) → s.state < 64 → rem (open64 w) 6 s ≡ slide 6 s
  rem_six s h = rem-slide 6 (omega arith) s h

  pub rem_open_le : (k : ℕ) (s : At) → rem (open64 w) k s ≤ 2304 + 384 * k
  unfolding rem
  rem_open_le zero s = go (eqb s.state 0)
    where
      go : (t : Bool) → cond t 0 2304 ≤ 2304 + 384 * 0
      go true = omega arith
      go false = omega arith
  rem_open_le (suc k) s = omega (arith, price_le s.values false s.state, rem_open_le k ((open64 w).move false s))

  -- state 0 costs at most what k zeros can
  pub rem_open_zero_le : (k : ℕ) (s : At) → k ≤ 6 → s.state ≡ 0 → rem (open64 w) k s ≤ 384 * k
  rem_open_zero_le k s h e = omega (arith, rem-slide k h s (omega (arith, pow_pos k)), slide_le k s)

  -- the six last steps are the rest of the machine that does not have them among its own
  pub rem_open_later : (k : ℕ) (s : At) → rem (open64 w) (k + 6) s ≡ rem (numbered w) k s
  unfolding rem
  rem_open_later zero s = refl
  rem_open_later (suc k) s =
      rw (suc-add k 6, rem_open_later k ((open64 w).move false s), rem_open_later k ((open64 w).move true s))

  pub takes_open_later : (k : ℕ) (s : At) → takes (open64 w) (k + 6) s ≡ takes (numbered w) k s
  unfolding takes
  takes_open_later k s = rw (rem_open_later k ((open64 w).move false s), rem_open_later k ((open64 w).move true s))
