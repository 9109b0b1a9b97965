-- The values gathered: one coded bit's, a pair's, and a loop over pairs. Assumes nothing.
use mathlib.Core.Bool.{cond}
use mathlib.Core.List.{List}
use mathlib.Core.Path.{◌≡◌, sym, ◌∙◌}
use Prim.Native.Nat.{ℕ, ◌+◌, ◌-◌, ◌*◌, ◌≤◌, ◌<◌}
use native.Mathlib.Omega.{arith}
use lib.Dec.{eqb}
use lib.ListN.{length, get_or, set, length-set}
use Rattle.std.specs.List.{slice_range}
use Rattle.std.proofs.lemmas.List.Edits.{get_or-between}
use borrow.Author.Tests.{lt-ltb, le-ltb}
use Rattle.interleave.specs.Interleave.{coded_bits, Placed, Length}
use Rattle.interleave.specs.Bursts.{value_of, heard}
use Rattle.interleave.proofs.Bursts.{heard_placed}
use Rattle.interleave.proofs.Placed.{placed_here}
use Rattle.pairs.specs.Turns.{turn_of, Gathered}
use Rattle.pairs.proofs.Spread.{spread_one, spread_join}
use Rattle.pairs.proofs.Turns.{turn_of_low, turn_of_high, gather_turn_placed, gather_turn_injective}

-- value p of sub-packet s, taken from the 24 of the sub-packet, or zero where it is lost
abbrev pub value_at : List ℕ → List ℕ → ℕ → ℕ → ℕ
value_at marks values s p = cond (eqb (get_or marks s 0) 1) (get_or (slice_range values (24 * s) (24 * s + 24)) p 0) 0

-- that of a symbol is heard for the coded bit that it carries
heard_value : {l j s m : ℕ} (marks values : List ℕ)
    → Placed l j s m
    → value_of m < 24
    → heard l marks values j ≡ value_at marks values s (value_of m)
heard_value {s = s} {m = m} marks values p h =
    rw (get_or-between values (24 * s) (24 * s + 24) (value_of m) 0 (omega arith)) (heard_placed marks values p)

value_of_low : (k : ℕ) → value_of (11 - k) ≡ 11 - k
value_of_low k = rw (lt-ltb (11 - k) 12 (omega arith))

value_of_high : (k : ℕ) → value_of (24 + k) ≡ 12 + k
value_of_high k = rw (le-ltb (24 + k) 12 (omega arith)) (omega arith)

module _ {l : ℕ} (marks values : List ℕ) (long : Length l) where
  -- the value of a symbol, stored at the coded bit that it carries
  gathered_bit : {j s m : ℕ} (t p v : ℕ) (out : List ℕ)
      → coded_bits l ≤ length out
      → Placed l j s m
      → 24 * s + turn_of m ≡ t
      → value_of m ≡ p
      → p < 24
      → v ≡ value_at marks values s p
      → Gathered l marks values t (t + 1) out (set out j v)
  gathered_bit {j} {s} {m} t p v out room place turn same inside right =
      rw (← turn, ← gather_turn_placed place)
      (spread_one out j v place.coded room (λ k h turns. gather_turn_injective long (placed_here long h) place turns)
      (right ∙ sym (rw same at (heard_value marks values place (omega (arith, same))))))

  -- the values of a pair of symbols, after those of the turns before
  pub gathered_pair : {s k a b t : ℕ} {old out : List ℕ} (v v' : ℕ)
      → coded_bits l ≤ length out
      → k < 12
      → Placed l a s (11 - k)
      → Placed l b s (24 + k)
      → v ≡ value_at marks values s (11 - k)
      → v' ≡ value_at marks values s (12 + k)
      → t ≤ 24 * s + 2 * k
      → Gathered l marks values t (24 * s + 2 * k) old out
      → Gathered l marks values t (24 * s + 2 * (k + 1)) old (set (set out a v) b v')
  gathered_pair {s} {k} {a} {out = out} v v' room below low high right right' from before =
      let lower =
      gathered_bit (24 * s + 2 * k) (11 - k) v out room low (omega (arith, turn_of_low k below)) (value_of_low k)
      (omega arith)
      right in
      let higher =
      gathered_bit (24 * s + 2 * k + 1) (12 + k) v' (set out a v) (omega (arith, length-set out a v)) high
      (omega (arith, turn_of_high k below))
      (value_of_high k)
      (omega arith)
      right' in
      let end : 24 * s + 2 * (k + 1) ≡ 24 * s + 2 * k + 1 + 1 = omega arith in
      rw end
      (spread_join (omega arith) (omega arith) before (spread_join (omega arith) (omega arith) lower higher))
