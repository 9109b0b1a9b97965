-- `quantise::found` meets its contract. Assumes nothing.
use mathlib.Core.Bool.{not}
use Prim.Native.Nat.{ℕ, ◌≤◌, ◌%◌, ◌^◌}
use native.Mathlib.Omega.{arith}
use borrow.Author.Tests.{lt-ltb, le-ltb, eq-eqb, ne_eqb}
use lib.Dec.{T}
use lib.Ieee.{binary32, nan_bits}
use lib.Ieee.Bits.{nan_bits_above}
use Rattle.quantise.specs.Parts.{infinity, found_at}
use Rattle.quantise.proofs.found.Goals as goal

no_nan : (m : ℕ) → m ≤ infinity → T (not (nan_bits binary32 m))
no_nan m h = rw (nan_bits_above binary32 m, le-ltb infinity (m % 2 ^ 31) (omega arith)) tt

pub returns-then-peak-gt-INFINITY : goal.returns-then-peak-gt-INFINITY
unfolding found_at
returns-then-peak-gt-INFINITY c = rw (lt-ltb infinity c.args.peak c.if-peak-gt-INFINITY.true)

pub returns-then-peak-eq0 : goal.returns-then-peak-eq0
unfolding found_at
returns-then-peak-eq0 c = rw (le-ltb infinity c.args.peak c.if-peak-gt-INFINITY.false, eq-eqb c.args.peak 0 c.if-peak-eq0.true)

pub float_from_bits-result : goal.float_from_bits-result
float_from_bits-result c = no_nan c.args.peak c.if-peak-gt-INFINITY.false

pub returns : goal.returns
unfolding found_at
returns c = rw (le-ltb infinity c.args.peak c.if-peak-gt-INFINITY.false, ne_eqb c.args.peak 0 c.if-peak-eq0.false)
