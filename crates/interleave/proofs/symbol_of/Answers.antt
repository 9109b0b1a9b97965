-- `interleave::symbol_of` meets its contract: each arm is a case of the relation of places and symbols. Assumes nothing.
use native.Mathlib.Omega.{arith}
use mathlib.Core.Path.{refl, sym}
use Prim.Native.Nat.{◌/◌}
use Rattle.interleave.proofs.Carries.{low, high, symbol_carries}
use Rattle.interleave.proofs.symbol_of.Goals as goal

pub returns-then-o-s-eq0 : goal.returns-then-o-s-eq0
returns-then-o-s-eq0 c = sym (symbol_carries (low (c.args.o / 2) (omega arith) (omega arith) refl))

pub returns-else-o-s-eq0 : goal.returns-else-o-s-eq0
returns-else-o-s-eq0 c = sym (symbol_carries (high (c.args.o / 2) (omega arith) (omega arith) refl))
