-- `interleave::order_of` meets its contract: each arm is a case of the relation of places and symbols. Assumes nothing.
use native.Mathlib.Omega.{arith}
use mathlib.Core.Path.{refl}
use Prim.Native.Nat.{◌-◌}
use Rattle.interleave.proofs.Carries.{low, high}
use Rattle.interleave.proofs.Steps.{carried_carries}
use Rattle.interleave.proofs.order_of.Goals as goal

pub returns-then-m-lt12 : goal.returns-then-m-lt12
returns-then-m-lt12 c = carried_carries (low (11 - c.args.m) (omega arith) refl (omega arith))

pub returns-else-m-lt12 : goal.returns-else-m-lt12
returns-else-m-lt12 c =
    let above = c.requires.outside c.if-m-lt12.false in
    carried_carries (high (c.args.m - 24) (omega arith) refl (omega arith))
