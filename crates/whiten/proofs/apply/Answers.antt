-- `whiten::apply` meets its contract: a period more is whitened from its own start (`walk_part`), and after the rest
-- all is. Assumes nothing.
use mathlib.Core.Path.{◌≡◌}
use Prim.Native.Nat.{◌+◌, ◌*◌, ◌/◌}
use lib.ListN.{length}
use native.Mathlib.Omega.{arith}
use Rattle.whiten.proofs.Walk.{walk_part, walk_end}
use Rattle.whiten.proofs.apply.Goals as goal

pub loop-k-preserved : goal.loop-k-preserved
loop-k-preserved c =
    let e : 511 * c.loop-k.k + 511 ≡ 511 * (c.loop-k.k + 1) = omega arith in
    rw (← e) (walk_part _ c.loop-k.invariant (omega arith) (omega arith) (omega arith) c.apply_period.ensures)

pub returns : goal.returns
returns c =
    let e : c.loop-k.k ≡ length c.args.bits.now / 511 = omega arith in
    let start = rw e at c.loop-k.invariant in
    let w = walk_part _ start (omega arith) (omega arith) (omega arith) c.apply_period-2.ensures in
    walk_end w (omega (arith, w.sized, start.sized))
