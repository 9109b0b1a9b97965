-- `step::sums` meets its contract: two pairs more at each turn. Assumes nothing.
use mathlib.Core.Path.{◌≡◌, refl}
use native.Mathlib.Omega.{arith}
use Rattle.rows.proofs.Fill.{summing_none, summing_more, summing_end}
use Rattle.step.proofs.sums.Goals as goal

pub loop-j-init : goal.loop-j-init
loop-j-init c = summing_none refl refl

pub loop-j-preserved : goal.loop-j-preserved
loop-j-preserved c = summing_more c.loop-j.j (omega arith) c.loop-j.invariant

pub returns : goal.returns
returns c =
    let e : c.loop-j.j ≡ 16 = omega arith in
    summing_end c.requires.halves (rw e at c.loop-j.invariant)
