-- `payload::put_bytes` meets its contract: the bits of one byte more at each turn (`Putting`). Assumes nothing.
use native.Mathlib.Omega.{arith}
use Rattle.payload.proofs.Putting.{putting_start, putting_step}
use Rattle.payload.proofs.put_bytes.Goals as goal

pub loop-i-init : goal.loop-i-init
loop-i-init c = putting_start _ _ _ c.requires

pub loop-i-preserved : goal.loop-i-preserved
loop-i-preserved c =
    let l = c.loop-i in
    putting_step l.invariant (omega arith) c.put_bits.ensures
