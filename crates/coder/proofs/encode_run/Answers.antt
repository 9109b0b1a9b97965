-- `coder::encode_run` meets its contract. Assumes nothing.
use native.Mathlib.Omega.{arith}
use Rattle.coder.proofs.Runs.{coding_start, coding_step}
use Rattle.coder.proofs.encode_run.Goals as goal

pub loop-i-init : goal.loop-i-init
loop-i-init c = coding_start _ _ _ c.requires.state

pub loop-i-preserved : goal.loop-i-preserved
loop-i-preserved c =
    coding_step c.loop-i.invariant (omega arith) c.requires.room c.window-w.ensures c.step_outputs.ensures
