-- `uplink::build` meets its contract. Assumes nothing.
use Rattle.std.proofs.Common.{arith, sym, ◌≡◌, ℕ, List, length}
use Rattle.uplink.specs.Build.{build_refusal}
use Rattle.uplink.specs.Parts.{Buildable}
use Rattle.uplink.proofs.Building.{builds_done}
use Rattle.uplink.proofs.Taken.{BuildTaken, build_taken}
use Rattle.uplink.proofs.build.Goals as goal

-- a call that is not refused
taken : {l mode size room : ℕ} → 0 ≡ build_refusal l mode size room → BuildTaken l mode size room
taken e = build_taken _ _ _ _ (sym e)

-- a call that is not refused can be built
buildable : {l mode : ℕ} {message frame : List ℕ} → BuildTaken l mode (length message) (length frame) → Buildable message mode frame
buildable {l} {mode} {message} {frame} t =
    record { told = rw t.sized t.told; modes = t.modes; room = rw t.sized t.roomy }

pub overflow_cast-mode : goal.overflow_cast-mode
overflow_cast-mode c = omega (arith, (taken c.in_ok-may_build.ensures).modes)

pub put_frame-requires : goal.put_frame-requires
put_frame-requires c = buildable (taken c.in_ok-may_build.ensures)

pub overflow_cast-result : goal.overflow_cast-result
overflow_cast-result c = omega (arith, (taken c.in_ok-may_build.ensures).told.high)

pub overflow_add-result : goal.overflow_add-result
overflow_add-result c = omega (arith, (taken c.in_ok-may_build.ensures).told.high)

pub overflow_mul-result : goal.overflow_mul-result
overflow_mul-result c = omega (arith, (taken c.in_ok-may_build.ensures).told.high)

pub returns : goal.returns
returns c = builds_done (sym c.in_ok-may_build.ensures) c.put_frame.ensures
