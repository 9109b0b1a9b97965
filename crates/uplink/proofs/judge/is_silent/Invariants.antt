-- `uplink::judge::is_silent`: the sub-packets still to be seen decide. Assumes nothing.
use Rattle.std.proofs.Common.{◌≡◌, ◌*◌, drop}
use Rattle.uplink.specs.Recover.{silent}
use Rattle.uplink.proofs.judge.is_silent.Given as goal

abbrev pub invariant-loop-s : goal.invariant-loop-s
invariant-loop-s l =
    silent (drop l.s l.heard.marks.now) (drop (24 * l.s) l.heard.values.now) ≡ silent l.heard.marks.now l.heard.values.now
