-- The loop of `capture::writing::put_packets`: the fields before s are stored (`Storing`). Assumes nothing.
use Rattle.std.proofs.Common.{◌/◌, length}
use Rattle.capture.proofs.Storing.{Storing}
use Rattle.capture.proofs.writing.put_packets.Given as goal

abbrev pub invariant-loop-s : goal.invariant-loop-s
invariant-loop-s l = Storing (length l.values / 24) l.values l.initial.out l.out l.at l.next l.s
