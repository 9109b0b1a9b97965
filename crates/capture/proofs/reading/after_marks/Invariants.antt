-- The loop of `capture::reading::after_marks`: the heads still to be seen decide (`Seeing`). Assumes nothing.
use Rattle.std.proofs.Common.{◌/◌, length}
use Rattle.capture.proofs.Heads.{Seeing}
use Rattle.capture.proofs.reading.after_marks.Given as goal

abbrev pub invariant-loop-s : goal.invariant-loop-s
invariant-loop-s l = Seeing l.c (length l.c / 27) l.s
