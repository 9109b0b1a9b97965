-- The loop of `capture::reading::take_values`: the values of the fields before s are taken (`Taking`). Assumes nothing.
use Rattle.std.proofs.Common.{◌/◌, length}
use Rattle.capture.proofs.Storing.{Taking}
use Rattle.capture.proofs.reading.take_values.Given as goal

abbrev pub invariant-loop-s : goal.invariant-loop-s
invariant-loop-s l = Taking (length l.c / 27) l.c l.initial.values l.values l.s
