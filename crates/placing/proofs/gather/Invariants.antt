-- `placing::gather` meets its contract. The invariant of both loops: the sub-packets before s are gathered.
-- Assumes nothing.
use Rattle.std.proofs.Common.{◌*◌}
use Rattle.pairs.specs.Turns.{Gathered}
use Rattle.placing.proofs.gather.Given as goal

abbrev pub invariant-loop-s : goal.invariant-loop-s
invariant-loop-s l = Gathered l.heard.l l.heard.marks.now l.heard.values.now 0 (24 * l.s) l.fn.out l.out

abbrev pub invariant-loop-s-2 : goal.invariant-loop-s-2
invariant-loop-s-2 l = Gathered l.heard.l l.heard.marks.now l.heard.values.now 0 (24 * l.s) l.fn.out l.out
