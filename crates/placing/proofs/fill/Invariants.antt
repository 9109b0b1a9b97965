-- `placing::fill` meets its contract. The invariant of both loops: the bursts before s are filled in. Assumes nothing.
use Rattle.std.proofs.Common.{◌*◌}
use Rattle.pairs.specs.Turns.{Filled}
use Rattle.placing.proofs.fill.Given as goal

abbrev pub invariant-loop-s : goal.invariant-loop-s
invariant-loop-s l = Filled l.coded.l l.coded.bits.now 0 (36 * l.s) l.fn.frame l.frame

abbrev pub invariant-loop-s-2 : goal.invariant-loop-s-2
invariant-loop-s-2 l = Filled l.coded.l l.coded.bits.now 0 (36 * l.s) l.fn.frame l.frame
