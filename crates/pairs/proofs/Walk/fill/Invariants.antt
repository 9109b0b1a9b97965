-- The loop of `pairs::Walk::fill`: with the burst as it is, the pairs before k are filled in. Assumes nothing.
use Rattle.std.proofs.Common.{◌+◌, ◌*◌}
use Rattle.pairs.specs.Turns.{Filled}
use Rattle.pairs.proofs.Filled.{with_burst}
use Rattle.pairs.proofs.Walk.fill.Given as goal

abbrev pub invariant-loop-k : goal.invariant-loop-k
invariant-loop-k l =
    Filled l.coded.l l.coded.bits.now (36 * l.self.s + 2 * l.self.from) (36 * l.self.s + 2 * l.k) l.fn.frame
    (with_burst l.self.s l.fn.frame l.burst)
