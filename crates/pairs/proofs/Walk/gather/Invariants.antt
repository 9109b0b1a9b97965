-- The loop of `pairs::Walk::gather`: the pairs before k are gathered. Assumes nothing.
use Rattle.std.proofs.Common.{◌+◌, ◌*◌}
use Rattle.pairs.specs.Turns.{Gathered}
use Rattle.pairs.proofs.Walk.gather.Given as goal

abbrev pub invariant-loop-k : goal.invariant-loop-k
invariant-loop-k l =
    Gathered l.heard.l l.heard.marks.now l.heard.values.now
    (24 * l.self.s + 2 * l.self.from)
    (24 * l.self.s + 2 * l.k)
    l.initial.out
    l.out
