-- `pairs::Walk::gather` meets its contract: one pair more at each turn. Assumes nothing.
use Rattle.std.proofs.Common.{arith}
use Rattle.pairs.proofs.Gathered.{gathered_pair}
use Rattle.pairs.proofs.Walk.gather.Goals as goal

pub loop-k-preserved : goal.loop-k-preserved
loop-k-preserved c =
    let walks = c.args.self.walks in
    let pair = rw c.requires.message at c.pair-low.ensures in
    gathered_pair _ _ (rw c.requires.message at walks.message) _ _
    (omega (arith, c.requires.room, c.loop-k.invariant.sized))
    (omega (arith, walks.last))
    pair.low
    pair.high
    c.heard_or_zero.ensures
    c.heard_or_zero-in-loop-k.ensures
    (omega arith)
    c.loop-k.invariant
