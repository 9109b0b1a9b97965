-- `pairs::Walk::fill` meets its contract: one pair more at each turn. Assumes nothing.
use Rattle.std.proofs.Common.{arith, rules}
use Rattle.pairs.proofs.Filled.{filled_pair}
use Rattle.pairs.proofs.Walk.fill.Goals as goal

pub loop-k-preserved : goal.loop-k-preserved
loop-k-preserved c =
    let walks = c.args.self.walks in
    let pair = rw c.requires.message at c.pair-low.ensures in
    filled_pair _ (rw c.requires.message at walks.message) _ c.requires.room (search rules)
    (omega (arith, walks.packet, c.requires.message))
    (omega (arith, walks.last))
    pair.low
    pair.high
    (omega arith)
    c.loop-k.invariant
