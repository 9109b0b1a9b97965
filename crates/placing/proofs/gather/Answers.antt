-- `placing::gather` meets its contract: the core and the extension make the whole. Assumes nothing.
use Rattle.std.proofs.Common.{arith}
use Rattle.pairs.proofs.Spread.{spread_turns}
use Rattle.placing.proofs.Whole.{gathered_whole}
use Rattle.placing.proofs.gather.Goals as goal

pub returns : goal.returns
returns c =
    let heard = c.args.heard in
    gathered_whole _ _ (record { low = heard.low; high = heard.high }) c.requires
    (spread_turns c.loop-s-2.invariant (omega arith) (omega (arith, c.loop-s-2.auto)))
