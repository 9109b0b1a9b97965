-- `placing::fill` meets its contract: the core and the extension make the whole. Assumes nothing.
use Rattle.std.proofs.Common.{arith, refl, sym}
use Rattle.interleave.specs.Interleave.{extension_pilot}
use Rattle.interleave.proofs.Bursts.{pilot-extension}
use Rattle.pairs.proofs.Spread.{spread_join, spread_turns}
use Rattle.pairs.proofs.Filled.{filled_over}
use Rattle.placing.proofs.Whole.{filled_whole}
use Rattle.placing.proofs.fill.Goals as goal

pub fill_pilot-requires-clause-sequence : goal.fill_pilot-requires-clause-sequence
unfolding extension_pilot
fill_pilot-requires-clause-sequence c = λ p h. sym (pilot-extension _ p c.loop-s-2.auto.s)

pub loop-s-2-preserved : goal.loop-s-2-preserved
loop-s-2-preserved c =
    spread_join (omega arith) (omega arith) c.loop-s-2.invariant
    (spread_turns
    (spread_join (omega arith) (omega arith) (filled_over c.extension_pairs.ensures c.fill.ensures)
    (c.fill_pilot.ensures _))
    (omega arith)
    refl)

pub returns : goal.returns
returns c =
    let coded = c.args.coded in
    filled_whole _ (record { low = coded.low; high = coded.high }) c.requires
    (spread_turns c.loop-s-2.invariant (omega arith) (omega (arith, c.loop-s-2.auto)))
