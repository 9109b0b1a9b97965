-- `placing::fill_core_packet` meets its contract: its three runs of pairs and the pilot join. Assumes nothing.
use Rattle.std.proofs.Common.{arith, refl, sym}
use Rattle.interleave.specs.Interleave.{core_pilot}
use Rattle.interleave.proofs.Bursts.{pilot_core}
use Rattle.pairs.proofs.Spread.{spread_join, spread_turns}
use Rattle.pairs.proofs.Filled.{filled_over}
use Rattle.placing.proofs.fill_core_packet.Goals as goal

pub fill_pilot-requires-clause-sequence : goal.fill_pilot-requires-clause-sequence
unfolding core_pilot
fill_pilot-requires-clause-sequence c = λ p h. sym (pilot_core _ p c.requires.packet)

pub returns : goal.returns
returns c =
    spread_turns
    (spread_join (omega arith) (omega arith) (filled_over c.first_pair.ensures c.fill.ensures)
    (spread_join (omega arith) (omega arith) (filled_over c.next_pairs.ensures c.fill-2.ensures)
    (spread_join (omega arith) (omega arith) (filled_over c.outer_pairs.ensures c.fill-3.ensures)
    (c.fill_pilot.ensures _))))
    (omega arith)
    refl
