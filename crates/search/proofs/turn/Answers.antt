-- `search::turn` meets its contract. Assumes nothing.
use native.Mathlib.Omega.{arith}
use Rattle.rows.proofs.Fill.{summed_within}
use Rattle.search.proofs.Turns.{turn_of_lem}
use Rattle.search.proofs.turn.Goals as goal

pub choices-requires : goal.choices-requires
choices-requires c =
    record {
      within = summed_within c.requires c.weigh-weighed.ensures.weighs.small c.sums-moves.ensures;
      place_in_bounds = omega arith;
    }

pub returns : goal.returns
returns c = turn_of_lem c.weigh-weighed.ensures.weighs c.sums-moves.ensures c.minima.ensures c.choices.ensures
