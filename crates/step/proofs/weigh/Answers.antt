-- `step::weigh` meets its contract: the six amounts are what the values have against either bit, and the sums of them
-- stand where 001's words put them. Assumes nothing.
use Rattle.rows.proofs.Weighs.{split_summed}
use Rattle.step.proofs.weigh.Goals as goal

pub returns : goal.returns
returns c =
    let x = c.against.ensures in
    let y = c.against-2.ensures in
    let z = c.against-3.ensures in
    split_summed x.zero x.one y.zero y.one z.zero z.one c.arranged.ensures
