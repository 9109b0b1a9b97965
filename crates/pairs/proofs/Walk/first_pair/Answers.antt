-- `pairs::Walk::first_pair` meets its contract: it starts where the law says. Assumes nothing.
use Rattle.pairs.proofs.Walks.{walks_first_pair}
use Rattle.pairs.proofs.Walk.first_pair.Goals as goal

pub invariant_of-result : goal.invariant_of-result
invariant_of-result c = record { walks = walks_first_pair c.requires }
