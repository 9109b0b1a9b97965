-- `pairs::Walk::extension_pairs` meets its contract: it starts where the law says. Assumes nothing.
use Rattle.pairs.proofs.Walks.{walks_extension_pairs}
use Rattle.pairs.proofs.Walk.extension_pairs.Goals as goal

pub invariant_of-result : goal.invariant_of-result
invariant_of-result c = record { walks = walks_extension_pairs c.requires }
