-- `search::fill` meets its contract: before the turn of moment t - 1 the loop's state is `Going` at t. Assumes nothing.
use Rattle.search.proofs.Going.{Going}
use Rattle.search.proofs.fill.Given as goal

abbrev pub invariant-loop-t : goal.invariant-loop-t
invariant-loop-t l = Going l.values l.n l.t l.level.row l.level.off l.kept
