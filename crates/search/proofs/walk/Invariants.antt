-- `search::walk` meets its contract: before moment t the bits on the way are written. Assumes nothing.
use lib.ListN.{length}
use Rattle.search.proofs.Follow.{Walking}
use Rattle.search.proofs.walk.Given as goal

abbrev pub invariant-loop-t : goal.invariant-loop-t
invariant-loop-t l = Walking l.kept (length l.initial.bits) l.t l.place l.bits
