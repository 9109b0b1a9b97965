-- `search::search` meets its contract: the bits on the way through what `fill` kept are the nearest string's. Assumes nothing.
use mathlib.Core.Path.{◌≡◌}
use lib.ListN.{length, take}
use lib.Seq.{length-take-le}
use Rattle.search.proofs.Follow.{found_of}
use Rattle.search.proofs.search.Goals as goal

pub returns : goal.returns
returns c =
    let sized : length (take c.args.n c.args.bits.now) ≡ c.args.n = length-take-le _ _ c.requires.n_in_bounds in
    found_of c.fill-cost.ensures c.requires.heard.most (rw (c.walk.ensures, sized))
