-- `pairs::fill_pilot` meets its contract. Assumes nothing.
use Rattle.pairs.proofs.Filled.{filled_pilot}
use Rattle.pairs.proofs.fill_pilot.Goals as goal

pub returns : goal.returns
returns c =
    λ coded.
    rw c.copy_from_slice.ensures.after
    (filled_pilot coded c.requires.message c.args.frame.now _ c.requires.room c.requires.packet c.told-pilots
    c.requires.sequence)
