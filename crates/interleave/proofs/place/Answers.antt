-- `interleave::place` meets its contract: its three steps make a place. Assumes nothing.
use Rattle.interleave.proofs.Steps.{ordered_below}
use Rattle.interleave.proofs.place.Goals as goal

pub symbol_of-requires : goal.symbol_of-requires
symbol_of-requires c = ordered_below c.requires.message c.slot_of-slot.ensures
