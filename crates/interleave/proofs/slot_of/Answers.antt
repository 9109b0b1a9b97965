-- `interleave::slot_of` meets its contract: each arm is a case of the relation of indices and places. Assumes nothing.
use mathlib.Core.Path.{refl}
use Rattle.interleave.specs.Interleave.{group, group_index}
use Rattle.interleave.proofs.Lies.{first, core, extended, grouped}
use Rattle.interleave.proofs.Steps.{ordered_lies}
use Rattle.interleave.proofs.slot_of.Goals as goal

pub returns-then-i-lt288 : goal.returns-then-i-lt288
returns-then-i-lt288 c = ordered_lies c.requires.coded (first c.if-i-lt288.true refl refl)

pub returns-then-r-lt12 : goal.returns-then-r-lt12
unfolding group group_index
returns-then-r-lt12 c =
    ordered_lies c.requires.coded
    (core (grouped _ c.args.i c.if-i-lt288.false) c.if-r-lt12.true refl refl)

pub returns-else-r-lt12 : goal.returns-else-r-lt12
unfolding group group_index
returns-else-r-lt12 c =
    ordered_lies c.requires.coded
    (extended (grouped _ c.args.i c.if-i-lt288.false) c.if-r-lt12.false refl refl)
