-- `interleave::index_of` meets its contract: each arm is a case of the relation of indices and places. Assumes nothing.
use native.Mathlib.Omega.{arith}
use mathlib.Core.Path.{refl}
use Rattle.interleave.proofs.Lies.{first, core, extended}
use Rattle.interleave.proofs.Steps.{ordered_inside}
use Rattle.interleave.proofs.index_of.Goals as goal

pub returns-then-o-lt12 : goal.returns-then-o-lt12
returns-then-o-lt12 c =
    ordered_inside c.requires.message c.requires.place
    (first (omega arith) (omega arith) (omega arith))

pub returns-else-o-lt12 : goal.returns-else-o-lt12
returns-else-o-lt12 c =
    ordered_inside c.requires.message c.requires.place
    (core (record { at = refl; below = omega arith }) (omega arith) (omega arith) (omega arith))

pub returns-else-s-lt24 : goal.returns-else-s-lt24
returns-else-s-lt24 c =
    ordered_inside c.requires.message c.requires.place
    (extended (record { at = refl; below = omega arith }) (omega arith) (omega arith) refl)
