-- `bits::of`: the bits before bit k are there. Assumes nothing.
use Rattle.std.proofs.Common.{map, take, length, ◌≡◌}
use Rattle.bits.specs.Bits.{bit, bits_of}
use Rattle.bits.proofs.of.Given as goal

abbrev pub invariant-loop-k : goal.invariant-loop-k
invariant-loop-k g l = (length l.bit-items ≡ g.row.N) × (take l.k l.bit-items ≡ take l.k (map bit (bits_of g.row.N l.x)))
