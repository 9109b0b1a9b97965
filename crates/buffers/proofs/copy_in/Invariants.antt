-- `buffers::copy_in` meets its contract. The loop's invariant: the bytes before i are stored. Assumes nothing.
use Prim.Native.Nat.{◌+◌}
use lib.ListN.{take}
use Rattle.buffers.specs.Buffers.{Appends}
use Rattle.buffers.proofs.copy_in.Given as goal

abbrev pub invariant-loop-i : goal.invariant-loop-i
invariant-loop-i l = Appends l.initial.out l.at (take l.i l.src) l.out (l.at + l.i)
