-- The loop of `quantise::take_in`: the values of the numbers before i are written (`Filling`). Assumes nothing.
use Rattle.quantise.proofs.Filling.{Filling}
use Rattle.quantise.proofs.take_in.Given as goal

abbrev pub invariant-loop-i : goal.invariant-loop-i
invariant-loop-i l = Filling l.numbers l.initial.values l.values l.peak l.i
