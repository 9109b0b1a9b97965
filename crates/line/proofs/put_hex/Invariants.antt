-- `line::put_hex`: the digits of the bytes before x stand behind what was there. Assumes nothing.
use Rattle.std.proofs.Common.{◌≡◌, ◌++◌, take}
use Rattle.line.specs.Line.{hex}
use Rattle.line.proofs.put_hex.Given as goal

abbrev pub invariant-loop-x : goal.invariant-loop-x
invariant-loop-x l = l.line.items ≡ l.initial.line.items ++ hex (take l.x-index l.bytes)
