-- `capture::reading::is_opened` meets its contract. Assumes nothing.
use mathlib.Core.Path.{sym, ◌∙◌}
use native.Mathlib.Omega.{arith}
use Rattle.capture.proofs.Heads.{first_short, first_long}
use Rattle.capture.proofs.reading.is_opened.Goals as goal

pub returns-then-c-lt4 : goal.returns-then-c-lt4
returns-then-c-lt4 c = sym (first_short c.args.c.now c.if-c-lt4.true)

pub returns : goal.returns
returns c = c.is_head.ensures ∙ sym (first_long c.args.c.now (omega arith))
