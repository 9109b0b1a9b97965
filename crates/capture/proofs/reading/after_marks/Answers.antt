-- `capture::reading::after_marks` meets its contract: one head more, right or wrong. Assumes nothing.
use mathlib.Core.List.{List}
use mathlib.Core.Path.{sym, ap, ◌∙◌}
use Prim.Native.Nat.{ℕ, ◌*◌}
use native.Mathlib.Omega.{arith}
use lib.ListN.{take}
use Rattle.capture.specs.Reading.{same_bytes}
use Rattle.capture.specs.Parts.{head_of}
use Rattle.capture.proofs.Heads.{tail_part, seeing_right, seeing_wrong, seeing_end}
use Rattle.capture.proofs.reading.after_marks.Goals as goal

pub returns-then-not-is_head : goal.returns-then-not-is_head
returns-then-not-is_head c =
    sym (seeing_wrong c.loop-s.invariant (omega arith)
    (ap (λ (x : List ℕ). same_bytes (take 3 x) (head_of 3 24)) (sym (tail_part (27 * c.loop-s.s) c.args.c.now)) ∙ sym c.is_head.ensures ∙ c.if-not-is_head.true))

pub loop-s-preserved : goal.loop-s-preserved
loop-s-preserved c =
    seeing_right c.loop-s.invariant (omega arith)
    (ap (λ (x : List ℕ). same_bytes (take 3 x) (head_of 3 24)) (sym (tail_part (27 * c.loop-s.s) c.args.c.now)) ∙ sym c.is_head.ensures ∙ c.if-not-is_head.false)

pub returns : goal.returns
returns c = seeing_end c.loop-s.invariant (omega arith)
