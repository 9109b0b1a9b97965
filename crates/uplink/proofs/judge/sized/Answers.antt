-- `uplink::judge::sized` meets its contract: each return is the first condition that holds. Assumes nothing.
use Rattle.std.proofs.Common.{arith, rules, sym}
use Rattle.uplink.proofs.Refusals.{told_right, sizes_told, sizes_marks, sizes_values, sizes_right}
use Rattle.uplink.proofs.judge.sized.Goals as goal
use Rattle.uplink.proofs.judge.sized.Goals.{then-marks-l-via-then-marks-l, then-marks-l-via-else-marks-l+then-values-l}

pub returns-in_err-l-clause-refusal : goal.returns-in_err-l-clause-refusal
returns-in_err-l-clause-refusal c =
    let a = c.args in
    search (rules, sizes_told a.l a.marks.now a.values.now c.in_err-l.field-0.0 c.in_err-l.ensures.refusal)

pub returns-then-marks-l-clause-refusal : goal.returns-then-marks-l-clause-refusal
returns-then-marks-l-clause-refusal c =
    let a = c.args in
    let h = told_right c.in_ok-l.ensures.refusal in
    let s = c.in_ok-l.ensures.same in
    elim c.then-marks-l.branch [
      | then-marks-l-via-then-marks-l w ↦ sym (sizes_marks a.l a.marks.now a.values.now h (λ e. w.if-marks-l.true (omega (arith, e, s))))
      | then-marks-l-via-else-marks-l+then-values-l w ↦ sym (sizes_values a.l a.marks.now a.values.now h (λ e. w.if-values-l.true (omega (arith, e, s))))
    ]

pub returns-clause-refusal : goal.returns-clause-refusal
returns-clause-refusal c =
    let a = c.args in
    let s = c.in_ok-l.ensures.same in
    sym (sizes_right a.l a.marks.now a.values.now (told_right c.in_ok-l.ensures.refusal) (omega (arith, s)) (omega (arith, s)))
