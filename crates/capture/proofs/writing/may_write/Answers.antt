-- `capture::writing::may_write` meets its contract: each return is the first condition that holds. Assumes nothing.
use Rattle.std.proofs.Common.{arith, rules, sym, ap, ◌∙◌, Bool}
use mathlib.Core.Bool.{cond}
use Rattle.uplink.proofs.Forms.{told_of, marked_of, valued_of}
use Rattle.capture.proofs.Refusals.{write_sizes, write_room, write_roomy}
use Rattle.capture.proofs.writing.may_write.Goals as goal

pub returns-in_err-heard-clause-refusal : goal.returns-in_err-heard-clause-refusal
returns-in_err-heard-clause-refusal c =
    let a = c.args in
    search (rules, write_sizes a.l a.marks.now a.values.now a.room c.in_err-heard.field-0.0 c.in_err-heard.ensures.refusal)

pub returns-then-room-heard-clause-refusal : goal.returns-then-room-heard-clause-refusal
returns-then-room-heard-clause-refusal c =
    let a = c.args in
    let h = c.in_ok-heard.heard in
    let of = c.in_ok-heard.ensures.heard in
    sym (write_room a.l a.marks.now a.values.now a.room (told_of h of) (marked_of h of) (valued_of h of) (omega (arith, of.told)))

pub returns-then-not-marks_good-clause-refusal : goal.returns-then-not-marks_good-clause-refusal
returns-then-not-marks_good-clause-refusal c =
    let a = c.args in
    let h = c.in_ok-heard.heard in
    let of = c.in_ok-heard.ensures.heard in
    sym (write_roomy a.l a.marks.now a.values.now a.room (told_of h of) (marked_of h of) (valued_of h of) (omega (arith, of.told))
    ∙ ap (λ (t : Bool). cond t 0 5) (sym c.marks_good.ensures ∙ c.if-not-marks_good.true))

pub returns-clause-refusal : goal.returns-clause-refusal
returns-clause-refusal c =
    let a = c.args in
    let h = c.in_ok-heard.heard in
    let of = c.in_ok-heard.ensures.heard in
    sym (write_roomy a.l a.marks.now a.values.now a.room (told_of h of) (marked_of h of) (valued_of h of) (omega (arith, of.told))
    ∙ ap (λ (t : Bool). cond t 0 5) (sym c.marks_good.ensures ∙ c.if-not-marks_good.false))
