-- `uplink::judge::may_recover` meets its contract: each return is the first condition that holds. Assumes nothing.
use Rattle.std.proofs.Common.{arith, rules, sym, ◌∙◌}
use Rattle.uplink.proofs.Refusals.{recover_sizes, recover_room, recover_mark, recover_silence}
use Rattle.uplink.proofs.Forms.{told_of, marked_of, valued_of, formed_of, silent_of}
use Rattle.uplink.proofs.judge.may_recover.Goals as goal

pub returns-in_err-heard : goal.returns-in_err-heard
returns-in_err-heard c =
    let a = c.args in
    search (rules, recover_sizes a.l a.marks.now a.values.now a.room c.in_err-heard.field-0.0 c.in_err-heard.ensures.refusal)

pub returns-then-room-heard : goal.returns-then-room-heard
returns-then-room-heard c =
    let a = c.args in
    let h = c.in_ok-heard.heard in
    let of = c.in_ok-heard.ensures.heard in
    recover_room a.l a.marks.now a.values.now a.room (told_of h of) (marked_of h of) (valued_of h of) (omega (arith, of.told))

pub returns-then-not-marks_good : goal.returns-then-not-marks_good
returns-then-not-marks_good c =
    let a = c.args in
    let h = c.in_ok-heard.heard in
    let of = c.in_ok-heard.ensures.heard in
    recover_mark a.l a.marks.now a.values.now a.room (told_of h of) (marked_of h of) (valued_of h of) (omega (arith, of.told)) (sym c.marks_good.ensures ∙ c.if-not-marks_good.true)

pub returns-then-is_silent : goal.returns-then-is_silent
returns-then-is_silent c =
    let a = c.args in
    let h = c.in_ok-heard.heard in
    let of = c.in_ok-heard.ensures.heard in
    recover_silence a.l a.marks.now a.values.now a.room
    (formed_of h of (omega (arith, of.told)) (sym c.marks_good.ensures ∙ c.if-not-marks_good.false))
    (silent_of h of (sym c.is_silent.ensures ∙ c.if-is_silent.true))
