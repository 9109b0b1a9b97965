-- `uplink::judge::may_build` meets its contract: each return is the first condition that holds. Assumes nothing.
use Rattle.std.proofs.Common.{arith, rules, sym, ◌∙◌}
use Rattle.uplink.proofs.Refusals.{told_right, build_told, build_size, build_room, build_mode, build_done}
use Rattle.uplink.proofs.judge.may_build.Goals as goal

pub returns-in_err-told : goal.returns-in_err-told
returns-in_err-told c =
    let a = c.args in
    search (rules, build_told a.l a.mode a.size a.room c.in_err-told.field-0.0 c.in_err-told.ensures.refusal)

pub returns-then-size-told : goal.returns-then-size-told
returns-then-size-told c =
    let a = c.args in
    sym (build_size a.l a.mode a.size a.room (told_right c.in_ok-told.ensures.refusal) (λ e. c.if-size-told.true (e ∙ sym c.in_ok-told.ensures.same)))

pub returns-then-room-told : goal.returns-then-room-told
returns-then-room-told c =
    let a = c.args in
    sym (build_room a.l a.mode a.size a.room (told_right c.in_ok-told.ensures.refusal) (omega (arith, c.in_ok-told.ensures.same)) (omega (arith, c.in_ok-told.ensures.same)))

pub returns-then-mode-gt3 : goal.returns-then-mode-gt3
returns-then-mode-gt3 c =
    let a = c.args in
    let s = c.in_ok-told.ensures.same in
    sym (build_mode a.l a.mode a.size a.room (told_right c.in_ok-told.ensures.refusal) (omega (arith, s)) (omega (arith, s)) (omega arith))

pub returns : goal.returns
returns c =
    let a = c.args in
    let s = c.in_ok-told.ensures.same in
    sym (build_done a.l a.mode a.size a.room (told_right c.in_ok-told.ensures.refusal) (omega (arith, s)) (omega (arith, s)) (omega arith))
