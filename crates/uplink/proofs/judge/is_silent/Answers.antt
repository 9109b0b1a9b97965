-- `uplink::judge::is_silent` meets its contract: the sub-packets still to be seen decide. Assumes nothing.
use mathlib.Core.Bool.{not, ◌||◌}
use mathlib.Core.List.{List}
use mathlib.Core.Path.{◌≡◌, sym, ap, ◌∙◌}
use Prim.Native.Nat.{ℕ, ◌+◌, ◌-◌, ◌*◌}
use native.Mathlib.Omega.{arith}
use lib.Dec.{eqb}
use lib.ListN.{get_or, take, drop}
use Rattle.uplink.specs.Recover.{zeros}
use Rattle.uplink.proofs.Judged.{silent-quiet, silent_loud, silent_end}
use Rattle.uplink.proofs.judge.is_silent.Goals as goal

-- the part that is lent has 24 values
part-24 : (s m : ℕ) (values : List ℕ) → (not (eqb m 1) || zeros (take (24 * s + 24 - 24 * s) (drop (24 * s) values))) ≡ (not (eqb m 1) || zeros (take 24 (drop (24 * s) values)))
part-24 s m values =
    let e : 24 * s + 24 - 24 * s ≡ 24 = omega arith in
    ap (λ (n : ℕ). not (eqb m 1) || zeros (take n (drop (24 * s) values))) e

pub returns-then-not-packet_silent : goal.returns-then-not-packet_silent
returns-then-not-packet_silent c =
    sym (silent_loud c.args.heard.marks.now c.args.heard.values.now c.loop-s.s c.loop-s-test.true
    (sym (part-24 c.loop-s.s (get_or c.args.heard.marks.now c.loop-s.s 0) c.args.heard.values.now) ∙ sym c.packet_silent.ensures ∙ c.if-not-packet_silent.true))
    ∙ c.loop-s.invariant

pub loop-s-preserved : goal.loop-s-preserved
loop-s-preserved c =
    sym (silent-quiet c.args.heard.marks.now c.args.heard.values.now c.loop-s.s c.loop-s-test.true
    (sym (part-24 c.loop-s.s (get_or c.args.heard.marks.now c.loop-s.s 0) c.args.heard.values.now) ∙ sym c.packet_silent.ensures ∙ c.if-not-packet_silent.false))
    ∙ c.loop-s.invariant

pub returns : goal.returns
returns c = sym (silent_end c.args.heard.marks.now (drop (24 * c.loop-s.s) c.args.heard.values.now) c.loop-s.s (omega arith)) ∙ c.loop-s.invariant
