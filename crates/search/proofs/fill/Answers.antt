-- `search::fill` meets its contract: before the turn of moment t - 1 the loop's state is `Going` at t. Assumes nothing.
use mathlib.Core.Path.{◌≡◌, subst}
use Prim.Native.Nat.{ℕ, suc, ◌-◌, ◌<◌}
use native.Mathlib.Omega.{arith}
use mathlib.Core.List.{List}
use Rattle.search.proofs.Going.{Going, going_start, going_spread, going_turn, going_end, going_low, going_total}
use Rattle.search.proofs.fill.Goals as goal

-- the state at the loop's head, with the moment as one more than that of the turn
begun : {values row : List ℕ} {kept : List (List ℕ)} {n t off : ℕ} → 0 < t → Going values n t row off kept
    → Going values n (suc (t - 1)) row off kept
begun {values} {row} {kept} {n} {t} {off} h g = subst (λ (q : ℕ). Going values n q row off kept) (omega arith) g

pub loop-t-init : goal.loop-t-init
loop-t-init c = rw c.last_row.ensures (going_start c.args.values.now c.args.n c.told-kept)

pub turn-least-requires : goal.turn-least-requires
turn-least-requires c = going_low c.loop-t.invariant

pub leveled-level-requires : goal.leveled-level-requires
leveled-level-requires c = going_spread c.requires (begun c.loop-t-test.true c.loop-t.invariant) c.turn-least.ensures

pub loop-t-preserved : goal.loop-t-preserved
loop-t-preserved c =
    going_turn c.requires (begun c.loop-t-test.true c.loop-t.invariant) c.turn-least.ensures c.leveled-level.ensures

pub overflow_add-result : goal.overflow_add-result
overflow_add-result c = omega (arith, going_total c.requires c.loop-t.invariant)

pub returns : goal.returns
returns c =
    let ended : c.loop-t.t ≡ 0 = omega arith in
    rw c.from.ensures (going_end c.requires.most (rw ended at c.loop-t.invariant))
