-- The four functions of a step make one step back in time. Assumes nothing.
use mathlib.Core.List.{List, [], ◌∷◌}
use mathlib.Core.Path.{◌≡◌, subst}
use Prim.Native.Nat.{ℕ, ◌+◌, ◌*◌, ◌/◌, ◌%◌, ◌≤◌, ◌<◌}
use native.Mathlib.Decide.{dec_lt}
use native.Mathlib.Nat.{zero-add}
use native.Mathlib.Omega.{arith}
use lib.ListN.{get_or}
use Rattle.rows.specs.Rows.{Weighs, Summed, Least, Chosen}
use Rattle.rows.proofs.Step.{costs_step, chosen_step}
use Rattle.search.specs.Search.{Turn}

module _ {a b c all : ℕ} {row kept pairs zero one row' kept' : List ℕ}
    (w : Weighs (a ∷ b ∷ c ∷ []) pairs all) (m : Summed row pairs all zero one)
    (l : Least 32 zero one row') (g : Chosen 64 zero one kept 0 kept') where
  rise_even : (most j : ℕ) → j < 32 → get_or row j 0 ≤ most → get_or row' (2 * j) 0 ≤ most + 384
  rise_even most j h u = omega (arith, l.even j h, m.even0 j h, w.small.within j h, w.small.most)

  rise_odd : (most j : ℕ) → j < 32 → get_or row j 0 ≤ most → get_or row' (2 * j + 1) 0 ≤ most + 384
  rise_odd most j h u = omega (arith, l.odd j h, m.odd0 j h, w.small.most)

  rise_each : (most s : ℕ) → s < 64 → get_or row (s / 2) 0 ≤ most → Dec (s % 2 < 1) → get_or row' s 0 ≤ most + 384
  rise_each most s h u (yes z) =
      let e : 2 * (s / 2) ≡ s = omega arith in
      subst (λ (q : ℕ). get_or row' q 0 ≤ most + 384) e (rise_even most (s / 2) (omega arith) u)
  rise_each most s h u (no z) =
      let e : 2 * (s / 2) + 1 ≡ s = omega arith in
      subst (λ (q : ℕ). get_or row' q 0 ≤ most + 384) e (rise_odd most (s / 2) (omega arith) u)

  pub turn_of_lem : Turn a b c row kept row' kept'
  turn_of_lem =
      record {
        costs = λ rest k off p. costs_step a b c rest k off all row pairs zero one p w m l;
        chosen =
            λ rest k off before p h.
            rw zero-add at (chosen_step a b c rest k off all row pairs zero one before w m g p h);
        rise = λ most u s h. rise_each most s h (u (s / 2) (omega arith)) (dec_lt (s % 2) 1);
      }
