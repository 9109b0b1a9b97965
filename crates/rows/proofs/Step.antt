-- One step of rows is one step of the machine on 64 numbers: its costs and its decisions.
-- Assumes nothing.
use mathlib.Core.Bool.{Bool, true, false}
use mathlib.Core.List.{List, [], ◌∷◌}
use mathlib.Core.Path.{◌≡◌, refl, ap, subst, ◌∙◌}
use Prim.Native.Nat.{ℕ, suc, ◌+◌, ◌-◌, ◌*◌, ◌/◌, ◌%◌, ◌<◌}
use native.Mathlib.Decide.{dec_lt}
use native.Mathlib.Omega.{arith}
use borrow.Author.Tests.{ltb-true, ltb-false}
use lib.Dec.{ltb}
use lib.ListN.{get_or}
use Rattle.bits.specs.Bits.{bit}
use Rattle.coder.specs.Coder.{uplink_words}
use Rattle.coder.specs.Cost.{distance}
use Rattle.trellis.specs.Machine.{rem, takes}
use Rattle.trellis.specs.Numbered.{price, open64}
use Rattle.rows.specs.Rows.{Weighs, Summed, Least, Chosen, chooses}
use Rattle.rows.specs.Remaining.{facing, Costs, taken}

-- only the next three values count for a step
price_three : (x : Bool) (s a b c : ℕ) (rest : List ℕ) → price uplink_words (a ∷ b ∷ c ∷ rest) x s ≡ price uplink_words (a ∷ b ∷ c ∷ []) x s
unfolding price distance
price_three x s a b c rest = refl

-- a test of two numbers is that of the two with the same added
ltb-add : (a b c d o : ℕ) → a + o ≡ c → b + o ≡ d → ltb a b ≡ ltb c d
ltb-add a b c d o e f = go (ltb a b) refl (ltb c d) refl
  where
    go : (x : Bool) → ltb a b ≡ x → (y : Bool) → ltb c d ≡ y → x ≡ y
    go true h true l = refl
    go false h false l = refl
    go true h false l = absurd (omega (arith, ltb-true, ltb-false))
    go false h true l = absurd (omega (arith, ltb-true, ltb-false))

module _ (a b c : ℕ) (rest : List ℕ) (k off all : ℕ) (row pairs zero one : List ℕ)
    (costs : Costs rest k row off) (w : Weighs (a ∷ b ∷ c ∷ []) pairs all) (m : Summed row pairs all zero one) where
  abbrev remaining : ℕ → ℕ
  remaining s = rem (open64 uplink_words) k (facing rest s)

  abbrev weighed : Bool → ℕ → ℕ
  weighed x s = price uplink_words (a ∷ b ∷ c ∷ rest) x s

  -- a state reached is the same by its number
  remaining-at : (s t : ℕ) → s ≡ t → remaining s ≡ remaining t
  remaining-at s t e = ap (λ (q : ℕ). remaining q) e

  -- the four moves of a pair of states, with what follows
  move_even0 : (j : ℕ) → j < 32 → get_or zero j 0 + off ≡ weighed false (2 * j) + remaining (2 * j / 2)
  move_even0 j h =
      omega (arith, m.even0 j h, w.even0 j h, price_three false (2 * j) a b c rest, costs.each j (omega arith), remaining-at (2 * j / 2) j (omega arith))

  move_even1 : (j : ℕ) → j < 32 → get_or one j 0 + off ≡ weighed true (2 * j) + remaining (2 * j / 2 + 32)
  move_even1 j h =
      omega (arith, m.even1 j h, w.even1 j h, price_three true (2 * j) a b c rest, costs.each (j + 32) (omega arith), remaining-at (2 * j / 2 + 32) (j + 32) (omega arith))

  move_odd0 : (j : ℕ) → j < 32 → get_or zero (j + 32) 0 + off ≡ weighed false (2 * j + 1) + remaining ((2 * j + 1) / 2)
  move_odd0 j h =
      omega (arith, m.odd0 j h, w.odd0 j h, price_three false (2 * j + 1) a b c rest, costs.each j (omega arith), remaining-at ((2 * j + 1) / 2) j (omega arith))

  move_odd1 : (j : ℕ) → j < 32 → get_or one (j + 32) 0 + off ≡ weighed true (2 * j + 1) + remaining ((2 * j + 1) / 2 + 32)
  move_odd1 j h =
      omega (arith, m.odd1 j h, w.odd1 j h, price_three true (2 * j + 1) a b c rest, costs.each (j + 32) (omega arith), remaining-at ((2 * j + 1) / 2 + 32) (j + 32) (omega arith))

  -- the row of the cheaper moves has the costs with one step more
  pub costs_step : {next : List ℕ} → Least 32 zero one next → Costs (a ∷ b ∷ c ∷ rest) (suc k) next off
  unfolding rem
  costs_step {next} l = record { sized = l.sized; each = λ s h. each s h (dec_lt (s % 2) 1) }
    where
      even : (j : ℕ) → j < 32 → get_or next (2 * j) 0 + off ≡ rem (open64 uplink_words) (suc k) (facing (a ∷ b ∷ c ∷ rest) (2 * j))
      even j h = omega (arith, l.even j h, move_even0 j h, move_even1 j h)

      odd : (j : ℕ) → j < 32 → get_or next (2 * j + 1) 0 + off ≡ rem (open64 uplink_words) (suc k) (facing (a ∷ b ∷ c ∷ rest) (2 * j + 1))
      odd j h = omega (arith, l.odd j h, move_odd0 j h, move_odd1 j h)

      each : (s : ℕ) → s < 64 → Dec (s % 2 < 1) → get_or next s 0 + off ≡ rem (open64 uplink_words) (suc k) (facing (a ∷ b ∷ c ∷ rest) s)
      each s h (yes z) =
          let e : 2 * (s / 2) ≡ s = omega arith in
          subst (λ (q : ℕ). get_or next q 0 + off ≡ rem (open64 uplink_words) (suc k) (facing (a ∷ b ∷ c ∷ rest) q)) e (even (s / 2) (omega arith))
      each s h (no z) =
          let e : 2 * (s / 2) + 1 ≡ s = omega arith in
          subst (λ (q : ℕ). get_or next q 0 + off ≡ rem (open64 uplink_words) (suc k) (facing (a ∷ b ∷ c ∷ rest) q)) e (odd (s / 2) (omega arith))

  -- each word has the machine's decision in its lowest bit
  pub chosen_step :
      {old new : List ℕ} {place : ℕ} → Chosen 64 zero one old place new → (p : ℕ) → p < 64
      → get_or new (place + p) 0 ≡ 2 * (get_or old (place + p) 0 % 32768) + bit (taken (a ∷ b ∷ c ∷ rest) k p)
  unfolding takes
  chosen_step {old} {new} {place} g p h = g.inside p h ∙ ap (λ (d : Bool). 2 * (get_or old (place + p) 0 % 32768) + bit d) (each (dec_lt p 32))
    where
      each : Dec (p < 32) → chooses zero one p ≡ taken (a ∷ b ∷ c ∷ rest) k p
      each (yes z) =
          ltb-add _ _ _ _ off (move_even1 p z) (move_even0 p z)
          ∙ ap (λ (s : ℕ). takes (open64 uplink_words) k (facing (a ∷ b ∷ c ∷ rest) s)) (omega arith)
      each (no z) =
          let j : ℕ = p - 32 in
          let e : j + 32 ≡ p = omega arith in
          let l : j < 32 = omega arith in
          subst (λ (q : ℕ). chooses zero one q ≡ taken (a ∷ b ∷ c ∷ rest) k p) e
          (ltb-add _ _ _ _ off (move_odd1 j l) (move_odd0 j l)
          ∙ ap (λ (s : ℕ). takes (open64 uplink_words) k (facing (a ∷ b ∷ c ∷ rest) s)) (omega arith))
