-- The state of the loop that goes back in time: its start, one turn, and its end.
-- Assumes nothing.
use mathlib.Core.Bool.{Bool, cond}
use mathlib.Core.List.{List, [], ◌∷◌}
use mathlib.Core.Path.{◌≡◌, refl, sym, ap, ◌∙◌}
use Prim.Native.Nat.{ℕ, zero, suc, ◌+◌, ◌-◌, ◌*◌, ◌/◌, ◌%◌, ◌^◌, ◌≤◌, ◌<◌}
use native.Mathlib.Nat.{add-zero}
use native.Mathlib.Decide.{ℕ_discrete, dec_lt}
use native.Mathlib.Omega.{arith}
use lib.ListN.{length, get_or, set, drop, length-set, get_or-replicate, get_or-eq_default}
use lib.Dec.{eqb, eqb-suc-zero}
use lib.Seq.{drop-cons}
use Rattle.std.proofs.Common.{get_or-set_same, get_or-set_other}
use Rattle.lists.specs.Lists.{firsts}
use Rattle.lists.proofs.Lists.{length-firsts, get_or-firsts}
use Rattle.bits.specs.Bits.{bit}
use Rattle.coder.specs.Coder.{uplink_words}
use Rattle.coder.proofs.Register.{uplink_words_short}
use Rattle.trellis.specs.Machine.{rem}
use Rattle.trellis.proofs.Tail.{rem_open_le, rem_open_later}
use Rattle.trellis.proofs.Numbered.{rem-numbered}
use Rattle.trellis.proofs.Spread.{row_lowest, row_highest}
use Rattle.rows.specs.Rows.{Low}
use Rattle.rows.specs.Remaining.{facing, Costs, taken, taken_at, Decided}
use Rattle.rows.proofs.Decided.{decided_step, decided_none}
use Rattle.search.specs.Search.{Heard, Turn, Spread, Leveled, last_row, Filled}

-- how many turns a row has been added to since it was lowered
abbrev pub since : ℕ → ℕ
since t = (64 - t % 64) % 64

-- word i of all rows
abbrev word : List (List ℕ) → ℕ → ℕ
word kept i = get_or (get_or kept (i / 64) []) (i % 64) 0

-- the words of all rows as one run, of which `Decided` speaks
abbrev joined : List (List ℕ) → List ℕ
joined kept = firsts 8320 (word kept)

joined_at : (kept : List (List ℕ)) (j p : ℕ) → j < 130 → p < 64
    → get_or (joined kept) (j * 64 + p) 0 ≡ get_or (get_or kept j []) p 0
joined_at kept j p h l =
    let row : (j * 64 + p) / 64 ≡ j = omega arith in
    let place : (j * 64 + p) % 64 ≡ p = omega arith in
    get_or-firsts 8320 (word kept) (j * 64 + p) (omega arith)
    ∙ ap (λ (q : ℕ). get_or (get_or kept q []) ((j * 64 + p) % 64) 0) row
    ∙ ap (λ (q : ℕ). get_or (get_or kept j []) q 0) place

-- before the turn of moment t - 1
pub record Going (values : List ℕ) (n t : ℕ) (row : List ℕ) (off : ℕ) (kept : List (List ℕ)) : Type 0 where
  pub moment : t ≤ n + 6
  pub costs : (k : ℕ) → k + t ≡ n + 6 → Costs (drop (3 * t) values) k row off
  pub under : (s : ℕ) → s < 64 → get_or row s 0 ≤ 4608 + 384 * since t
  pub sized : length kept ≡ 130
  pub decided : Decided values n t (joined kept)

last_row_each : (s : ℕ) → s < 64 → get_or last_row s 0 ≡ cond (eqb s 0) 0 2304
last_row_each zero h = refl
last_row_each (suc s) h = get_or-replicate {A = ℕ} 63 s 2304 0 (omega arith) ∙ sym (ap (λ (t : Bool). cond t 0 2304) (eqb-suc-zero s))

-- after the last moment
pub going_start :
    (values : List ℕ) (n : ℕ) {kept : List (List ℕ)} → length kept ≡ 130 → Going values n (n + 6) last_row 0 kept
unfolding rem
going_start values n z =
    record {
      moment = omega arith;
      costs = λ k e. ends k (omega arith);
      under = λ s h. most s h;
      sized = z;
      decided = decided_none (omega arith);
    }
  where
    ends : (k : ℕ) → k ≡ 0 → Costs (drop (3 * (n + 6)) values) k last_row 0
    ends zero e = record { sized = refl; each = λ s h. add-zero (get_or last_row s 0) ∙ last_row_each s h }
    ends (suc k) e = absurd (omega arith)

    most : (s : ℕ) → s < 64 → get_or last_row s 0 ≤ 4608 + 384 * since (n + 6)
    most zero h = omega arith
    most (suc s) h = omega (arith, get_or-replicate {A = ℕ} 63 s 2304 0 (omega arith))

-- the three values of moment t and those after them
three_values : (values : List ℕ) (t : ℕ) → 3 * t + 2 < length values → drop (3 * t) values ≡ get_or values (3 * t) 0 ∷ get_or values (3 * t + 1) 0 ∷ get_or values (3 * t + 2) 0 ∷ drop (3 * suc t) values
three_values values t h =
    drop-cons values (3 * t) 0 (omega arith)
    ∙ ap (λ (l : List ℕ). get_or values (3 * t) 0 ∷ l)
    (again (3 * t) (3 * t + 1) (omega arith) (omega arith)
    ∙ ap (λ (l : List ℕ). get_or values (3 * t + 1) 0 ∷ l)
    (again (3 * t + 1) (3 * t + 2) (omega arith) (omega arith)
    ∙ ap (λ (q : ℕ). get_or values (3 * t + 2) 0 ∷ drop q values) end))
  where
    end : suc (3 * t + 2) ≡ 3 * suc t
    end = omega arith

    again : (i j : ℕ) → suc i ≡ j → j < length values → drop (suc i) values ≡ get_or values j 0 ∷ drop (suc j) values
    again i j e l = ap (λ (q : ℕ). drop q values) e ∙ drop-cons values j 0 l

module _ {values : List ℕ} {n t off : ℕ} {row row' part : List ℕ} {kept : List (List ℕ)}
    (heard : Heard values n) (g : Going values n (suc t) row off kept)
    (turn : Turn (get_or values (3 * t) 0) (get_or values (3 * t + 1) 0) (get_or values (3 * t + 2) 0) row
    (get_or kept (t / 16) []) row' part) where
  at_moment : 3 * t + 2 < length values
  at_moment = omega (arith, g.moment, heard.sized)

  -- the costs of moment t before the row is lowered
  costs_before : (k : ℕ) → k + suc t ≡ n + 6 → Costs (drop (3 * t) values) (suc k) row' off
  costs_before k e = rw (three_values values t at_moment) (turn.costs (drop (3 * suc t) values) k off (g.costs k e))

  -- the row can be lowered
  pub going_spread : Spread row' off
  going_spread =
      record {
        lowest = λ s h. omega (arith, costs.each 0 (omega arith), costs.each s h, row_lowest uplink_words (drop (3 * t) values) h (suc k));
        total = omega (arith, costs.each 0 (omega arith), rem_open_le uplink_words (suc k) (facing (drop (3 * t) values) 0), heard.most);
      }
    where
      k : ℕ
      k = n + 5 - t

      costs : Costs (drop (3 * t) values) (suc k) row' off
      costs = costs_before k (omega (arith, g.moment))

  module _ {row'' : List ℕ} {off' : ℕ} (level : Leveled row' off t row'' off') where
    abbrev kept' : List (List ℕ)
    kept' = set kept (t / 16) part

    here : t / 16 < 130
    here = omega (arith, g.moment, heard.most)

    part_at : get_or kept' (t / 16) [] ≡ part
    part_at = get_or-set_same kept (t / 16) part [] (omega (arith, here, g.sized))

    costs_after : (k : ℕ) → k + t ≡ n + 6 → Costs (drop (3 * t) values) k row'' off'
    costs_after zero e = absurd (omega (arith, g.moment))
    costs_after (suc k) e = record { sized = level.sized; each = λ s h. level.same s h ∙ (costs_before k (omega arith)).each s h }

    raised : (s : ℕ) → s < 64 → get_or row' s 0 ≤ 4608 + 384 * since (suc t) + 384
    raised s h = turn.rise (4608 + 384 * since (suc t)) g.under s h

    under_after : (s : ℕ) → s < 64 → get_or row'' s 0 ≤ 4608 + 384 * since t
    under_after s h = go (ℕ_discrete (t % 64) 0)
      where
        k : ℕ
        k = n + 5 - t

        go : Dec (t % 64 ≡ 0) → get_or row'' s 0 ≤ 4608 + 384 * since t
        go (yes z) =
            omega (
              arith,
              z,
              level.lowered z s h,
              level.same s h,
              level.same 0 (omega arith),
              (costs_before k (omega (arith, g.moment))).each s h,
              (costs_before k (omega (arith, g.moment))).each 0 (omega arith),
              row_highest uplink_words (drop (3 * t) values) h (suc k),
            )
        go (no d) =
            let e : since t ≡ since (suc t) + 1 = omega (arith, d) in
            omega (arith, level.between d s h, raised s h)

    taken_now :
        (p : ℕ) → p < 64
        → get_or (joined kept') (t / 16 * 64 + p) 0
        ≡ 2 * (get_or (joined kept) (t / 16 * 64 + p) 0 % 32768) + bit (taken_at values n t p)
    taken_now p h =
        joined_at kept' (t / 16) p here h
        ∙ ap (λ (l : List ℕ). get_or l p 0) part_at
        ∙ turn.chosen (drop (3 * suc t) values) k off (g.costs k (omega (arith, g.moment))) p h
        ∙ ap (λ (l : List ℕ). 2 * (get_or (get_or kept (t / 16) []) p 0 % 32768) + bit (taken l k p))
        (sym (three_values values t at_moment))
        ∙ ap (λ (q : ℕ). 2 * (q % 32768) + bit (taken_at values n t p)) (sym (joined_at kept (t / 16) p here h))
      where
        k : ℕ
        k = n + 5 - t

    -- the words of the rows above are as they were
    above : (i : ℕ) → t / 16 * 64 + 64 ≤ i → get_or (joined kept') i 0 ≡ get_or (joined kept) i 0
    above i h = go (dec_lt i 8320)
      where
        same : get_or kept' (i / 64) [] ≡ get_or kept (i / 64) []
        same = get_or-set_other kept (t / 16) (i / 64) part [] (λ e. absurd (omega arith))

        go : Dec (i < 8320) → get_or (joined kept') i 0 ≡ get_or (joined kept) i 0
        go (yes l) =
            get_or-firsts 8320 (word kept') i l
            ∙ ap (λ (r : List ℕ). get_or r (i % 64) 0) same
            ∙ sym (get_or-firsts 8320 (word kept) i l)
        go (no d) =
            get_or-eq_default (joined kept') 0 (rw length-firsts (omega arith))
            ∙ sym (get_or-eq_default (joined kept) 0 (rw length-firsts (omega arith)))

    -- one turn
    pub going_turn : Going values n t row'' off' kept'
    going_turn =
        record {
          moment = omega (arith, g.moment);
          costs = costs_after;
          under = under_after;
          sized = length-set kept (t / 16) part ∙ g.sized;
          decided = decided_step (joined kept') g.decided taken_now above;
        }

-- at the first moment all is kept, and state 0 has the nearest string's cost
pub going_end : {values : List ℕ} {n off : ℕ} {row : List ℕ} {kept : List (List ℕ)}
    → n ≤ 2066 → Going values n 0 row off kept → Filled values n kept (get_or row 0 0 + off)
going_end {values} {n} {off} {row} {kept} most g =
    record {
      words =
          λ t p h l.
          ap (λ (q : ℕ). q / 2 ^ (t % 16) % 2) (sym (joined_at kept (t / 16) p (omega arith) h))
          ∙ ap (λ (q : ℕ). get_or (joined kept) (t / 16 * 64 + p) 0 / 2 ^ q % 2) (omega arith)
          ∙ g.decided.each t p h (omega arith) l;
      costs =
          (g.costs (n + 6) (omega arith)).each 0 (omega arith)
          ∙ rem_open_later uplink_words n (facing values 0)
          ∙ rem-numbered uplink_words uplink_words_short values n;
    }

-- a row before a turn is low
pub going_low : {values : List ℕ} {n t off : ℕ} {row : List ℕ} {kept : List (List ℕ)}
    → Going values n t row off kept → Low row
going_low {values} {n} {t} g =
    record { sized = (g.costs (n + 6 - t) (omega (arith, g.moment))).sized; under = λ s h. omega (arith, g.under s h) }

-- the first cost and what was taken off fit 32 bits
pub going_total : {values : List ℕ} {n t off : ℕ} {row : List ℕ} {kept : List (List ℕ)}
    → Heard values n → Going values n t row off kept → get_or row 0 0 + off ≤ 1000000
going_total {values} {n} {t} h g =
    omega (arith, (g.costs (n + 6 - t) (omega (arith, g.moment))).each 0 (omega arith), rem_open_le uplink_words (n + 6 - t) (facing (drop (3 * t) values) 0), h.most)
