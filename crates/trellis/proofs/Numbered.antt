-- The machine on 64 numbers follows the coder, for any words of at most seven bits: its walk is the nearest string and its remaining cost that string's cost.
-- Assumes nothing.
use mathlib.Core.Bool.{Bool, false}
use mathlib.Core.List.{List, [], ◌∷◌, ◌++◌}
use mathlib.Core.Path.{◌≡◌, refl, sym, ap, subst, fun_ext, ◌∙◌}
use Prim.Native.Nat.{ℕ, zero, suc, ◌+◌}
use native.Mathlib.Omega.{arith}
use lib.ListN.{length, drop, replicate}
use Rattle.coder.specs.Coder.{Words, outputs, coded_after, tail, coded}
use Rattle.coder.specs.Cost.{distance, cost}
use Rattle.coder.specs.Nearest.{Nearest, nearest}
use Rattle.coder.specs.Register.{Holds, Short}
use Rattle.coder.proofs.Nearest.{nearest_eq}
use Rattle.coder.proofs.Register.{holds_start, holds_shifted, outputs-held}
use Rattle.trellis.specs.Machine.{spent, rem, walk}
use Rattle.trellis.specs.Numbered.{Taken, history, At, price, open64, numbered}
use Rattle.trellis.proofs.Machine.{walk-nearest, spent-walk, Follows, rem_follows, walk_follows}
use Rattle.trellis.proofs.Tail.{slide, rem_six}

distance_none : (bs : List Bool) → distance bs [] ≡ 0
unfolding distance
distance_none [] = refl
distance_none (b ∷ bs) = refl

-- the cost of two runs, one after the other
pub distance-append : (xs ys : List Bool) (vs : List ℕ) → distance (xs ++ ys) vs ≡ distance xs vs + distance ys (drop (length xs) vs)
unfolding distance
distance-append [] ys vs = omega arith
distance-append (x ∷ xs) ys [] = rw (distance_none ys)
distance-append (x ∷ xs) ys (v ∷ vs) = omega (arith, distance-append xs ys vs)

module _ (w : Words) where
  -- what a string costs from the coder's state is its distance and that of the six zeros
  spent-history : (xs : List Bool) (s : Taken) → spent (history w) s xs ≡ distance (coded_after w s.bits (xs ++ tail)) s.values
  unfolding spent coded_after
  spent-history [] s = refl
  spent-history (x ∷ xs) s =
      ap (λ (c : ℕ). distance (outputs w (x ∷ s.bits)) s.values + c) (spent-history xs ((history w).move x s))
      ∙ sym (distance-append (outputs w (x ∷ s.bits)) (coded_after w (x ∷ s.bits) (xs ++ tail)) s.values)

  -- before the first bit
  abbrev pub begun : List ℕ → Taken
  begun values = record { bits = []; values = values }

  abbrev pub start : List ℕ → At
  start values = record { state = 0; values = values }

  pub spent-cost : (values : List ℕ) (xs : List Bool) → spent (history w) (begun values) xs ≡ cost w values xs
  unfolding cost coded
  spent-cost values xs = spent-history xs (begun values)

  -- the number has the last six of the bits taken, and the same values are still to come
  pub record Same (s : Taken) (t : At) : Type 0 where
    pub held : Holds s.bits t.state
    pub values : s.values ≡ t.values

  module _ (h : Short w) where
    price_same : (b : Bool) {s : Taken} {t : At} → Same s t → (history w).price b s ≡ (open64 w).price b t
    unfolding price
    price_same b {s} {t} r = rw (outputs-held b h r.held, r.values)

    move_same : (b : Bool) {s : Taken} {t : At} → Same s t → Same ((history w).move b s) ((open64 w).move b t)
    move_same b r = record { held = holds_shifted b r.held; values = ap (λ (l : List ℕ). drop 3 l) r.values }

    -- k zeros cost the same
    slide_same : (k : ℕ) {s : Taken} {t : At} → Same s t → distance (coded_after w s.bits (replicate k false)) s.values ≡ slide w k t
    unfolding coded_after slide distance
    slide_same zero r = refl
    slide_same (suc k) {s} {t} r =
        distance-append (outputs w (false ∷ s.bits)) (coded_after w (false ∷ s.bits) (replicate k false)) s.values
        ∙ rw (price_same false r, slide_same k (move_same false r))

    follows : Follows (history w) (numbered w) Same
    follows =
        record {
          price = price_same;
          move = move_same;
          rest = λ r. slide_same 6 r ∙ sym (rem_six w _ r.held.below);
        }

    same_start : (values : List ℕ) → Same (begun values) (start values)
    same_start values = record { held = holds_start; values = refl }

    walk-history : (values : List ℕ) (n : ℕ) → walk (history w) n (begun values) ≡ nearest (cost w values) n
    walk-history values n =
        nearest_eq (cost w values)
        (subst (λ (c : List Bool → ℕ). Nearest c n (walk (history w) n (begun values))) (fun_ext (spent-cost values))
        (walk-nearest (history w) n (begun values)))

    -- THE WALK IS THE NEAREST STRING, once over the words, the values and n
    pub walk-numbered : (values : List ℕ) (n : ℕ) → walk (numbered w) n (start values) ≡ nearest (cost w values) n
    walk-numbered values n = sym (walk_follows follows n (same_start values)) ∙ walk-history values n

    -- and what it costs
    pub rem-numbered : (values : List ℕ) (n : ℕ) → rem (numbered w) n (start values) ≡ cost w values (nearest (cost w values) n)
    rem-numbered values n =
        sym (rem_follows follows n (same_start values))
        ∙ sym (spent-walk (history w) n (begun values))
        ∙ spent-cost values (walk (history w) n (begun values))
        ∙ ap (cost w values) (walk-history values n)
