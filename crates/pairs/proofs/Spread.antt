-- Stores that are spread over a list and come in turns: none, one, and those of two runs of turns that join. Assumes nothing.
use mathlib.Core.List.{List}
use mathlib.Core.Path.{◌≡◌, refl, ◌∙◌}
use mathlib.Core.Logic.{◌⊎◌, inl, inr}
use Prim.Native.Nat.{ℕ, ◌+◌, ◌≤◌, ◌<◌}
use native.Mathlib.Omega.{arith}
use lib.ListN.{length, get_or, set, length-set}
use lib.Seq.{get_or-set_same, get_or-set_other}
use Rattle.std.proofs.lemmas.Bool.{cases_lt}
use Rattle.pairs.specs.Turns.{Spread}

module _ {n : ℕ} {turn : ℕ → ℕ} {Right : ℕ → ℕ → Type 0} where
  -- no turn writes anything
  pub spread_none : (t : ℕ) (l : List ℕ) → Spread n turn Right t t l l
  spread_none t l = record { sized = refl; written = λ x h from to. absurd (omega arith); kept = λ x h. refl }

  -- the turns from t to u and those from u to v make those from t to v
  pub spread_join : {t u v : ℕ} {a b c : List ℕ}
      → t ≤ u
      → u ≤ v
      → Spread n turn Right t u a b
      → Spread n turn Right u v b c
      → Spread n turn Right t v a c
  spread_join {t} {u} {v} {a} {b} {c} tu uv p q =
      record {
        sized = q.sized ∙ p.sized;
        written = λ x h from to. go x h from to (cases_lt (turn x) u);
        kept =
            λ x h.
            q.kept x (λ inside from to. h inside (omega arith) to) ∙ p.kept x (λ inside from to. h inside from (omega arith));
      }
    where
      go : (x : ℕ) → x < n → t ≤ turn x → turn x < v → (turn x < u) ⊎ (u ≤ turn x) → Right x (get_or c x 0)
      go x h from to (inl below) = rw (q.kept x (λ inside from' to'. omega arith)) (p.written x h from below)
      go x h from to (inr above) = q.written x h above to

  -- the numbers of the turns, written in another way
  pub spread_turns : {t t' u u' : ℕ} {a b : List ℕ} → Spread n turn Right t u a b → t ≡ t' → u ≡ u' → Spread n turn Right t' u' a b
  spread_turns p from to = rw (from, to) at p

  -- one turn writes the element whose turn it is
  pub spread_one : (l : List ℕ) (x v : ℕ)
      → x < n
      → n ≤ length l
      → ((y : ℕ) → y < n → turn y ≡ turn x → y ≡ x)
      → Right x v
      → Spread n turn Right (turn x) (turn x + 1) l (set l x v)
  spread_one l x v h long alone right =
      record {
        sized = length-set l x v;
        written =
            λ y inside from to.
            rw (alone y inside (omega arith), get_or-set_same l x v 0 (omega arith)) right;
        kept = λ y other. get_or-set_other l x y v 0 (λ same. other (omega arith) (rw same (omega arith)) (rw same (omega arith)));
      }
