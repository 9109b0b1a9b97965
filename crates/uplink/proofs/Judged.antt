-- Silence, one more sub-packet at a time.
-- Assumes nothing.
use mathlib.Core.Bool.{Bool, true, false, not, ◌||◌}
use mathlib.Core.List.{List}
use mathlib.Core.Path.{◌≡◌, sym, ap, ◌∙◌}
use Prim.Native.Nat.{ℕ, suc, ◌+◌, ◌*◌, ◌<◌}
use native.Mathlib.Numerals.{add-one}
use native.Mathlib.Omega.{arith}
use lib.Dec.{eqb}
use lib.ListN.{length, get_or, take, drop}
use lib.Seq.{drop-cons, drop-length, drop-drop}
use Rattle.uplink.specs.Recover.{zeros, silent}

-- the values from sub-packet s + 1 on
later : (values : List ℕ) (s : ℕ) → drop 24 (drop (24 * s) values) ≡ drop (24 * (s + 1)) values
later values s =
    let e : 24 * s + 24 ≡ 24 * (s + 1) = omega arith in
    drop-drop 24 (24 * s) values ∙ ap (λ (n : ℕ). drop n values) e

module _ (marks values : List ℕ) (s : ℕ) (h : s < length marks) where
  next : silent (drop (suc s) marks) (drop (24 * (s + 1)) values) ≡ silent (drop (s + 1) marks) (drop (24 * (s + 1)) values)
  next = ap (λ (q : ℕ). silent (drop q marks) (drop (24 * (s + 1)) values)) (sym (add-one s))

  -- what the sub-packet itself says
  abbrev quiet : Bool
  quiet = not (eqb (get_or marks s 0) 1) || zeros (take 24 (drop (24 * s) values))

  pub silent-quiet : quiet ≡ true → silent (drop s marks) (drop (24 * s) values) ≡ silent (drop (s + 1) marks) (drop (24 * (s + 1)) values)
  unfolding silent
  silent-quiet q = rw (drop-cons marks s 0 h, q, later values s) next

  pub silent_loud : quiet ≡ false → silent (drop s marks) (drop (24 * s) values) ≡ false
  unfolding silent
  silent_loud q = rw (drop-cons marks s 0 h, q)

pub silent_end : (marks values : List ℕ) (s : ℕ) → s ≡ length marks → silent (drop s marks) values ≡ true
unfolding silent
silent_end marks values s e = rw (e, drop-length marks)
