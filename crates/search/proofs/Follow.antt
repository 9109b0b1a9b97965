-- The walk through the kept decisions is the machine's walk, and so the nearest string.
-- Assumes nothing.
use mathlib.Core.Bool.{Bool}
use mathlib.Core.List.{List, [], ◌∷◌, ◌++◌, map, append_assoc, append-nil}
use mathlib.Core.Path.{◌≡◌, refl, sym, ap, ◌∙◌}
use Prim.Native.Nat.{ℕ, zero, suc, ◌+◌, ◌-◌, ◌*◌, ◌≤◌, ◌<◌}
use native.Mathlib.Numerals.{add-one}
use native.Mathlib.Omega.{arith}
use lib.ListN.{length, set, take, drop}
use lib.Seq.{drop-drop, take_all, take-suc-set}
use Rattle.bits.specs.Bits.{bit, is_one}
use Rattle.bits.proofs.Bits.{is_one-bit, bit-is_one}
use Rattle.coder.specs.Coder.{uplink_words}
use Rattle.coder.specs.Cost.{cost}
use Rattle.coder.specs.Nearest.{nearest}
use Rattle.coder.proofs.Register.{uplink_words_short}
use Rattle.trellis.specs.Machine.{walk, takes}
use Rattle.trellis.specs.Numbered.{open64, numbered}
use Rattle.trellis.proofs.Tail.{takes_open_later}
use Rattle.trellis.proofs.Numbered.{walk-numbered}
use Rattle.rows.specs.Remaining.{facing, state_at, place_after, taken_at}
use Rattle.rows.proofs.Decided.{state_at-after, place_after_below}
use Rattle.search.specs.Search.{Filled, Found, kept_at, follow}

module _ {values : List ℕ} {kept : List (List ℕ)} {n total : ℕ} (f : Filled values n kept total) where
  -- the machine's walk of k steps from place p at moment t
  abbrev onward : ℕ → ℕ → ℕ → List Bool
  onward k t p = walk (numbered uplink_words) k (facing (drop (3 * t) values) (state_at p))

  takes-taken : (k t p : ℕ) → suc k + t ≡ n → takes (numbered uplink_words) k (facing (drop (3 * t) values) (state_at p)) ≡ taken_at values n t p
  takes-taken k t p e =
      let later : k + 6 ≡ n + 5 - t = omega arith in
      sym (takes_open_later uplink_words k (facing (drop (3 * t) values) (state_at p)))
      ∙ ap (λ (q : ℕ). takes (open64 uplink_words) q (facing (drop (3 * t) values) (state_at p))) later

  -- after one step the machine stands at the next place, with the values of the next moment to come
  onward_move : (k t p : ℕ) (b : Bool) → p < 64 → walk (numbered uplink_words) k ((numbered uplink_words).move b (facing (drop (3 * t) values) (state_at p))) ≡ onward k (t + 1) (place_after p (bit b))
  onward_move k t p b h =
      let e : 3 * t + 3 ≡ 3 * (t + 1) = omega arith in
      ap (λ (s : ℕ). walk (numbered uplink_words) k (facing (drop 3 (drop (3 * t) values)) s)) (sym (state_at-after p b h))
      ∙ ap (λ (l : List ℕ). walk (numbered uplink_words) k (facing l (state_at (place_after p (bit b))))) (drop-drop 3 (3 * t) values ∙ ap (λ (q : ℕ). drop q values) e)

  follow-walk : (k t p : ℕ) → k + t ≡ n → n ≤ 2066 → p < 64 → follow kept k t p ≡ onward k t p
  unfolding follow walk
  follow-walk zero t p e l h = refl
  follow-walk (suc k) t p e l h =
      let b : Bool = taken_at values n t p in
      let is : kept_at kept t p ≡ bit b = f.words t p h (omega arith) in
      let taken : takes (numbered uplink_words) k (facing (drop (3 * t) values) (state_at p)) ≡ b = takes-taken k t p e in
      ap (λ (q : ℕ). is_one q ∷ follow kept k (t + 1) (place_after p q)) is
      ∙ ap (λ (q : Bool). q ∷ follow kept k (t + 1) (place_after p (bit b))) (is_one-bit b)
      ∙ ap (λ (q : List Bool). b ∷ q) (follow-walk k (t + 1) (place_after p (bit b)) (omega arith) l (place_after_below p b))
      ∙ ap (λ (q : List Bool). b ∷ q) (sym (onward_move k t p b h))
      ∙ ap (λ (q : Bool). q ∷ walk (numbered uplink_words) k ((numbered uplink_words).move q (facing (drop (3 * t) values) (state_at p)))) (sym taken)

  -- the bits on the way from state 0 are the nearest string's
  pub follow-nearest : n ≤ 2066 → follow kept n 0 0 ≡ nearest (cost uplink_words values) n
  follow-nearest l = follow-walk n 0 0 (omega arith) l (omega arith) ∙ walk-numbered uplink_words uplink_words_short values n

  -- what the search hands out
  pub found_of : {before after : List ℕ} → n ≤ 2066 → after ≡ map bit (follow kept n 0 0) ++ drop n before → Found values n before after total
  found_of {before} l e =
      record { string = e ∙ ap (λ (x : List Bool). map bit x ++ drop n before) (follow-nearest l); costs = f.costs }

-- the loop that goes forward: the bits of the moments before t are written, and what is still to come from this place is the rest of the whole
pub record Walking (kept : List (List ℕ)) (n t place : ℕ) (bits : List ℕ) : Type 0 where
  pub within : place < 64
  pub whole : (k : ℕ) → k + t ≡ n → take t bits ++ map bit (follow kept k t place) ≡ map bit (follow kept n 0 0)

pub walking_step :
    {kept : List (List ℕ)} {bits : List ℕ} {n t p : ℕ} → Walking kept n t p bits → t < length bits
    → Walking kept n (t + 1) (place_after p (kept_at kept t p)) (set bits t (kept_at kept t p))
unfolding follow
walking_step {kept} {bits} {n} {t} {p} w h = record { within = omega arith; whole = λ k e. onward k e }
  where
    v : ℕ
    v = kept_at kept t p

    written : take (t + 1) (set bits t v) ≡ take t bits ++ (v ∷ [])
    written = ap (λ (q : ℕ). take q (set bits t v)) (add-one t) ∙ take-suc-set bits t v h

    onward : (k : ℕ) → k + (t + 1) ≡ n → take (t + 1) (set bits t v) ++ map bit (follow kept k (t + 1) (place_after p v)) ≡ map bit (follow kept n 0 0)
    onward k e =
        ap (λ (q : List ℕ). q ++ map bit (follow kept k (t + 1) (place_after p v))) written
        ∙ append_assoc (take t bits) (v ∷ []) (map bit (follow kept k (t + 1) (place_after p v)))
        ∙ ap (λ (q : ℕ). take t bits ++ (q ∷ map bit (follow kept k (t + 1) (place_after p v)))) (sym (bit-is_one v (omega arith)))
        ∙ w.whole (suc k) (omega arith)

pub walking_end :
    {kept : List (List ℕ)} {bits : List ℕ} {t p : ℕ} → Walking kept (length bits) t p bits → t ≡ length bits
    → bits ≡ map bit (follow kept (length bits) 0 0)
unfolding follow
walking_end {bits = bits} w e = sym (take_all _ bits (omega arith)) ∙ sym (append-nil _) ∙ w.whole 0 (omega arith)
