-- Heads of fields: when bytes are the same, when a head is right, and so many heads one after another.
-- Assumes nothing.
use mathlib.Core.Bool.{Bool, true, false, ◌&&◌}
use mathlib.Core.List.{List, [], ◌∷◌}
use mathlib.Core.Path.{◌≡◌, refl, sym, ap, ◌∙◌}
use Prim.Native.Nat.{ℕ, suc, ◌+◌, ◌*◌, ◌-◌, ◌≤◌, ◌<◌}
use native.Mathlib.Decide.{ℕ_discrete}
use native.Mathlib.Omega.{arith}
use borrow.Author.Tests.{eq-eqb, ne_eqb, eqb-true, lt-leb, le-leb}
use lib.Dec.{eqb}
use lib.ListN.{length, get_or, take, drop, length-drop}
use lib.Seq.{take_all, drop-drop}
use Rattle.std.specs.List.{starts_with}
use Rattle.capture.specs.Reading.{same_bytes, first_field}
use Rattle.capture.specs.Parts.{head_of, heads}

pub and_left : (a b : Bool) → (a && b) ≡ true → a ≡ true
and_left true b e = refl
and_left false b e = e

pub and_right : (a b : Bool) → (a && b) ≡ true → b ≡ true
and_right true b e = e
and_right false true e = refl
and_right false false e = e

pub same_itself : (xs : List ℕ) → same_bytes xs xs ≡ true
unfolding same_bytes
same_itself [] = refl
same_itself (x ∷ xs) = rw (eq-eqb x x refl) (same_itself xs)

pub same_equal : (xs ys : List ℕ) → same_bytes xs ys ≡ true → xs ≡ ys
unfolding same_bytes
same_equal [] [] e = refl
same_equal [] (y ∷ ys) e = cc
same_equal (x ∷ xs) [] e = cc
same_equal (x ∷ xs) (y ∷ ys) e =
    cc (eqb-true x y (and_left (eqb x y) (same_bytes xs ys) e), same_equal xs ys (and_right (eqb x y) (same_bytes xs ys) e))

-- what stands from a place to the end
pub tail_part : (n : ℕ) (c : List ℕ) → take (length c - n) (drop n c) ≡ drop n c
tail_part n c = take_all (length c - n) (drop n c) (omega (arith, length-drop n c))

-- what follows the marks reaches to the end of a capture
pub fields_part : (l : ℕ) (c : List ℕ) → length c ≡ 119 + 28 * l → take (119 + 28 * l - (11 + l)) (drop (11 + l) c) ≡ drop (11 + l) c
fields_part l c size = take_all (119 + 28 * l - (11 + l)) (drop (11 + l) c) (omega (arith, length-drop (11 + l) c, size))

-- a head is judged byte by byte
head_same : (c : List ℕ) (a b d : ℕ) → 3 ≤ length c → same_bytes (take 3 c) (a ∷ b ∷ d ∷ []) ≡ (eqb (get_or c 0 0) a && (eqb (get_or c 1 0) b && (eqb (get_or c 2 0) d && true)))
unfolding same_bytes
head_same [] a b d h = absurd (omega arith)
head_same (x ∷ []) a b d h = absurd (omega arith)
head_same (x ∷ y ∷ []) a b d h = absurd (omega arith)
head_same (x ∷ y ∷ z ∷ rest) a b d h = refl

eqb_sym : (a b : ℕ) → eqb a b ≡ eqb b a
eqb_sym a b = go (ℕ_discrete a b)
  where
    go : Dec (a ≡ b) → eqb a b ≡ eqb b a
    go (yes e) = eq-eqb a b e ∙ sym (eq-eqb b a (sym e))
    go (no d) = ne_eqb a b d ∙ sym (ne_eqb b a (λ e. d (sym e)))

-- and so does the library compare what the bytes start with
pub head_starts : (c : List ℕ) (a b d : ℕ) → 3 ≤ length c → starts_with eqb c (a ∷ b ∷ d ∷ []) ≡ same_bytes (take 3 c) (a ∷ b ∷ d ∷ [])
unfolding same_bytes
head_starts [] a b d h = absurd (omega arith)
head_starts (x ∷ []) a b d h = absurd (omega arith)
head_starts (x ∷ y ∷ []) a b d h = absurd (omega arith)
head_starts (x ∷ y ∷ z ∷ rest) a b d h = cc (eqb_sym a x, eqb_sym b y, eqb_sym d z)

-- the first field
pub first_short : (c : List ℕ) → length c < 4 → first_field c ≡ false
unfolding first_field
first_short c h = rw (lt-leb 4 (length c) h)

pub first_long : (c : List ℕ) → 4 ≤ length c → first_field c ≡ same_bytes (take 3 c) (head_of 1 1)
unfolding first_field
first_long c h = rw (le-leb 4 (length c) h)

-- before head s of so many: those still to be seen decide
pub record Seeing (c : List ℕ) (count s : ℕ) : Type 0 where
  pub within : s ≤ count
  pub decides : (left : ℕ) → s + left ≡ count → heads left (drop (27 * s) c) ≡ heads count c

pub seeing_start : (c : List ℕ) (count : ℕ) → Seeing c count 0
seeing_start c count = record { within = omega arith; decides = λ left e. ap (λ (k : ℕ). heads k c) (start left e) }
  where
    start : (left : ℕ) → 0 + left ≡ count → left ≡ count
    start left e = omega arith

heads_right : (c : List ℕ) (s k : ℕ) → same_bytes (take 3 (drop (27 * s) c)) (head_of 3 24) ≡ true → heads (suc k) (drop (27 * s) c) ≡ heads k (drop (27 * (s + 1)) c)
unfolding heads
heads_right c s k e =
    let f : 27 * s + 27 ≡ 27 * (s + 1) = omega arith in
    rw (e, drop-drop 27 (27 * s) c, f)

heads_wrong : (c : List ℕ) (s k : ℕ) → same_bytes (take 3 (drop (27 * s) c)) (head_of 3 24) ≡ false → heads (suc k) (drop (27 * s) c) ≡ false
unfolding heads
heads_wrong c s k e = rw e

pub seeing_right : {c : List ℕ} {count s : ℕ} → Seeing c count s → s < count → same_bytes (take 3 (drop (27 * s) c)) (head_of 3 24) ≡ true → Seeing c count (s + 1)
seeing_right {c} {count} {s} p h e =
    record { within = omega arith; decides = λ left q. sym (heads_right c s left e) ∙ p.decides (suc left) (omega arith) }

pub seeing_wrong : {c : List ℕ} {count s : ℕ} → Seeing c count s → s < count → same_bytes (take 3 (drop (27 * s) c)) (head_of 3 24) ≡ false → heads count c ≡ false
seeing_wrong {c} {count} {s} p h e =
    let q : s + suc (count - s - 1) ≡ count = omega arith in
    sym (p.decides (suc (count - s - 1)) q) ∙ heads_wrong c s (count - s - 1) e

pub seeing_end : {c : List ℕ} {count s : ℕ} → Seeing c count s → count ≤ s → true ≡ heads count c
unfolding heads
seeing_end {c} {count} {s} p h = p.decides 0 (omega arith)
