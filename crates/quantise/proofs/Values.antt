-- What is promised of values: nearest, halves away from zero, in order, opposite, and never -128. Assumes nothing.
use mathlib.Core.Bool.{Bool, true, false, not}
use mathlib.Core.Logic.{⊎_elim}
use mathlib.Core.Path.{◌≡◌, refl, sym, ◌∙◌}
use Prim.Native.Nat.{ℕ, ◌+◌, ◌-◌, ◌*◌, ◌%◌, ◌^◌, ◌≤◌, ◌<◌}
use native.Mathlib.Nat.{le_of_eq, eq-zero-or-pos}
use native.Mathlib.Omega.{arith}
use borrow.Author.Tests.{le-leb, lt-leb}
use lib.Pow.{pow_pos}
use Rattle.coder.specs.Cost.{weight, against}
use Rattle.quantise.specs.Number.{Number, not_a_number, infinite, exactly}
use Rattle.quantise.specs.Value.{nearest_whole, held, byte_of, value_of}
use Rattle.quantise.specs.Promises.{distance, opposite, AtMost, infinity, from_minus_infinity, to_infinity, infinities, minus, minus_plus, plus, zeros, Is, Rounds, Values}
use Rattle.quantise.proofs.Rounding.{nearest_mono}
use Rattle.quantise.proofs.Held.{value_of_nan, value_of_infinite, value_of_exactly, held_below}
use Rattle.quantise.proofs.Nearest.{gap, nearest_same, nearest_other, tie_same, tie_other, half_free}

-- the sign and magnitude of every value
abbrev side_of : Number → Bool
side_of not_a_number = false
side_of (infinite s) = s
side_of (exactly s u) = s

abbrev size_of : Number → ℕ
size_of not_a_number = 0
size_of (infinite s) = 127
size_of (exactly s u) = held (nearest_whole u)

value_is : (n : Number) → Is (value_of n) (side_of n) (size_of n)
value_is not_a_number = record { byte = value_of_nan; within = omega arith }
value_is (infinite s) = record { byte = value_of_infinite s; within = omega arith }
value_is (exactly s u) = record { byte = value_of_exactly s u; within = held_below u }

-- ---- bytes in two's complement

byte_below : (s : Bool) (w : ℕ) → w ≤ 127 → byte_of s w < 256
byte_below false w h = omega arith
byte_below true w h = omega arith

never_128 : (s : Bool) (w : ℕ) → w ≤ 127 → byte_of s w ≡ 128 → ⊥
never_128 false w h e = omega arith
never_128 true w h e = omega arith

opposite_bytes : (s : Bool) (w : ℕ) → w ≤ 127 → (byte_of s w + byte_of (not s) w) % 256 ≡ 0
opposite_bytes false w h = omega arith
opposite_bytes true w h = omega arith

raised_plus : (w : ℕ) → w ≤ 127 → (byte_of false w + 128) % 256 ≡ 128 + w
raised_plus w h = omega arith

raised_minus : (w : ℕ) → w ≤ 127 → (byte_of true w + 128) % 256 ≡ 128 - w
raised_minus w h = omega arith

-- ---- what a byte stands against

against_plus : (w : ℕ) → w ≤ 127 → (against false (byte_of false w) ≡ w) × (against true (byte_of false w) ≡ 0)
unfolding against weight
against_plus w h = (rw (lt-leb 128 w (omega arith)), rw (lt-leb 128 w (omega arith)))

against_minus : (w : ℕ) → w ≤ 127 → (against true (byte_of true w) ≡ w) × (against false (byte_of true w) ≡ 0)
unfolding against weight
against_minus w h = ⊎_elim
    (λ (z : w ≡ 0). rw z (refl, refl))
    (λ (l : 0 < w).
    let far : (256 - w) % 256 ≡ 256 - w = omega arith in
    let back : 256 - (256 - w) ≡ w = omega arith in
    rw (far, le-leb 128 (256 - w) (omega arith)) (back, refl))
    (eq-zero-or-pos w)

against_value : (s : Bool) (u : ℕ) → (against s (value_of (exactly s u)) ≡ held (nearest_whole u)) × (against (not s) (value_of (exactly s u)) ≡ 0)
against_value false u = rw (value_is (exactly false u)).byte (against_plus (held (nearest_whole u)) (held_below u))
against_value true u = rw (value_is (exactly true u)).byte (against_minus (held (nearest_whole u)) (held_below u))

-- ---- order

least_raised : (s : Bool) (w : ℕ) → w ≤ 127 → (byte_of true 127 + 128) % 256 ≤ (byte_of s w + 128) % 256
least_raised false w h = omega (arith, raised_plus w h)
least_raised true w h = omega (arith, raised_minus w h)

most_raised : (s : Bool) (w : ℕ) → w ≤ 127 → (byte_of s w + 128) % 256 ≤ (byte_of false 127 + 128) % 256
most_raised false w h = omega (arith, raised_plus w h)
most_raised true w h = omega (arith, raised_minus w h)

plus_raised : (v w : ℕ) → w ≤ 127 → v ≤ w → (byte_of false v + 128) % 256 ≤ (byte_of false w + 128) % 256
plus_raised v w h l = omega (arith, raised_plus v (omega arith), raised_plus w h)

minus_raised : (v w : ℕ) → w ≤ 127 → v ≤ w → (byte_of true w + 128) % 256 ≤ (byte_of true v + 128) % 256
minus_raised v w h l = omega (arith, raised_minus v (omega arith), raised_minus w h)

sides_raised : (v w : ℕ) → v ≤ 127 → w ≤ 127 → (byte_of true v + 128) % 256 ≤ (byte_of false w + 128) % 256
sides_raised v w h k = omega (arith, raised_minus v h, raised_plus w k)

held_some : (n : ℕ) → 1 ≤ n → 0 < held n
held_some n l = omega arith

held_mono : {u v : ℕ} → u ≤ v → held (nearest_whole u) ≤ held (nearest_whole v)
held_mono l = omega (arith, nearest_mono l)

ordered : {x y : Number} → AtMost x y → (value_of x + 128) % 256 ≤ (value_of y + 128) % 256
unfolding value_of
ordered infinity = le_of_eq refl
ordered (from_minus_infinity {s} {u}) = least_raised s (held (nearest_whole u)) (held_below u)
ordered (to_infinity {s} {u}) = most_raised s (held (nearest_whole u)) (held_below u)
ordered infinities = omega arith
ordered (minus {u} {v} l) = minus_raised (held (nearest_whole v)) (held (nearest_whole u)) (held_below u) (held_mono l)
ordered (minus_plus {u} {v}) = sides_raised (held (nearest_whole u)) (held (nearest_whole v)) (held_below u) (held_below v)
ordered (plus {u} {v} l) = plus_raised (held (nearest_whole u)) (held (nearest_whole v)) (held_below v) (held_mono l)
ordered zeros = le_of_eq refl

-- one half rounds to 1
nearest_half : nearest_whole (2 ^ 148) ≡ 1
unfolding nearest_whole
nearest_half = refl

speaks : (s : Bool) (u : ℕ) → 2 ^ 148 ≤ u → 0 < against s (value_of (exactly s u))
speaks s u l = rw (against_value s u).0 (held_some (nearest_whole u) (rw nearest_half at (nearest_mono l)))

-- ---- distance, where half a unit is 2^148

least : (s t : Bool) (u v : ℕ) → v ≤ 127 → distance s u s (held (nearest_whole u)) ≤ distance s u t v
unfolding nearest_whole
least false false u v k = nearest_same u (2 ^ 148) (pow_pos 148) v k
least false true u v k = nearest_other u (2 ^ 148) (pow_pos 148) v
least true false u v k = nearest_other u (2 ^ 148) (pow_pos 148) v
least true true u v k = nearest_same u (2 ^ 148) (pow_pos 148) v k

ties : (s t : Bool) (u v : ℕ) → v ≤ 127 → distance s u s (held (nearest_whole u)) ≡ distance s u t v → v ≤ held (nearest_whole u)
unfolding nearest_whole
ties false false u v k e = tie_same u (2 ^ 148) (pow_pos 148) v k e
ties false true u v k e = tie_other u (2 ^ 148) (pow_pos 148) v k e
ties true false u v k e = tie_other u (2 ^ 148) (pow_pos 148) v k e
ties true true u v k e = tie_same u (2 ^ 148) (pow_pos 148) v k e

twice_half : (a h : ℕ) → a ≤ h → 2 * a ≤ h + h
twice_half a h l = omega arith

within : (s : Bool) (u : ℕ) → 2 * u < 255 * 2 ^ 149 → 2 * distance s u s (held (nearest_whole u)) ≤ 2 ^ 149
unfolding nearest_whole
within false u l = twice_half (gap u (held (nearest_whole u) * 2 ^ 149)) (2 ^ 148) (half_free u (2 ^ 148) (pow_pos 148) l)
within true u l = twice_half (gap u (held (nearest_whole u) * 2 ^ 149)) (2 ^ 148) (half_free u (2 ^ 148) (pow_pos 148) l)

opposites : (n : Number) → (value_of n + value_of (opposite n)) % 256 ≡ 0
unfolding value_of
opposites not_a_number = refl
opposites (infinite s) = opposite_bytes s 127 (omega arith)
opposites (exactly s u) = opposite_bytes s (held (nearest_whole u)) (held_below u)

rounds : (s : Bool) (u : ℕ) → Rounds s u (held (nearest_whole u))
rounds s u = record { value = value_is (exactly s u); nearest = λ t v k. least s t u v k; within_half = within s u; halves = λ t v k e. ties s t u v k e }

pub values : Values
values =
    record {
      rounds = λ s u. (held (nearest_whole u), rounds s u);
      of_nan = value_of_nan;
      of_infinity = λ s. value_is (infinite s);
      against = λ s u. against_value s u;
      speaks = speaks;
      never_minus128 = λ n e. never_128 (side_of n) (size_of n) (value_is n).within (sym (value_is n).byte ∙ e);
      a_byte = λ n. rw (value_is n).byte (byte_below (side_of n) (size_of n) (value_is n).within);
      opposites = opposites;
      ordered = λ p. ordered p;
    }
