-- Reads of fields: the loop that makes a number of bits, and the loop that takes the bytes of a message. Assumes nothing.
use mathlib.Core.Bool.{Bool, true, false}
use mathlib.Core.List.{List, [], ◌∷◌, ◌++◌, map}
use mathlib.Core.Path.{◌≡◌, refl, sym, ap, ◌∙◌}
use Prim.Native.Nat.{ℕ, zero, suc, ◌+◌, ◌-◌, ◌*◌, ◌<◌, ◌≤◌}
use native.Mathlib.Nat.{pow-le-pow_right, lt_of_lt_of_le}
use native.Mathlib.Numerals.{add-one}
use native.Mathlib.Omega.{arith}
use lib.ListN.{length, get_or, set, take, drop, length-map, length-drop, length-set, get_or-map}
use Rattle.std.proofs.lemmas.List.{get_or-take}
use lib.Seq.{take-suc, get_or-drop, drop-cons, drop-drop, set_at, append_snoc, length-take-le}
use Rattle.bits.specs.Bits.{bit, is_one, number_of}
use Rattle.bits.proofs.Bits.{bit-is_one, number_of-append}
use Rattle.payload.specs.Open.{bytes_of, message_of}
use Rattle.payload.specs.Calls.{Binary, PartOf}
use Rattle.payload.proofs.Bytes.{field_below, length-bytes_of}

number_of-bit : (b : Bool) → number_of (b ∷ []) ≡ bit b
unfolding number_of
number_of-bit true = refl
number_of-bit false = refl

-- the bits at a place, and one more: the number doubles, and the bit is added
field_more : (bits : List ℕ) (at k : ℕ) → Binary bits → at + k < length bits
    → number_of (take (k + 1) (drop at (map is_one bits))) ≡ number_of (take k (drop at (map is_one bits))) * 2 + get_or bits (at + k) 0
field_more bits at k binary h =
    let inside : k < length (drop at (map is_one bits)) = rw (length-drop, length-map) (omega arith) in
    let last : get_or (drop at (map is_one bits)) k (is_one 0) ≡ is_one (get_or bits (at + k) 0) =
    get_or-drop at (map is_one bits) k (is_one 0) ∙ get_or-map is_one bits (at + k) 0 in
    let carried : bit (is_one (get_or bits (at + k) 0)) ≡ get_or bits (at + k) 0 = bit-is_one (get_or bits (at + k) 0) (binary (at + k) h) in
    rw (add-one k, take-suc (drop at (map is_one bits)) k (is_one 0) inside, last, number_of-append, number_of-bit, carried)

-- the loop that makes a number: that of the bits before bit k of the field
pub record Reading (bits : List ℕ) (at count x k : ℕ) : Type 0 where
  pub number : x ≡ number_of (take k (drop at (map is_one bits)))

pub reading_start : (bits : List ℕ) (at count : ℕ) → Reading bits at count 0 0
unfolding number_of
reading_start bits at count = record { number = refl }

module _ {bits : List ℕ} {at count x k : ℕ} (p : Reading bits at count x k) (part : PartOf bits at count) (inside : k < length (take (at + count - at) (drop at bits))) where
  size : at + count - at ≡ count
  size = omega arith

  before : k < count
  before = rw (size, length-take-le count (drop at bits) (rw length-drop (omega (arith, part.within)))) at inside

  -- there is room for a bit more
  pub reading_below : count ≤ 8 → x < 128
  reading_below byte =
      let long : length (take k (drop at (map is_one bits))) ≡ k =
      length-take-le k (drop at (map is_one bits)) (rw (length-drop, length-map) (omega (arith, part.within, before))) in
      rw p.number (lt_of_lt_of_le (field_below k (take k (drop at (map is_one bits))) long) (pow-le-pow_right {n = 2} (omega arith) {i = k} {j = 7} (omega (arith, before))))

  -- the bit that the loop has in hand
  here : get_or (take (at + count - at) (drop at bits)) k 0 ≡ get_or bits (at + k) 0
  here = rw size (get_or-take count (drop at bits) k 0 before ∙ get_or-drop at bits k 0)

  pub reading_bit : get_or (take (at + count - at) (drop at bits)) k 0 < 2
  reading_bit = rw here (part.binary (at + k) (omega (arith, part.within, before)))

  pub reading_step : Reading bits at count (x * 2 + get_or (take (at + count - at) (drop at bits)) k 0) (k + 1)
  reading_step = record { number = rw (here, p.number) (sym (field_more bits at k part.binary (omega (arith, part.within, before)))) }

-- the loop that takes the bytes of a message

bytes_of_more : (i : ℕ) (bs : List Bool) → bytes_of (i + 1) bs ≡ bytes_of i bs ++ (number_of (take 8 (drop (8 * i) bs)) ∷ [])
unfolding bytes_of
bytes_of_more zero bs = refl
bytes_of_more (suc i) bs =
    let next : suc i + 1 ≡ suc (i + 1) = omega arith in
    let place : 8 * suc i ≡ 8 + 8 * i = omega arith in
    rw (next, place, ← drop-drop (8 * i) 8 bs)
    (ap (λ (l : List ℕ). number_of (take 8 bs) ∷ l) (bytes_of_more i (drop 8 bs)))

-- before byte i: the bytes before it are written
pub record Taking (bits old message : List ℕ) (l i : ℕ) : Type 0 where
  pub within : i ≤ l
  pub room : l ≤ length old
  pub sized : length message ≡ length old
  pub written : message ≡ message_of i (map is_one bits) ++ drop i old

pub taking_start : (bits old : List ℕ) (l : ℕ) → l ≤ length old → Taking bits old old l 0
unfolding bytes_of
taking_start bits old l room = record { within = omega arith; room = room; sized = refl; written = refl }

pub taking_step : {bits old message : List ℕ} {l i x : ℕ} → Taking bits old message l i → i < l
    → x ≡ number_of (take 8 (drop (24 + 8 * i) (map is_one bits))) → Taking bits old (set message i x) l (i + 1)
taking_step {bits} {old} {message} {l} {i} {x} p h e =
    let before : List ℕ = message_of i (map is_one bits) in
    let rest : List ℕ = drop (suc i) old in
    let inside : i < length old = omega (arith, p.room) in
    let byte : number_of (take 8 (drop (8 * i) (drop 24 (map is_one bits)))) ≡ x =
    ap (λ (l : List Bool). number_of (take 8 l)) (drop-drop (8 * i) 24 (map is_one bits)) ∙ sym e in
    record {
      within = omega arith;
      room = p.room;
      sized = length-set message i x ∙ p.sized;
      written =
          ap (λ (l : List ℕ). set l i x) (p.written ∙ ap (λ (l : List ℕ). before ++ l) (drop-cons old i 0 inside))
          ∙ set_at before (get_or old i 0) rest x i (length-bytes_of i (drop 24 (map is_one bits)))
          ∙ sym (append_snoc before x rest)
          ∙ rw (bytes_of_more i (drop 24 (map is_one bits)), byte, add-one i);
    }

pub taking_end : {bits old message : List ℕ} {l i : ℕ} → Taking bits old message l i → l ≤ i
    → message ≡ message_of l (map is_one bits) ++ drop l old
taking_end {l = l} {i = i} p h =
    let e : i ≡ l = omega (arith, p.within) in
    rw e at p.written
