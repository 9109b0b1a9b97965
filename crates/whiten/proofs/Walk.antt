-- The walk that whitens a run of bytes where it lies: what holds at its start, after a byte more, after a part more, and at its
-- end. Assumes nothing.
use mathlib.Core.Bool.{xor}
use mathlib.Core.List.{List, [], ◌∷◌, ◌++◌, map, map-append, append_assoc, append-nil}
use mathlib.Core.Path.{◌≡◌, refl, ap, sym, ◌∙◌}
use Prim.Native.Nat.{ℕ, suc, ◌+◌, ◌-◌, ◌%◌, ◌<◌, ◌≤◌}
use native.Mathlib.Nat.{le_trans}
use native.Mathlib.Numerals.{add-one}
use native.Mathlib.Omega.{arith}
use lib.ListN.{length, get_or, take, drop, set, length-set, length-map, length-append, length-drop, take-append-drop, drop_of_length-le}
use lib.Seq.{take-suc-set, drop-set-lt, drop-cons, take_all, append_snoc, take_at, drop_at, length-take-le}
use Rattle.bits.specs.Bits.{bit, is_one}
use Rattle.bits.proofs.Bits.{is_one-bit}
use Rattle.whiten.specs.Whiten.{before, white, whitened, whitened_from}
use Rattle.whiten.proofs.Entries.{after, entry}
use Rattle.whiten.proofs.Whiten.{length-whitened_from, whitened_from-append, whitened_from_same_place}

-- bytes that meet w(k), w(k+1), ..
white_bytes : ℕ → List ℕ → List ℕ
white_bytes k v = map bit (whitened_from k (map is_one v))

length_white_bytes : (k : ℕ) (v : List ℕ) → length (white_bytes k v) ≡ length v
unfolding white_bytes
length_white_bytes k v = rw (length-map, length-whitened_from, length-map)

white_bytes_append : (k : ℕ) (u v : List ℕ) → white_bytes k (u ++ v) ≡ white_bytes k u ++ white_bytes (k + length u) v
unfolding white_bytes
white_bytes_append k u v = rw (map-append, whitened_from-append, map-append, length-map)

-- the bytes before place i as they are, and the others whitened: the walk does not change it
pub whole : ℕ → List ℕ → List ℕ
whole i v = take i v ++ white_bytes i (drop i v)

-- at byte i: the bytes before it are whitened
pub record Walk (old v : List ℕ) (i : ℕ) : Type 0 where
  pub within : i ≤ length v
  pub sized : length v ≡ length old
  pub same : whole i v ≡ whole 0 old

pub walk_start : (old : List ℕ) → Walk old old 0
walk_start old = record { within = omega arith; sized = refl; same = refl }

pub walk_end : {old v : List ℕ} {i : ℕ} → Walk old v i → length v ≤ i → v ≡ map bit (whitened (map is_one old))
unfolding whole white_bytes whitened_from whitened
walk_end {v = v} {i = i} w h = sym (rw (take_all i v h, drop_of_length-le v h, append-nil) refl) ∙ w.same

-- a byte more

whole_step : (i : ℕ) (v : List ℕ) → i < length v
    → whole (i + 1) (set v i (bit (xor (is_one (get_or v i 0)) (white i)))) ≡ whole i v
unfolding whole white_bytes whitened_from
whole_step i v h =
    let x : ℕ = bit (xor (is_one (get_or v i 0)) (white i)) in
    let front : take (i + 1) (set v i x) ≡ take i v ++ (x ∷ []) = rw add-one (take-suc-set v i x h) in
    let rest : drop (i + 1) (set v i x) ≡ drop (suc i) v = rw add-one (drop-set-lt (suc i) v i x (omega arith)) in
    let here : white_bytes i (drop i v) ≡ x ∷ white_bytes (suc i) (drop (suc i) v) = ap (white_bytes i) (drop-cons v i 0 h) in
    cc (front, rest, here, add-one i, append_snoc (take i v) x (white_bytes (suc i) (drop (suc i) v)))

-- by the table's entry at its place
pub walk_step : {old v : List ℕ} {i x : ℕ} → Walk old v i → i < length v → i < 511
    → x ≡ bit (xor (is_one (get_or v i 0)) (is_one (get_or (after 511 (before 0)) i 0)))
    → Walk old (set v i x) (i + 1)
walk_step {old} {v} {i} {x} w h inside e =
    let place : i ≡ i % 511 = omega arith in
    let met : x ≡ bit (xor (is_one (get_or v i 0)) (white i)) = e ∙ rw (entry i place, is_one-bit) in
    record {
      within = rw length-set (omega arith);
      sized = rw length-set w.sized;
      same = ap (λ (y : ℕ). whole (i + 1) (set v i y)) met ∙ whole_step i v h ∙ w.same;
    }

-- a part more

module _ (v ys : List ℕ) (a e : ℕ) (low : a ≤ e) (high : e ≤ length v) (met : ys ≡ white_bytes a (take (e - a) (drop a v))) where
  length_part : length (take (e - a) (drop a v)) ≡ e - a
  length_part = length-take-le (e - a) (drop a v) (rw length-drop (omega arith))

  length_front : length (take a v ++ ys) ≡ e
  length_front =
      rw (met, length-append, length_white_bytes, length_part, length-take-le a v (le_trans low high)) (omega arith)

  length_parts : length (take a v ++ (ys ++ drop (e - a) (drop a v))) ≡ length v
  length_parts = rw (← append_assoc, length-append, length_front, length-drop, length-drop) (omega arith)

  white_bytes_parts : white_bytes a (drop a v) ≡ ys ++ white_bytes e (drop (e - a) (drop a v))
  white_bytes_parts =
      let end : a + length (take (e - a) (drop a v)) ≡ e = omega (arith, length_part) in
      ap (white_bytes a) (sym (take-append-drop (e - a) (drop a v)))
      ∙ white_bytes_append a (take (e - a) (drop a v)) (drop (e - a) (drop a v))
      ∙ cc (met, end)

  whole_part : whole e (take a v ++ (ys ++ drop (e - a) (drop a v))) ≡ whole a v
  unfolding whole
  whole_part =
      let rest : List ℕ = drop (e - a) (drop a v) in
      rw (
        ← append_assoc (take a v) ys rest,
        take_at (take a v ++ ys) rest e length_front,
        drop_at (take a v ++ ys) rest e length_front,
        white_bytes_parts,
        append_assoc,
      )

-- at the start of a period, by a part that is whitened from its own start
pub walk_part : {old v ys : List ℕ} {a : ℕ} (e : ℕ) → Walk old v a → a % 511 ≡ 0 → a ≤ e → e ≤ length v
    → ys ≡ map bit (whitened (map is_one (take (e - a) (drop a v))))
    → Walk old (take a v ++ (ys ++ drop (e - a) (drop a v))) e
unfolding white_bytes whitened
walk_part {old} {v} {ys} {a} e w start low high met =
    let part : List ℕ = take (e - a) (drop a v) in
    let met-there : ys ≡ white_bytes a part =
    met ∙ ap (map bit) (whitened_from_same_place 0 a (sym start) (map is_one part)) in
    let long : length (take a v ++ (ys ++ drop (e - a) (drop a v))) ≡ length v = length_parts v ys a e low high met-there in
    record {
      within = rw long high;
      sized = long ∙ w.sized;
      same = whole_part v ys a e low high met-there ∙ w.same;
    }
