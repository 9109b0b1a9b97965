-- Fields of tag 03, one more at the end, and the values behind their heads: what is written from values gives the values back.
-- Assumes nothing.
use mathlib.Core.List.{List, [], ◌∷◌, ◌++◌, append_assoc, append-nil}
use mathlib.Core.Path.{◌≡◌, refl, sym}
use Prim.Native.Nat.{ℕ, zero, suc, ◌+◌, ◌*◌, ◌≤◌}
use native.Mathlib.Omega.{arith}
use lib.ListN.{length, take, drop, length-append, length-drop, take-append-drop}
use lib.Seq.{take_at, drop_at, length-take-le, drop-drop}
use Rattle.capture.specs.Capture.{field, packets, capture_of, capture_size}
use Rattle.capture.specs.Reading.{values_from}

pub length-field : (tag : ℕ) (value : List ℕ) → length (field tag value) ≡ 3 + length value
unfolding field
length-field tag value = omega arith

-- one field more, at the end
pub packets_more : (k : ℕ) (values : List ℕ) → packets (k + 1) values ≡ packets k values ++ field 3 (take 24 (drop (24 * k) values))
unfolding packets
packets_more zero values = append-nil (field 3 (take 24 values))
packets_more (suc k) values =
    let e : suc k + 1 ≡ suc (k + 1) = omega arith in
    let f : 24 + 24 * k ≡ 24 * suc k = omega arith in
    rw (e, packets_more k (drop 24 values), drop-drop (24 * k) 24 values, f) (sym (append_assoc (field 3 (take 24 values)) (packets k (drop 24 values)) (field 3 (take 24 (drop (24 * suc k) values)))))

-- the values of one field more
pub values_from_more : (k : ℕ) (c : List ℕ) → values_from (k + 1) c ≡ values_from k c ++ take 24 (drop (27 * k + 3) c)
unfolding values_from
values_from_more zero c = append-nil (take 24 (drop 3 c))
values_from_more (suc k) c =
    let e : suc k + 1 ≡ suc (k + 1) = omega arith in
    let f : 27 + (27 * k + 3) ≡ 27 * suc k + 3 = omega arith in
    rw (e, values_from_more k (drop 27 c), drop-drop (27 * k + 3) 27 c, f) (sym (append_assoc (take 24 (drop 3 c)) (values_from k (drop 27 c)) (take 24 (drop (27 * suc k + 3) c))))

pub length-packets : (k : ℕ) (values : List ℕ) → 24 * k ≤ length values → length (packets k values) ≡ 27 * k
unfolding packets
length-packets zero values h = refl
length-packets (suc k) values h =
    omega (
      arith,
      length-append (field 3 (take 24 values)) (packets k (drop 24 values)),
      length-field 3 (take 24 values),
      length-take-le 24 values (omega arith),
      length-packets k (drop 24 values) (omega (arith, length-drop 24 values)),
    )

pub length-values_from : (k : ℕ) (c : List ℕ) → 27 * k ≤ length c → length (values_from k c) ≡ 24 * k
unfolding values_from
length-values_from zero c h = refl
length-values_from (suc k) c h =
    omega (
      arith,
      length-append (take 24 (drop 3 c)) (values_from k (drop 27 c)),
      length-take-le 24 (drop 3 c) (omega (arith, length-drop 3 c)),
      length-values_from k (drop 27 c) (omega (arith, length-drop 27 c)),
    )

-- fields written from values give the values
pub values_from-packets : (k : ℕ) (values : List ℕ) → length values ≡ 24 * k → values_from k (packets k values) ≡ values
unfolding packets values_from field
values_from-packets zero [] h = refl
values_from-packets zero (v ∷ vs) h = absurd (omega arith)
values_from-packets (suc k) values h =
    let one : List ℕ = take 24 values in
    let size : length one ≡ 24 = length-take-le 24 values (omega arith) in
    let rest : List ℕ = packets k (drop 24 values) in
    let front : take 24 (one ++ rest) ≡ one = take_at one rest 24 size in
    let back : drop 24 (one ++ rest) ≡ rest = drop_at one rest 24 size in
    rw (front, back, values_from-packets k (drop 24 values) (omega (arith, length-drop 24 values))) (take-append-drop 24 values)

pub length-capture_of : (l : ℕ) (marks values : List ℕ) → length marks ≡ l + 4 → length values ≡ 24 * (l + 4) → length (capture_of l marks values) ≡ capture_size l
unfolding capture_of
length-capture_of l marks values m v =
    omega (
      arith,
      length-append (field 1 (l ∷ [])) (field 2 marks ++ packets (l + 4) values),
      length-append (field 2 marks) (packets (l + 4) values),
      length-field 1 (l ∷ []),
      length-field 2 marks,
      length-packets (l + 4) values (omega arith),
    )
