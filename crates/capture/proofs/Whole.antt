-- The form of a capture: it is whole where its size and every head are right, and only there.
-- Assumes nothing.
use mathlib.Core.Bool.{Bool, true, false, ◌&&◌}
use mathlib.Core.List.{List, [], ◌∷◌, ◌++◌, append_assoc}
use mathlib.Core.Path.{◌≡◌, refl, sym, ap, ◌∙◌}
use Prim.Native.Nat.{ℕ, zero, suc, ◌+◌, ◌*◌, ◌≤◌}
use native.Mathlib.Decide.{ℕ_discrete}
use native.Mathlib.Omega.{arith}
use borrow.Author.Tests.{eq-eqb, ne_eqb, eqb-true}
use lib.Dec.{eqb, leb}
use lib.ListN.{length, get_or, take, drop, length-drop, take-append-drop}
use lib.Seq.{take_at, drop_at, take-suc, length-take-le, drop-drop}
use Rattle.capture.specs.Capture.{field, packets, capture_of, capture_size}
use Rattle.capture.specs.Reading.{same_bytes, first_field, told_in, marks_in, values_from, values_in, whole}
use Rattle.capture.specs.Parts.{head_of, heads, Opening}
use Rattle.capture.proofs.Packets.{length-values_from}
use Rattle.capture.proofs.Heads.{and_left, and_right, same_itself, same_equal}

-- fields of tag 03 have their heads
pub heads-packets : (k : ℕ) (values : List ℕ) → 24 * k ≤ length values → heads k (packets k values) ≡ true
unfolding heads packets field same_bytes
heads-packets zero values h = refl
heads-packets (suc k) values h =
    let one : List ℕ = take 24 values in
    let size : length one ≡ 24 = length-take-le 24 values (omega arith) in
    let back : drop 24 (one ++ packets k (drop 24 values)) ≡ packets k (drop 24 values) = drop_at one (packets k (drop 24 values)) 24 size in
    rw (size, back) (heads-packets k (drop 24 values) (omega (arith, length-drop 24 values)))

-- and what has such heads is such fields, of the values in it
pub heads_bytes : (k : ℕ) (c : List ℕ) → length c ≡ 27 * k → heads k c ≡ true → c ≡ packets k (values_from k c)
unfolding heads packets values_from field
heads_bytes zero [] h e = refl
heads_bytes zero (x ∷ c) h e = absurd (omega arith)
heads_bytes (suc k) c h e =
    let one : List ℕ = take 24 (drop 3 c) in
    let more : List ℕ = values_from k (drop 27 c) in
    let size : length one ≡ 24 = length-take-le 24 (drop 3 c) (omega (arith, length-drop 3 c)) in
    let front : take 24 (one ++ more) ≡ one = take_at one more 24 size in
    let back : drop 24 (one ++ more) ≡ more = drop_at one more 24 size in
    let head : take 3 c ≡ head_of 3 24 = same_equal (take 3 c) (head_of 3 24) (and_left _ _ e) in
    let rest : drop 27 c ≡ packets k more = heads_bytes k (drop 27 c) (omega (arith, length-drop 27 c)) (and_right (same_bytes (take 3 c) (head_of 3 24)) (heads k (drop 27 c)) e) in
    let tail : drop 24 (drop 3 c) ≡ packets k more = drop-drop 24 3 c ∙ rest in
    sym (take-append-drop 3 c)
    ∙ ap (λ (x : List ℕ). x ++ drop 3 c) head
    ∙ ap (λ (x : List ℕ). head_of 3 24 ++ x) (sym (take-append-drop 24 (drop 3 c)) ∙ ap (λ (x : List ℕ). one ++ x) tail)
    ∙ rw (front, back, size)

-- what follows the marks in a capture
pub rest_capture_of : (l : ℕ) (marks values : List ℕ) → length marks ≡ l + 4 → drop (7 + (l + 4)) (capture_of l marks values) ≡ packets (l + 4) values
unfolding capture_of field
rest_capture_of l marks values h = sym (drop-drop (l + 4) 7 (capture_of l marks values)) ∙ drop_at marks (packets (l + 4) values) (l + 4) h

module _ (l : ℕ) (c : List ℕ) where
  pub whole_size : whole l c ≡ true → length c ≡ capture_size l
  unfolding whole
  whole_size w = eqb-true (length c) (capture_size l) (and_left _ _ w)

  pub whole_bytes : whole l c ≡ true → c ≡ capture_of l (marks_in l c) (values_in l c)
  unfolding whole
  whole_bytes w = same_equal c (capture_of l (marks_in l c) (values_in l c)) (and_right (eqb (length c) (capture_size l)) _ w)

  pub bytes_whole : length c ≡ capture_size l → c ≡ capture_of l (marks_in l c) (values_in l c) → whole l c ≡ true
  unfolding whole
  bytes_whole s e = rw (eq-eqb (length c) (capture_size l) s) (ap (same_bytes c) (sym e) ∙ same_itself c)

  pub whole_wrong_size : (length c ≡ capture_size l → ⊥) → whole l c ≡ false
  unfolding whole
  whole_wrong_size n = rw (ne_eqb (length c) (capture_size l) n)

  module _ (s : length c ≡ capture_size l) where
    pub length-marks_in : length (marks_in l c) ≡ l + 4
    unfolding marks_in
    length-marks_in = length-take-le (l + 4) (drop 7 c) (omega (arith, length-drop 7 c))

    -- the head of the marks in a whole capture
    pub whole_head : whole l c ≡ true → same_bytes (take 3 (drop 4 c)) (head_of 2 (l + 4)) ≡ true
    unfolding capture_of field
    whole_head w =
        let e : take 3 (drop 4 c) ≡ head_of 2 (l + 4) = ap (λ (x : List ℕ). take 3 (drop 4 x)) (whole_bytes w) ∙ ap (λ (n : ℕ). head_of 2 n) length-marks_in in
        rw e (same_itself (head_of 2 (l + 4)))

    length_rest : length (drop (7 + (l + 4)) c) ≡ 27 * (l + 4)
    length_rest = omega (arith, length-drop (7 + (l + 4)) c)

    pub length-values_in : length (values_in l c) ≡ 24 * (l + 4)
    unfolding values_in
    length-values_in = length-values_from (l + 4) (drop (7 + (l + 4)) c) (omega (arith, length_rest))

    -- the fields after them
    pub whole_rest : whole l c ≡ true → heads (l + 4) (drop (7 + (l + 4)) c) ≡ true
    whole_rest w =
        let e : drop (7 + (l + 4)) c ≡ packets (l + 4) (values_in l c) = ap (drop (7 + (l + 4))) (whole_bytes w) ∙ rest_capture_of l (marks_in l c) (values_in l c) length-marks_in in
        ap (heads (l + 4)) e ∙ heads-packets (l + 4) (values_in l c) (omega (arith, length-values_in))

    module _ (f : first_field c ≡ true) (t : told_in c ≡ l) (m : same_bytes (take 3 (drop 4 c)) (head_of 2 (l + 4)) ≡ true) where
      first_four : take 4 c ≡ field 1 (l ∷ [])
      unfolding field first_field
      first_four = take-suc c 3 0 (omega arith) ∙ ap (λ (x : List ℕ). x ++ (get_or c 3 0 ∷ [])) (same_equal (take 3 c) (1 ∷ 0 ∷ 1 ∷ []) (and_right (leb 4 (length c)) _ f)) ∙ ap (λ (n : ℕ). 1 ∷ 0 ∷ 1 ∷ n ∷ []) t

      second_field : take 3 (drop 4 c) ++ marks_in l c ≡ field 2 (marks_in l c)
      unfolding field
      second_field = ap (λ (x : List ℕ). x ++ marks_in l c) (same_equal (take 3 (drop 4 c)) (head_of 2 (l + 4)) m) ∙ ap (λ (n : ℕ). head_of 2 n ++ marks_in l c) (sym length-marks_in)

      heads-capture_of : heads (l + 4) (drop (7 + (l + 4)) c) ≡ true → c ≡ capture_of l (marks_in l c) (values_in l c)
      unfolding capture_of marks_in values_in
      heads-capture_of e =
          let rest : drop (7 + (l + 4)) c ≡ packets (l + 4) (values_from (l + 4) (drop (7 + (l + 4)) c)) = heads_bytes (l + 4) (drop (7 + (l + 4)) c) length_rest e in
          let marks : drop 7 c ≡ take (l + 4) (drop 7 c) ++ packets (l + 4) (values_from (l + 4) (drop (7 + (l + 4)) c)) =
          sym (take-append-drop (l + 4) (drop 7 c)) ∙ ap (λ (x : List ℕ). take (l + 4) (drop 7 c) ++ x) (drop-drop (l + 4) 7 c ∙ rest) in
          sym (take-append-drop 4 c)
          ∙ ap (λ (x : List ℕ). x ++ drop 4 c) first_four
          ∙ ap (λ (x : List ℕ). field 1 (l ∷ []) ++ x)
          (sym (take-append-drop 3 (drop 4 c))
          ∙ ap (λ (x : List ℕ). take 3 (drop 4 c) ++ x) (drop-drop 3 4 c ∙ marks)
          ∙ sym (append_assoc (take 3 (drop 4 c)) (take (l + 4) (drop 7 c)) (packets (l + 4) (values_from (l + 4) (drop (7 + (l + 4)) c))))
          ∙ ap (λ (x : List ℕ). x ++ packets (l + 4) (values_from (l + 4) (drop (7 + (l + 4)) c))) second_field)

      pub heads-whole : heads (l + 4) (drop (7 + (l + 4)) c) ≡ true → whole l c ≡ true
      heads-whole e = bytes_whole s (heads-capture_of e)

-- two tests that hold together are the same
both : (a b : Bool) → (a ≡ true → b ≡ true) → (b ≡ true → a ≡ true) → a ≡ b
both true b p q = sym (p refl)
both false true p q = q refl
both false false p q = refl

fails : (a b : Bool) → (a ≡ true → b ≡ true) → b ≡ false → a ≡ false
fails true b p e = sym (p refl) ∙ e
fails false b p e = refl

module _ {l : ℕ} {c : List ℕ} (o : Opening l c) (s : length c ≡ capture_size l) where
  pub whole_wrong_head : same_bytes (take 3 (drop 4 c)) (head_of 2 (l + 4)) ≡ false → whole l c ≡ false
  whole_wrong_head e = fails _ _ (whole_head l c s) e

  -- where size and first heads are right, the heads of the values decide
  pub whole-heads : same_bytes (take 3 (drop 4 c)) (head_of 2 (l + 4)) ≡ true → whole l c ≡ heads (l + 4) (drop (11 + l) c)
  whole-heads m =
      let e : 7 + (l + 4) ≡ 11 + l = omega arith in
      both _ _ (whole_rest l c s) (heads-whole l c s o.first o.value m) ∙ ap (λ (n : ℕ). heads (l + 4) (drop n c)) e

-- after a right first field: whole where the size, the head of the marks and the heads of the values are right, and only there
pub whole_is : {l : ℕ} {c : List ℕ} → Opening l c → whole l c ≡ (eqb (length c) (capture_size l) && (same_bytes (take 3 (drop 4 c)) (head_of 2 (l + 4)) && heads (l + 4) (drop (11 + l) c)))
whole_is {l} {c} o = size (ℕ_discrete (length c) (capture_size l))
  where
    head : length c ≡ capture_size l → (t : Bool) → same_bytes (take 3 (drop 4 c)) (head_of 2 (l + 4)) ≡ t → whole l c ≡ (same_bytes (take 3 (drop 4 c)) (head_of 2 (l + 4)) && heads (l + 4) (drop (11 + l) c))
    head s true m = whole-heads o s m ∙ rw m
    head s false m = whole_wrong_head o s m ∙ rw m

    size : Dec (length c ≡ capture_size l) → whole l c ≡ (eqb (length c) (capture_size l) && (same_bytes (take 3 (drop 4 c)) (head_of 2 (l + 4)) && heads (l + 4) (drop (11 + l) c)))
    size (yes s) = head s (same_bytes (take 3 (drop 4 c)) (head_of 2 (l + 4))) refl ∙ rw (eq-eqb (length c) (capture_size l) s)
    size (no n) = whole_wrong_size l c n ∙ rw (ne_eqb (length c) (capture_size l) n)
