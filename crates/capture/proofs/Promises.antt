-- The promises of document 01: no second answer or buffer meets a contract, and the two round trips.
-- Assumes nothing.
use mathlib.Core.Bool.{Bool, true, cond}
use mathlib.Core.List.{List, [], ◌∷◌, ◌++◌}
use mathlib.Core.Path.{◌≡◌, refl, sym, ap, ◌∙◌}
use Prim.Native.Nat.{ℕ, ◌+◌, ◌*◌, ◌≤◌}
use native.Mathlib.Omega.{arith}
use borrow.Author.Tests.{eq-eqb, le-leb}
use lib.Dec.{eqb}
use lib.ListN.{length, take, drop}
use lib.Seq.{take_at}
use Rattle.uplink.specs.Recover.{marks_good}
use Rattle.capture.specs.Capture.{field, packets, capture_of, capture_size}
use Rattle.capture.specs.Answers.{Written, Read, written_refusal, read_refusal_of, read_length}
use Rattle.capture.specs.Writing.{write_refusal, Writes}
use Rattle.capture.specs.Reading.{same_bytes, first_field, told_in, marks_in, values_from, values_in, whole, read_refusal, Reads}
use Rattle.capture.specs.Parts.{Writable, Opening}
use Rattle.capture.specs.Promises.{NoSecond, RoundTrips}
use Rattle.capture.proofs.Packets as laws
use Rattle.capture.proofs.Whole.{whole_size, whole_bytes, bytes_whole, rest_capture_of, length-marks_in, length-values_in}
use Rattle.capture.proofs.Refusals.{write_taken, write_taken-marks, write_roomy}
use Rattle.capture.proofs.ReadRefusals.{ReadTaken, read_taken, read_done}
use Rattle.capture.proofs.Unique as unique
use Rattle.capture.proofs.Unique.{read_length_lem}

pub no_second : NoSecond
no_second = unique.no_second

pub length-capture_of : (l : ℕ) (marks values : List ℕ) → length marks ≡ l + 4 → length values ≡ 24 * (l + 4) → length (capture_of l marks values) ≡ capture_size l
length-capture_of = laws.length-capture_of

-- what stands in a capture that was written
module _ (l : ℕ) (marks values : List ℕ) {room : ℕ} (w : Writable l marks values room) where
  size_capture_of : length (capture_of l marks values) ≡ capture_size l
  size_capture_of = length-capture_of l marks values w.marked w.valued

  marks_in-capture_of : marks_in l (capture_of l marks values) ≡ marks
  unfolding marks_in capture_of field
  marks_in-capture_of = take_at marks (packets (l + 4) values) (l + 4) w.marked

  values_in-capture_of : values_in l (capture_of l marks values) ≡ values
  unfolding values_in
  values_in-capture_of = ap (values_from (l + 4)) (rest_capture_of l marks values w.marked) ∙ laws.values_from-packets (l + 4) values w.valued

  head_capture_of : same_bytes (take 3 (capture_of l marks values)) (1 ∷ 0 ∷ 1 ∷ []) ≡ true
  unfolding capture_of field same_bytes
  head_capture_of = refl

  first_field-capture_of : first_field (capture_of l marks values) ≡ true
  unfolding first_field
  first_field-capture_of = rw (le-leb 4 (length (capture_of l marks values)) (omega (arith, size_capture_of))) head_capture_of

  told_in-capture_of : told_in (capture_of l marks values) ≡ l
  unfolding capture_of field
  told_in-capture_of = refl

  opening_capture_of : Opening l (capture_of l marks values)
  opening_capture_of = record { told = w.told; first = first_field-capture_of; value = told_in-capture_of }

  whole-capture_of : whole l (capture_of l marks values) ≡ true
  whole-capture_of = bytes_whole l (capture_of l marks values) size_capture_of (sym (ap (λ (x : List ℕ). capture_of l x (values_in l (capture_of l marks values))) marks_in-capture_of ∙ ap (capture_of l marks) values_in-capture_of))

  module _ (good : marks_good marks ≡ true) {room₁ room₂ marks' values' : List ℕ} {answer : Read} (r₁ : l + 4 ≤ length room₁) (r₂ : 24 * (l + 4) ≤ length room₂)
      (q : Reads (capture_of l marks values) room₁ room₂ marks' values' answer) where
    taken : read_refusal (capture_of l marks values) (length room₁) (length room₂) ≡ 0
    taken = read_done opening_capture_of (length room₁) (length room₂) whole-capture_of (ap marks_good marks_in-capture_of ∙ good) r₁ r₂

    test : eqb (read_refusal (capture_of l marks values) (length room₁) (length room₂)) 0 ≡ true
    test = eq-eqb (read_refusal (capture_of l marks values) (length room₁) (length room₂)) 0 taken

    marks_back : marks' ≡ marks ++ drop (l + 4) room₁
    marks_back = q.marks_bytes ∙ rw (test, told_in-capture_of, marks_in-capture_of)

    values_back : values' ≡ values ++ drop (24 * (l + 4)) room₂
    values_back = q.values_bytes ∙ rw (test, told_in-capture_of, values_in-capture_of)

    -- a capture that was written, read
    capture_read : (read_refusal_of answer ≡ 0) × (read_length answer ≡ l) × (take (l + 4) marks' ≡ marks) × (take (24 * (l + 4)) values' ≡ values)
    capture_read = (
      q.refusal ∙ taken,
      read_length_lem q (q.refusal ∙ taken) ∙ told_in-capture_of,
      ap (take (l + 4)) marks_back ∙ take_at marks (drop (l + 4) room₁) (l + 4) w.marked,
      ap (take (24 * (l + 4))) values_back ∙ take_at values (drop (24 * (l + 4)) room₂) (24 * (l + 4)) w.valued,
    )

-- the bytes that writing left
stored : {l : ℕ} {marks values before after : List ℕ} {written : Written} → Writes l marks values before after written → write_refusal l marks values (length before) ≡ 0 → after ≡ capture_of l marks values ++ drop (capture_size l) before
stored {l} {marks} {values} {before} p z =
    p.bytes ∙ ap (λ (t : Bool). cond t (capture_of l marks values ++ drop (capture_size l) before) before) (eq-eqb (write_refusal l marks values (length before)) 0 z)

written_front : {l : ℕ} {marks values before after : List ℕ} {written : Written} → Writes l marks values before after written → write_refusal l marks values (length before) ≡ 0 → take (capture_size l) after ≡ capture_of l marks values
written_front {l} {marks} {values} {before} p z =
    let w : Writable l marks values (length before) = write_taken l marks values (length before) z in
    ap (take (capture_size l)) (stored p z) ∙ take_at (capture_of l marks values) (drop (capture_size l) before) (capture_size l) (size_capture_of l marks values w)

read_written :
    {l : ℕ} {marks values before after : List ℕ} {written : Written} {room₁ room₂ marks' values' : List ℕ} {answer : Read}
    → Writes l marks values before after written → written_refusal written ≡ 0
    → l + 4 ≤ length room₁ → 24 * (l + 4) ≤ length room₂
    → Reads (take (capture_size l) after) room₁ room₂ marks' values' answer
    → (read_refusal_of answer ≡ 0) × (read_length answer ≡ l) × (take (l + 4) marks' ≡ marks) × (take (24 * (l + 4)) values' ≡ values)
read_written {l} {marks} {values} {before} p z r₁ r₂ q =
    let e : write_refusal l marks values (length before) ≡ 0 = sym p.refusal ∙ z in
    capture_read l marks values (write_taken l marks values (length before) e) (write_taken-marks l marks values (length before) e) r₁ r₂ (rw (written_front p e) at q)

-- what was read, written
module _ {c : List ℕ} {n₁ n₂ : ℕ} (t : ReadTaken c n₁ n₂) where
  size_read : length c ≡ capture_size (told_in c)
  size_read = whole_size (told_in c) c t.form

  capture_written :
      {l : ℕ} {marks values before after : List ℕ} {written : Written} → l ≡ told_in c → marks ≡ marks_in (told_in c) c → values ≡ values_in (told_in c) c → length c ≤ length before
      → Writes l marks values before after written → (written_refusal written ≡ 0) × (take (length c) after ≡ c)
  capture_written {l} {marks} {values} {before} {after} {written} el em ev h q =
      let q' : Writes (told_in c) (marks_in (told_in c) c) (values_in (told_in c) c) before after written = rw (el, em, ev) at q in
      let z : write_refusal (told_in c) (marks_in (told_in c) c) (values_in (told_in c) c) (length before) ≡ 0 =
      write_roomy (told_in c) (marks_in (told_in c) c) (values_in (told_in c) c) (length before) t.told (length-marks_in (told_in c) c size_read) (length-values_in (told_in c) c size_read) (omega (arith, size_read)) ∙ rw t.good in
      (q'.refusal ∙ z, ap (λ (n : ℕ). take n after) size_read ∙ written_front q' z ∙ sym (whole_bytes (told_in c) c t.form))

write_read :
    {c room₁ room₂ marks values before after : List ℕ} {answer : Read} {written : Written}
    → Reads c room₁ room₂ marks values answer → read_refusal_of answer ≡ 0
    → length c ≤ length before
    → Writes (read_length answer) (take (read_length answer + 4) marks) (take (24 * (read_length answer + 4)) values) before after written
    → (written_refusal written ≡ 0) × (take (length c) after ≡ c)
write_read {c} {room₁} {room₂} {marks} {values} {answer = answer} p z h q =
    let e : read_refusal c (length room₁) (length room₂) ≡ 0 = sym p.refusal ∙ z in
    let test : eqb (read_refusal c (length room₁) (length room₂)) 0 ≡ true = eq-eqb (read_refusal c (length room₁) (length room₂)) 0 e in
    let t : ReadTaken c (length room₁) (length room₂) = read_taken c (length room₁) (length room₂) e in
    let told : read_length answer ≡ told_in c = read_length_lem p z in
    let m : take (read_length answer + 4) marks ≡ marks_in (told_in c) c =
    ap (λ (n : ℕ). take (n + 4) marks) told ∙ ap (take (told_in c + 4)) (p.marks_bytes ∙ rw test) ∙ take_at (marks_in (told_in c) c) (drop (told_in c + 4) room₁) (told_in c + 4) (length-marks_in (told_in c) c (size_read t)) in
    let v : take (24 * (read_length answer + 4)) values ≡ values_in (told_in c) c =
    ap (λ (n : ℕ). take (24 * (n + 4)) values) told ∙ ap (take (24 * (told_in c + 4))) (p.values_bytes ∙ rw test) ∙ take_at (values_in (told_in c) c) (drop (24 * (told_in c + 4)) room₂) (24 * (told_in c + 4)) (length-values_in (told_in c) c (size_read t)) in
    capture_written t told m v h q

pub round_trips : RoundTrips
round_trips = record { read_written = λ p z r₁ r₂ q. read_written p z r₁ r₂ q; write_read = λ p z h q. write_read p z h q }
