-- The three parts of a capture stored one after another, and what reading takes out of it.
-- Assumes nothing.
use mathlib.Core.Bool.{true}
use mathlib.Core.List.{List, [], ◌∷◌, ◌++◌}
use mathlib.Core.Path.{◌≡◌, sym, ap, ◌∙◌}
use Prim.Native.Nat.{ℕ, ◌+◌, ◌*◌, ◌-◌, ◌/◌, ◌≤◌}
use native.Mathlib.Omega.{arith}
use borrow.Author.Tests.{eq-eqb}
use lib.Dec.{eqb}
use lib.ListN.{length, take, drop, length-drop}
use Rattle.std.specs.Prelude.{Ok}
use Rattle.interleave.specs.declared.frames.Heard.{Heard}
use Rattle.capture.specs.Capture.{field, packets, capture_of, capture_size}
use Rattle.capture.specs.Reading.{told_in, values_from, values_in, read_refusal, Reads}
use Rattle.buffers.specs.Buffers.{Appends}
use Rattle.capture.specs.Parts.{FieldFits, Writable}
use Rattle.buffers.proofs.Appending.{appends_then, appends_length, appends_front}
use Rattle.capture.proofs.Packets.{length-field, length-capture_of}
use Rattle.capture.proofs.Heads.{fields_part}
use Rattle.capture.proofs.Whole.{whole_size, length-marks_in}
use Rattle.capture.proofs.ReadRefusals.{ReadTaken, read_taken, marks_part}

-- what was heard can be written where there is room
pub writable_heard : (h : Heard) {room : ℕ} → capture_size h.l ≤ room → Writable h.l h.marks.now h.values.now room
writable_heard h r = record { told = record { low = h.low; high = h.high }; marked = h.marked; valued = h.valued; roomy = r }

module _ {l : ℕ} {marks values out : List ℕ} (p : Writable l marks values (length out)) where
  pub length_fits : FieldFits (l ∷ []) out 0
  length_fits = record { two_bytes = omega arith; room = omega (arith, p.roomy) }

  module _ {first : List ℕ} {second : ℕ} (q : Appends out 0 (field 1 (l ∷ [])) first second) where
    pub marks_fit : FieldFits marks first second
    marks_fit = record { two_bytes = omega (arith, p.marked, p.told.high); room = omega (arith, p.roomy, p.marked, q.ends, length-field 1 (l ∷ []), appends_length q) }

    module _ {next : List ℕ} {third : ℕ} (r : Appends first second (field 2 marks) next third) where
      count : length values / 24 ≡ l + 4
      count = omega (arith, p.valued)

      pub packets_fit : third + 27 * (length values / 24) ≤ length next
      packets_fit = omega (arith, count, p.roomy, p.marked, q.ends, r.ends, length-field 1 (l ∷ []), length-field 2 marks, appends_length q, appends_length r)

      pub capture_stored : {last : List ℕ} {end : ℕ} → Appends next third (packets (length values / 24) values) last end → last ≡ capture_of l marks values ++ drop (capture_size l) out
      unfolding capture_of
      capture_stored t =
          appends_front (capture_size l) (appends_then q (appends_then r (rw count at t))) (length-capture_of l marks values p.marked p.valued) p.roomy

-- nothing is refused, and the value of the first field is l
module _ (c marks values : List ℕ) (l : ℕ) (z : read_refusal c (length marks) (length values) ≡ 0) (e : l ≡ told_in c) where
  taken : ReadTaken c (length marks) (length values)
  taken = read_taken c (length marks) (length values) z

  pub taken_size : length c ≡ capture_size l
  taken_size = whole_size (told_in c) c taken.form ∙ ap capture_size (sym e)

  part_size : length (take (11 + l - 7) (drop 7 c)) ≡ l + 4
  part_size = ap length (marks_part l c) ∙ length-marks_in l c taken_size

  pub marks_fit_in : 0 + length (take (11 + l - 7) (drop 7 c)) ≤ length marks
  marks_fit_in = omega (arith, part_size, taken.marks_room)

  -- what follows the marks has so many fields
  fields_in : length (take (119 + 28 * l - (11 + l)) (drop (11 + l) c)) / 27 ≡ l + 4
  fields_in = omega (arith, ap length (fields_part l c taken_size), length-drop (11 + l) c, taken_size)

  pub values_fit_in : 24 * (length (take (119 + 28 * l - (11 + l)) (drop (11 + l) c)) / 27) ≤ length values
  values_fit_in = omega (arith, fields_in, taken.values_room)

  pub reads_done :
      {marks' values' : List ℕ} {next : ℕ} → Appends marks 0 (take (11 + l - 7) (drop 7 c)) marks' next
      → values'
      ≡ values_from (length (take (119 + 28 * l - (11 + l)) (drop (11 + l) c)) / 27) (take (119 + 28 * l - (11 + l)) (drop (11 + l) c))
      ++ drop (24 * (length (take (119 + 28 * l - (11 + l)) (drop (11 + l) c)) / 27)) values
      → Reads c marks values marks' values' (Ok l)
  unfolding values_in
  reads_done p q =
      let test : eqb (read_refusal c (length marks) (length values)) 0 ≡ true = eq-eqb (read_refusal c (length marks) (length values)) 0 z in
      let place : 11 + l ≡ 7 + (l + 4) = omega arith in
      record {
        refusal = sym z;
        told = e ∙ rw test;
        marks_bytes = appends_front (l + 4) p part_size (omega (arith, taken.marks_room)) ∙ rw (test, ← e) (ap (λ (x : List ℕ). x ++ drop (l + 4) marks) (marks_part l c));
        values_bytes = q ∙ rw fields_in (rw (test, ← e) (ap (λ (x : List ℕ). values_from (l + 4) x ++ drop (24 * (l + 4)) values) (fields_part l c taken_size ∙ ap (λ (n : ℕ). drop n c) place)));
      }
