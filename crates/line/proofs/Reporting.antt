-- The line of what was read and recovered, or of the refusal, is the capture's line. Assumes nothing.
use mathlib.Core.Bool.{Bool, true, false, cond, ◌||◌}
use mathlib.Core.List.{List, [], ◌∷◌, ◌++◌}
use mathlib.Core.Path.{◌≡◌, refl, sym, ap, ◌∙◌}
use Prim.Native.Nat.{ℕ, ◌+◌, ◌*◌, ◌≤◌}
use native.Mathlib.Omega.{arith}
use borrow.Author.Tests.{ltb-false, eq-eqb, ne_eqb}
use lib.Dec.{ltb, eqb}
use lib.ListN.{length, take, drop, length-append, length-drop}
use lib.Seq.{take_at}
use Rattle.payload.specs.Open.{message_of, mode_of}
use Rattle.payload.proofs.Bytes.{length-bytes_of}
use Rattle.uplink.specs.Build.{length_wrong}
use Rattle.uplink.specs.Recover.{nearest_cost, opened, recover_refusal, Recovers}
use Rattle.std.specs.Prelude.{Result, Ok, Err, MatchResult}
use Rattle.refusals.specs.declared.Refusal.{Refusal}
use Rattle.refusals.specs.Refusals.{number}
use Rattle.refusals.proofs.Refusals.{number_not_zero}
use Rattle.uplink.specs.declared.Recovered.{Recovered}
use Rattle.capture.specs.Reading.{told_in, marks_in, values_in, read_refusal, first_field, Reads}
use Rattle.line.specs.Line.{ok_line, refused_line, report_refusal, report_line}
use Rattle.line.specs.Parts.{Recounted, refused_head}
use Rattle.line.proofs.Appending.{refused_head_line}

-- a length that is not wrong
pub record Told (l : ℕ) : Type 0 where
  pub low : 20 ≤ l
  pub high : l ≤ 255

-- a test is not both
true_not_false : true ≡ false → ⊥
true_not_false e =
    let z : ◌≡◌ {A = ℕ} 1 0 = ap (λ (t : Bool). cond t 1 0) e in
    omega arith

both_false : (s t : Bool) → (s || t) ≡ false → (s ≡ false) × (t ≡ false)
both_false true t e = absurd (true_not_false e)
both_false false true e = absurd (true_not_false e)
both_false false false e = (refl, refl)

told_of : (l : ℕ) → length_wrong l ≡ false → Told l
told_of l e =
    let each = both_false (ltb l 20) (ltb 255 l) e in
    record { low = ltb-false l 20 each.0; high = ltb-false 255 l each.1 }

-- a refusal that begins with 1 is 0 only where its test is false
first_false : (t : Bool) (n : ℕ) → cond t 1 n ≡ 0 → t ≡ false
first_false true n e = absurd (omega arith)
first_false false n e = refl

-- one that begins with 10 and then 1, only where the first test is true and the second false
second_false : (s t : Bool) (n : ℕ) → cond s (cond t 1 n) 10 ≡ 0 → t ≡ false
second_false true t n e = first_false t n e
second_false false t n e = absurd (omega arith)

recover_told : (l : ℕ) (marks values : List ℕ) (room : ℕ) → recover_refusal l marks values room ≡ 0 → Told l
unfolding recover_refusal
recover_told l marks values room e = told_of l (first_false (length_wrong l) _ e)

-- what is refused by reading is refused
refusal_read : (c : List ℕ) → (read_refusal c 259 6216 ≡ 0 → ⊥) → report_refusal c ≡ read_refusal c 259 6216
unfolding report_refusal
refusal_read c d =
    ap (λ (t : Bool). cond t (recover_refusal (told_in c) (marks_in (told_in c) c) (values_in (told_in c) c) 255) (read_refusal c 259 6216)) (ne_eqb _ _ d)

-- and what is read is refused as recovering it is
refusal_recover : (c : List ℕ) → read_refusal c 259 6216 ≡ 0
    → report_refusal c ≡ recover_refusal (told_in c) (marks_in (told_in c) c) (values_in (told_in c) c) 255
unfolding report_refusal
refusal_recover c z =
    ap (λ (t : Bool). cond t (recover_refusal (told_in c) (marks_in (told_in c) c) (values_in (told_in c) c) 255) (read_refusal c 259 6216)) (eq-eqb _ _ z)

-- the line, by whether anything is refused
pub line_done : (c : List ℕ) → report_refusal c ≡ 0
    → report_line c
    ≡ ok_line (told_in c) (mode_of (told_in c) (opened (told_in c) (marks_in (told_in c) c) (values_in (told_in c) c)))
    (nearest_cost (told_in c) (marks_in (told_in c) c) (values_in (told_in c) c))
    (message_of (told_in c) (opened (told_in c) (marks_in (told_in c) c) (values_in (told_in c) c)))
unfolding report_line
line_done c z = rw (eq-eqb (report_refusal c) 0 z)

pub line_refused : (c : List ℕ) → (report_refusal c ≡ 0 → ⊥) → report_line c ≡ refused_line (report_refusal c)
unfolding report_line
line_refused c d = rw (ne_eqb (report_refusal c) 0 d)

-- the head of a refusal's line and a line feed are the capture's line, where the refusal is the capture's
pub refused_as : (c : List ℕ) (r : Refusal) {items : List ℕ} → items ≡ refused_head (number r) → number r ≡ report_refusal c
    → items ++ (10 ∷ []) ≡ report_line c
refused_as c r head e =
    ap (λ (x : List ℕ). x ++ (10 ∷ [])) head
    ∙ refused_head_line (number r)
    ∙ rw e (sym (line_refused c (λ z. number_not_zero r (e ∙ z))))

-- what was recounted makes the line
pub recounted_line : {c message : List ℕ} {r : Recovered} → Recounted c message r → ok_line r.length r.mode r.cost (take r.length message) ≡ report_line c
recounted_line {c} p = rw (p.sent, p.told, p.mode, p.total) (sym (line_done c p.none))

-- reading refuses nothing only where the length is right
read_told : (c : List ℕ) (marks_room values_room : ℕ) → read_refusal c marks_room values_room ≡ 0 → Told (told_in c)
unfolding read_refusal
read_told c marks_room values_room e = told_of (told_in c) (second_false (first_field c) (length_wrong (told_in c)) _ e)

-- what stands first in a lent buffer that kept its length
lent_front : (n : ℕ) (bytes whole after : List ℕ) → n ≤ length whole → after ≡ bytes ++ drop n whole → length after ≡ length whole
    → take n after ≡ bytes
lent_front n bytes whole after h e s =
    let sized : length bytes ≡ n = omega (arith, ap length e, length-append bytes (drop n whole), length-drop n whole) in
    ap (take n) e ∙ take_at bytes (drop n whole) n sized

-- with room for the longest
read_refusal_is : (c marks values : List ℕ) → length marks ≡ 259 → length values ≡ 6216
    → read_refusal c (length marks) (length values) ≡ read_refusal c 259 6216
read_refusal_is c marks values m v = ap (λ (n : ℕ). read_refusal c n (length values)) m ∙ ap (read_refusal c 259) v

module _ (c : List ℕ) {marks₀ values₀ marks values : List ℕ} (marked₀ : length marks₀ ≡ 259) (valued₀ : length values₀ ≡ 6216) where
  -- refused by reading
  pub refused_reading : (r : Refusal) → Reads c marks₀ values₀ marks values (Err r) → number r ≡ report_refusal c
  refused_reading r p =
      let e : number r ≡ read_refusal c 259 6216 = p.refusal ∙ read_refusal_is c marks₀ values₀ marked₀ valued₀ in
      e ∙ sym (refusal_read c (λ z. number_not_zero r (e ∙ z)))

  module _ {l : ℕ} (r : Reads c marks₀ values₀ marks values (Ok l)) where
    none : read_refusal c (length marks₀) (length values₀) ≡ 0
    none = sym r.refusal

    test : eqb (read_refusal c (length marks₀) (length values₀)) 0 ≡ true
    test = eq-eqb _ _ none

    same : l ≡ told_in c
    same = r.told ∙ ap (λ (t : Bool). cond t (told_in c) 0) test

    -- the length that was read
    pub read_length : Told l
    read_length = rw same (read_told c (length marks₀) (length values₀) none)

    module _ (marked : length marks ≡ 259) (valued : length values ≡ 6216) where
      is_marks : take (told_in c + 4) marks ≡ marks_in (told_in c) c
      is_marks =
          lent_front (told_in c + 4) (marks_in (told_in c) c) marks₀ marks (omega (arith, (read_told c (length marks₀) (length values₀) none).high))
          (r.marks_bytes ∙ ap (λ (t : Bool). cond t (marks_in (told_in c) c ++ drop (told_in c + 4) marks₀) marks₀) test) (marked ∙ sym marked₀)

      is_values : take (24 * (told_in c + 4)) values ≡ values_in (told_in c) c
      is_values =
          lent_front (24 * (told_in c + 4)) (values_in (told_in c) c) values₀ values (omega (arith, (read_told c (length marks₀) (length values₀) none).high))
          (r.values_bytes ∙ ap (λ (t : Bool). cond t (values_in (told_in c) c ++ drop (24 * (told_in c + 4)) values₀) values₀) test) (valued ∙ sym valued₀)

      -- read, and then recovered or refused by recovering
      pub told_recovering :
          {before after : List ℕ} (answer : Result Recovered Refusal) → length before ≡ 255
          → Recovers l (take (l + 4) marks) (take (24 * (l + 4)) values) before after answer
          → MatchResult answer (Recounted c after) (λ refusal. number refusal ≡ report_refusal c)
      told_recovering {before} {after} answer room p = go answer (rw (same, is_marks, is_values) at p)
        where
          go : (a : Result Recovered Refusal) → Recovers (told_in c) (marks_in (told_in c) c) (values_in (told_in c) c) before after a
              → MatchResult a (Recounted c after) (λ refusal. number refusal ≡ report_refusal c)
          go (Err e) q =
              q.refusal
              ∙ ap (recover_refusal (told_in c) (marks_in (told_in c) c) (values_in (told_in c) c)) room
              ∙ sym (refusal_recover c (sym (read_refusal_is c marks₀ values₀ marked₀ valued₀) ∙ none))
          go (Ok a) q =
              let z : recover_refusal (told_in c) (marks_in (told_in c) c) (values_in (told_in c) c) (length before) ≡ 0 = sym q.refusal in
              let done : eqb (recover_refusal (told_in c) (marks_in (told_in c) c) (values_in (told_in c) c) (length before)) 0 ≡ true = eq-eqb _ _ z in
              let bits : List Bool = opened (told_in c) (marks_in (told_in c) c) (values_in (told_in c) c) in
              let length_is : a.length ≡ told_in c = q.told ∙ ap (λ (t : Bool). cond t (told_in c) 0) done in
              let bytes : after ≡ message_of (told_in c) bits ++ drop (told_in c) before =
              q.message ∙ ap (λ (t : Bool). cond t (message_of (told_in c) bits ++ drop (told_in c) before) before) done in
              record {
                none = refusal_recover c (sym (read_refusal_is c marks₀ values₀ marked₀ valued₀) ∙ none)
                    ∙ ap (recover_refusal (told_in c) (marks_in (told_in c) c) (values_in (told_in c) c)) (sym room) ∙ z;
                told = length_is;
                mode = q.mode ∙ ap (λ (t : Bool). cond t (mode_of (told_in c) bits) 0) done;
                total = q.weight ∙ ap (λ (t : Bool). cond t (nearest_cost (told_in c) (marks_in (told_in c) c) (values_in (told_in c) c)) 0) done;
                sent = ap (λ (n : ℕ). take n after) length_is ∙ ap (take (told_in c)) bytes
                    ∙ take_at (message_of (told_in c) bits) (drop (told_in c) before) (told_in c) (length-bytes_of (told_in c) (drop 24 bits));
                small = omega (arith, length_is, (read_told c (length marks₀) (length values₀) none).high);
              }
