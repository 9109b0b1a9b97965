-- Each refusal's number of reading where its condition is the first that holds, and what holds where none does.
-- Assumes nothing.
use mathlib.Core.Bool.{Bool, true, false, cond, ◌||◌}
use mathlib.Core.List.{List}
use mathlib.Core.Path.{◌≡◌, refl, ap, ◌∙◌}
use Prim.Native.Nat.{ℕ, ◌+◌, ◌*◌, ◌-◌, ◌≤◌, ◌<◌}
use native.Mathlib.Omega.{arith}
use borrow.Author.Tests.{lt-ltb, le-ltb, ltb-false, leb-true}
use lib.Dec.{ltb, leb}
use lib.ListN.{length, take, drop}
use Rattle.interleave.specs.Interleave.{Length}
use Rattle.uplink.specs.Build.{length_wrong}
use Rattle.uplink.specs.Recover.{marks_good}
use Rattle.capture.specs.Reading.{first_field, told_in, marks_in, whole, read_refusal}
use Rattle.capture.specs.Parts.{Opening}
use Rattle.capture.proofs.Heads.{and_left}
use Rattle.uplink.proofs.Refusals.{length_wrong_short, length_wrong_right}
use Rattle.capture.proofs.Refusals.{length_wrong_told, or_left, or_right}

module _ (c : List ℕ) (room₁ room₂ : ℕ) where
  pub read_first : first_field c ≡ false → read_refusal c room₁ room₂ ≡ 10
  unfolding read_refusal
  read_first f = rw f

  pub read_short : first_field c ≡ true → told_in c < 20 → read_refusal c room₁ room₂ ≡ 1
  unfolding read_refusal
  read_short f h = rw (f, length_wrong_short (told_in c) h)

module _ {l : ℕ} {c : List ℕ} (o : Opening l c) (room₁ room₂ : ℕ) where
  -- the first field and its value are right: the rest decides
  opened_rest : read_refusal c room₁ room₂ ≡ cond (whole l c) (cond (marks_good (marks_in l c)) (cond (ltb room₁ (l + 4) || ltb room₂ (24 * (l + 4))) 3 0) 5) 10
  unfolding read_refusal
  opened_rest = rw (o.first, o.value, length_wrong_right o.told)

  pub read_form : whole l c ≡ false → read_refusal c room₁ room₂ ≡ 10
  read_form w = opened_rest ∙ rw w

  module _ (w : whole l c ≡ true) where
    pub read_mark : marks_good (marks_in l c) ≡ false → read_refusal c room₁ room₂ ≡ 5
    read_mark g = opened_rest ∙ rw (w, g)

    module _ (g : marks_good (marks_in l c) ≡ true) where
      pub read_marks_room : room₁ < l + 4 → read_refusal c room₁ room₂ ≡ 3
      read_marks_room r = opened_rest ∙ rw (w, g, lt-ltb room₁ (l + 4) r)

      pub read_values_room : l + 4 ≤ room₁ → room₂ < 24 * (l + 4) → read_refusal c room₁ room₂ ≡ 3
      read_values_room r q = opened_rest ∙ rw (w, g, le-ltb room₁ (l + 4) r, lt-ltb room₂ (24 * (l + 4)) q)

      pub read_done : l + 4 ≤ room₁ → 24 * (l + 4) ≤ room₂ → read_refusal c room₁ room₂ ≡ 0
      read_done r q = opened_rest ∙ rw (w, g, le-ltb room₁ (l + 4) r, le-ltb room₂ (24 * (l + 4)) q)

-- the marks, as the code lends them
pub marks_part : (l : ℕ) (c : List ℕ) → take (11 + l - 7) (drop 7 c) ≡ marks_in l c
unfolding marks_in
marks_part l c =
    let e : 11 + l - 7 ≡ l + 4 = omega arith in
    ap (λ (n : ℕ). take n (drop 7 c)) e

-- a first field that is right has its value
pub first_size : (c : List ℕ) → first_field c ≡ true → 4 ≤ length c
unfolding first_field
first_size c f = leb-true 4 (length c) (and_left (leb 4 (length c)) _ f)

-- no test refuses
record Passed (a b c d e : Bool) : Type 0 where
  first : a ≡ true
  lengths : b ≡ false
  form : c ≡ true
  good : d ≡ true
  space : e ≡ false

passed : (a b c d e : Bool) → ◌≡◌ {A = ℕ} (cond a (cond b 1 (cond c (cond d (cond e 3 0) 5) 10)) 10) 0 → Passed a b c d e
passed false b c d e z = absurd (omega arith)
passed true true c d e z = absurd (omega arith)
passed true false false d e z = absurd (omega arith)
passed true false true false e z = absurd (omega arith)
passed true false true true true z = absurd (omega arith)
passed true false true true false z = record { first = refl; lengths = refl; form = refl; good = refl; space = refl }

-- what is known where nothing is refused
pub record ReadTaken (c : List ℕ) (room₁ room₂ : ℕ) : Type 0 where
  pub first : first_field c ≡ true
  pub told : Length (told_in c)
  pub form : whole (told_in c) c ≡ true
  pub good : marks_good (marks_in (told_in c) c) ≡ true
  pub marks_room : told_in c + 4 ≤ room₁
  pub values_room : 24 * (told_in c + 4) ≤ room₂

module _ (c : List ℕ) (room₁ room₂ : ℕ) (z : read_refusal c room₁ room₂ ≡ 0) where
  all_passed : Passed (first_field c) (length_wrong (told_in c)) (whole (told_in c) c) (marks_good (marks_in (told_in c) c)) (ltb room₁ (told_in c + 4) || ltb room₂ (24 * (told_in c + 4)))
  unfolding read_refusal
  all_passed = passed _ _ _ _ _ z

  pub read_taken : ReadTaken c room₁ room₂
  read_taken =
      record {
        first = all_passed.first;
        told = length_wrong_told (told_in c) all_passed.lengths;
        form = all_passed.form;
        good = all_passed.good;
        marks_room = ltb-false room₁ (told_in c + 4) (or_left (ltb room₁ (told_in c + 4)) (ltb room₂ (24 * (told_in c + 4))) all_passed.space);
        values_room = ltb-false room₂ (24 * (told_in c + 4)) (or_right (ltb room₁ (told_in c + 4)) (ltb room₂ (24 * (told_in c + 4))) all_passed.space);
      }
