-- Each refusal's number of writing where its condition is the first that holds, and what holds where none does.
-- Assumes nothing.
use mathlib.Core.Bool.{Bool, true, false, cond, ◌&&◌, ◌||◌}
use mathlib.Core.List.{List}
use mathlib.Core.Path.{◌≡◌, refl, sym}
use Prim.Native.Nat.{ℕ, ◌+◌, ◌*◌, ◌≤◌, ◌<◌}
use native.Mathlib.Omega.{arith}
use borrow.Author.Tests.{lt-ltb, le-ltb, eq-eqb, eqb-true, ltb-false}
use lib.Dec.{ltb, eqb}
use lib.ListN.{length}
use Rattle.interleave.specs.Interleave.{Length}
use Rattle.uplink.specs.Build.{length_wrong}
use Rattle.uplink.specs.Recover.{marks_good}
use Rattle.refusals.specs.declared.Refusal.{Refusal}
use Rattle.refusals.specs.Refusals.{number}
use Rattle.uplink.specs.Parts.{sizes_refusal}
use Rattle.uplink.proofs.Refusals.{length_wrong_right, sizes_first}
use Rattle.capture.specs.Capture.{capture_size}
use Rattle.capture.specs.Writing.{write_refusal}
use Rattle.capture.specs.Parts.{Writable}

pub or_left : (a b : Bool) → (a || b) ≡ false → a ≡ false
or_left true b e = e
or_left false b e = refl

pub or_right : (a b : Bool) → (a || b) ≡ false → b ≡ false
or_right true true e = e
or_right true false e = refl
or_right false b e = e

pub length_wrong_told : (l : ℕ) → length_wrong l ≡ false → Length l
length_wrong_told l e = record { low = ltb-false l 20 (or_left (ltb l 20) (ltb 255 l) e); high = ltb-false 255 l (or_right (ltb l 20) (ltb 255 l) e) }

module _ (l : ℕ) (marks values : List ℕ) (room : ℕ) where
  pub write_sizes : (r : Refusal) → number r ≡ sizes_refusal l marks values → number r ≡ write_refusal l marks values room
  unfolding write_refusal
  write_sizes r e = sym (sizes_first l marks values _ r e)

  module _ (h : Length l) (m : length marks ≡ l + 4) where
    module _ (v : length values ≡ 24 * (l + 4)) where
      pub write_room : room < capture_size l → write_refusal l marks values room ≡ 3
      unfolding write_refusal
      write_room r = rw (length_wrong_right h, eq-eqb (length marks) (l + 4) m, eq-eqb (length values) (24 * (l + 4)) v, lt-ltb room (capture_size l) r)

      pub write_roomy : capture_size l ≤ room → write_refusal l marks values room ≡ cond (marks_good marks) 0 5
      unfolding write_refusal
      write_roomy r = rw (length_wrong_right h, eq-eqb (length marks) (l + 4) m, eq-eqb (length values) (24 * (l + 4)) v, le-ltb room (capture_size l) r)

-- no test refuses
record Passed (a b c d e : Bool) : Type 0 where
  lengths : a ≡ false
  marks_size : b ≡ true
  values_size : c ≡ true
  space : d ≡ false
  good : e ≡ true

passed : (a b c d e : Bool) → ◌≡◌ {A = ℕ} (cond a 1 (cond (b && c) (cond d 3 (cond e 0 5)) 2)) 0 → Passed a b c d e
passed true b c d e z = absurd (omega arith)
passed false false c d e z = absurd (omega arith)
passed false true false d e z = absurd (omega arith)
passed false true true true e z = absurd (omega arith)
passed false true true false false z = absurd (omega arith)
passed false true true false true z = record { lengths = refl; marks_size = refl; values_size = refl; space = refl; good = refl }

module _ (l : ℕ) (marks values : List ℕ) (room : ℕ) (z : write_refusal l marks values room ≡ 0) where
  all_passed : Passed (length_wrong l) (eqb (length marks) (l + 4)) (eqb (length values) (24 * (l + 4))) (ltb room (capture_size l)) (marks_good marks)
  unfolding write_refusal
  all_passed = passed _ _ _ _ _ z

  -- what is known where nothing is refused
  pub write_taken : Writable l marks values room
  write_taken =
      record {
        told = length_wrong_told l all_passed.lengths;
        marked = eqb-true (length marks) (l + 4) all_passed.marks_size;
        valued = eqb-true (length values) (24 * (l + 4)) all_passed.values_size;
        roomy = ltb-false room (capture_size l) all_passed.space;
      }

  pub write_taken-marks : marks_good marks ≡ true
  write_taken-marks = all_passed.good
