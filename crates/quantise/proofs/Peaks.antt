-- The finding, and what the peak is among the numbers. Assumes nothing.
use mathlib.Core.Bool.{true, false, not}
use mathlib.Core.List.{List, [], ◌∷◌}
use mathlib.Core.Logic.{⊎_elim}
use mathlib.Core.Path.{◌≡◌, sym, ◌∙◌}
use Rattle.std.specs.Prelude.{Ok}
use Prim.Native.Nat.{ℕ, zero, suc, ◌%◌, ◌^◌, ◌≤◌, ◌<◌}
use native.Mathlib.Nat.{not-suc-le-zero, le_of_suc-le-suc, eq-zero-or-pos}
use native.Mathlib.Omega.{arith}
use borrow.Author.Tests.{ltb-false, le-ltb, eqb-true, eqb-false}
use lib.Dec.{T}
use lib.Ieee.{Float, binary32, of_bits, to_bits, is_nan}
use lib.Ieee.Bits.{to_bits-of_bits, nan_bits_is, nan_bits_above}
use lib.ListN.{length, get_or}
use Rattle.quantise.specs.Finding.{some_nan, all_zero, magnitude, peak_of, finding_of}
use Rattle.quantise.specs.Answers.{Quantised, quantised_refusal}
use Rattle.quantise.specs.Quantise.{patterns, Quantises}
use Rattle.quantise.specs.Promises.{Peaks, Findings}
use Rattle.quantise.specs.Parts.{infinity, greatest}
use Rattle.quantise.proofs.Order.{less_or-not}
use Rattle.quantise.proofs.Findings.{exceeds-order, some_nan_lem, all_zero_lem, greatest_below, peak_greatest}

-- every one is at most the greatest, and where it is not 0 it is that of one
greatest_most : (bs : List ℕ) (k : ℕ) → k < length bs → magnitude (get_or bs k 0) ≤ greatest bs
unfolding greatest
greatest_most [] k h = absurd (not-suc-le-zero h)
greatest_most (b ∷ bs) zero h = omega arith
greatest_most (b ∷ bs) (suc k) h = omega (arith, greatest_most bs k (le_of_suc-le-suc h))

greatest_one : (bs : List ℕ) → 0 < greatest bs → (k : ℕ) × (k < length bs) × (greatest bs ≡ magnitude (get_or bs k 0))
unfolding greatest
greatest_one [] h = absurd (not-suc-le-zero h)
greatest_one (b ∷ bs) h = ⊎_elim
    (λ (l : magnitude b < greatest bs).
    let r = greatest_one bs (omega arith) in
    (suc r.0, omega (arith, r.1), omega (arith, r.2)))
    (λ (g : greatest bs ≤ magnitude b). (0, omega arith, omega arith))
    (less_or-not (magnitude b) (greatest bs))

some_loud : (bs : List ℕ) → all_zero bs ≡ false → 0 < greatest bs
some_loud bs z = ⊎_elim (λ e. absurd (eqb-false (greatest bs) 0 (sym (all_zero_lem bs) ∙ z) e)) (λ l. l) (eq-zero-or-pos (greatest bs))

-- zeros are no NaNs
zeros_no_nan : (bs : List ℕ) → all_zero bs ≡ true → some_nan bs ≡ false
zeros_no_nan bs z =
    let none : greatest bs ≡ 0 = eqb-true (greatest bs) 0 (sym (all_zero_lem bs) ∙ z) in
    some_nan_lem bs ∙ le-ltb infinity (greatest bs) (omega arith)

module _ (bs : List ℕ) (no : some_nan bs ≡ false) where
  most_finite : greatest bs ≤ infinity
  most_finite = ltb-false infinity (greatest bs) (sym (some_nan_lem bs) ∙ no)

  unsigned : magnitude (greatest bs) ≡ greatest bs
  unsigned = omega (arith, greatest_below bs)

  -- the peak's bits, written and read by the kit, are themselves
  peak_bits : to_bits binary32 (of_bits binary32 (peak_of bs)) ≡ greatest bs
  peak_bits =
      let no_nan : T (not (is_nan (of_bits binary32 (greatest bs)))) = rw (← nan_bits_is binary32 (greatest bs), nan_bits_above binary32 (greatest bs), le-ltb infinity (greatest bs % 2 ^ 31) (omega (arith, unsigned, most_finite))) tt in
      rw (peak_greatest bs most_finite) (to_bits-of_bits binary32 (greatest bs) (omega (arith, greatest_below bs)) no_nan)

  pub peaks : all_zero bs ≡ false → Peaks bs (to_bits binary32 (of_bits binary32 (peak_of bs)))
  peaks z =
      let r = greatest_one bs (some_loud bs z) in
      record {
        place = r.0;
        within = r.1;
        one = peak_bits ∙ r.2;
        most = λ k h. rw peak_bits (exceeds-order (get_or bs k 0) (greatest bs) (omega (arith, greatest_most bs k h, most_finite)) (omega (arith, unsigned, most_finite)) ∙ le-ltb (magnitude (greatest bs)) (magnitude (get_or bs k 0)) (omega (arith, unsigned, greatest_most bs k h)));
      }

module _ {numbers : List Float} {before after : List ℕ} {answer : Quantised} (p : Quantises numbers before after answer) (done : quantised_refusal answer ≡ 0) where
  answered : answer ≡ Ok (finding_of (patterns numbers))
  answered = p.finding (sym p.refusal ∙ done)

  pub findings : Findings numbers answer
  unfolding finding_of
  findings =
      record {
        faulty = λ y. answered ∙ rw y;
        silent = λ z. answered ∙ rw (zeros_no_nan (patterns numbers) z, z);
        heard = λ y z. (of_bits binary32 (peak_of (patterns numbers)), answered ∙ rw (y, z), peaks (patterns numbers) y z);
      }
