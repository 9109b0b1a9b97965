-- The loop over the numbers of a burst. Assumes nothing.
use mathlib.Core.List.{List, [], ◌∷◌, ◌++◌, map-append}
use mathlib.Core.Path.{◌≡◌, refl, ap, ◌∙◌}
use Prim.Native.Nat.{ℕ, ◌+◌, ◌≤◌, ◌<◌, max}
use native.Mathlib.Numerals.{add-one}
use native.Mathlib.Omega.{arith}
use lib.Ieee.{Float, nan, binary32, to_bits}
use lib.ListN.{length, get_or, set, take, length-set}
use lib.Seq.{take-suc, take_all}
use Rattle.std.proofs.Common.{rules}
use Rattle.std.specs.Ordering.{ord_max, nat_cmp}
use Rattle.buffers.specs.Buffers.{Appends}
use Rattle.buffers.proofs.Appending.{appends_none, appends_then}
use Rattle.quantise.specs.Number.{number_of}
use Rattle.quantise.specs.Value.{value_of}
use Rattle.quantise.specs.Finding.{magnitude}
use Rattle.quantise.specs.Quantise.{patterns, values_of}
use Rattle.quantise.specs.Parts.{greatest, Taken, TookIn}

greatest_more : (bs : List ℕ) (b : ℕ) → greatest (bs ++ (b ∷ [])) ≡ max (greatest bs) (magnitude b)
unfolding greatest
greatest_more [] b = omega arith
greatest_more (a ∷ bs) b = omega (arith, greatest_more bs b)

-- the library's maximum of two numbers
pub ord_max_max : (a b : ℕ) → ord_max nat_cmp a b ≡ max a b
ord_max_max a b = search rules

-- before number i: the values of those before it are written, and peak is the greatest of their bits without signs
pub record Filling (numbers : List Float) (old out : List ℕ) (peak i : ℕ) : Type 0 where
  pub within : i ≤ 24
  pub taken : Taken numbers old
  pub sized : length out ≡ length old
  pub done : Appends old 0 (values_of (patterns (take i numbers))) out i
  pub most : peak ≡ greatest (patterns (take i numbers))

pub filling_start : {numbers : List Float} {old : List ℕ} → Taken numbers old → Filling numbers old old 0 0
unfolding greatest
filling_start {numbers} {old} t = record { within = omega arith; taken = t; sized = refl; done = appends_none old 0; most = refl }

module _ {numbers : List Float} {old out : List ℕ} {peak i : ℕ} (p : Filling numbers old out peak i) (h : i < 24) where
  patterns_more : patterns (take (i + 1) numbers) ≡ patterns (take i numbers) ++ (to_bits binary32 (get_or numbers i nan) ∷ [])
  patterns_more =
      let l : i < length numbers = omega (arith, p.taken.count) in
      rw (add-one i, take-suc numbers i nan l) (map-append (to_bits binary32) (take i numbers) (get_or numbers i nan ∷ []))

  pub filling_step :
      {b v next : ℕ} → b ≡ to_bits binary32 (get_or numbers i nan) → v ≡ value_of (number_of b) → next ≡ max peak (magnitude b)
      → Filling numbers old (set out i v) next (i + 1)
  filling_step {b} {v} {next} e f g =
      let one : Appends out i (value_of (number_of b) ∷ []) (set out i v) (i + 1) = record { stored = ap (λ (x : ℕ). set out i x) f; ends = refl } in
      let more : patterns (take (i + 1) numbers) ≡ patterns (take i numbers) ++ (b ∷ []) = rw e patterns_more in
      record {
        within = omega arith;
        taken = p.taken;
        sized = length-set out i v ∙ p.sized;
        done = rw (more, map-append (λ b. value_of (number_of b)) (patterns (take i numbers)) (b ∷ [])) (appends_then p.done one);
        most = rw (more, greatest_more (patterns (take i numbers)) b, ← p.most) g;
      }

pub filling_end : {numbers : List Float} {old out : List ℕ} {peak i : ℕ} → Filling numbers old out peak i → 24 ≤ i → TookIn numbers old out peak
filling_end {numbers} {old} {out} {peak} {i} p h =
    let e : i ≡ 24 = omega (arith, p.within) in
    let all : take i numbers ≡ numbers = take_all i numbers (omega (arith, p.taken.count)) in
    record { written = rw (all, e) at p.done; most = rw all at p.most }
