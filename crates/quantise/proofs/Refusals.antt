-- Which refusal of quantising comes first, and what the contract then says. Assumes nothing.
use mathlib.Core.List.{List}
use mathlib.Core.Path.{◌≡◌, sym, ap, ◌∙◌}
use Rattle.std.specs.Prelude.{Ok, Err}
use Prim.Native.Nat.{ℕ, ◌≤◌, ◌<◌}
use borrow.Author.Tests.{eq-eqb, ne_eqb, lt-ltb, le-ltb}
use lib.Ieee.{Float, binary32, to_bits}
use lib.ListN.{length, length-map}
use Rattle.buffers.proofs.Appending.{appends_front}
use Rattle.quantise.specs.declared.Finding.{Finding}
use Rattle.refusals.specs.declared.Refusal.{Refusal}
use Rattle.refusals.specs.Refusals.{number}
use Rattle.refusals.proofs.Refusals.{number_not_zero}
use Rattle.quantise.specs.Number.{number_of}
use Rattle.quantise.specs.Value.{value_of}
use Rattle.quantise.specs.Quantise.{patterns, values_of, quantise_refusal, Quantises}
use Rattle.quantise.specs.Parts.{found_at, Taken, TookIn}
use Rattle.quantise.proofs.Findings.{finding_told}

pub refusal_count : (count room : ℕ) → (count ≡ 24 → ⊥) → quantise_refusal count room ≡ 2
unfolding quantise_refusal
refusal_count count room h = rw (ne_eqb count 24 h)

pub refusal_room : (count room : ℕ) → count ≡ 24 → room < 24 → quantise_refusal count room ≡ 3
unfolding quantise_refusal
refusal_room count room e l = rw (eq-eqb count 24 e, lt-ltb room 24 l)

pub refusal_none : (count room : ℕ) → count ≡ 24 → 24 ≤ room → quantise_refusal count room ≡ 0
unfolding quantise_refusal
refusal_none count room e l = rw (eq-eqb count 24 e, le-ltb room 24 l)

-- a refusal answers its number and changes nothing
pub refuses : (numbers : List Float) (before : List ℕ) (r : Refusal) → quantise_refusal (length numbers) (length before) ≡ number r → Quantises numbers before before (Err r)
refuses numbers before r e =
    record {
      refusal = sym e;
      finding = λ z. absurd (number_not_zero r (sym e ∙ z));
      bytes = rw (e, ne_eqb (number r) 0 (number_not_zero r));
    }

length-values : (numbers : List Float) → length (values_of (patterns numbers)) ≡ length numbers
length-values numbers = length-map (patterns numbers) (λ b. value_of (number_of b)) ∙ length-map numbers (to_bits binary32)

pub taken_in :
    {numbers : List Float} {before after : List ℕ} {peak : ℕ} {found : Finding}
    → Taken numbers before → TookIn numbers before after peak → found ≡ found_at peak → Quantises numbers before after (Ok found)
taken_in {numbers} {before} {after} {peak} {found} t p f =
    let none = refusal_none (length numbers) (length before) t.count t.room in
    record {
      refusal = sym none;
      finding = λ z. ap Ok (f ∙ ap found_at p.most ∙ finding_told (patterns numbers));
      bytes = rw none (appends_front 24 p.written (length-values numbers ∙ t.count) t.room);
    }
