-- Runs of bytes stored one after another, and the loop that stores one run.
-- Assumes nothing.
use mathlib.Core.List.{List, [], ◌∷◌, ◌++◌}
use mathlib.Core.Path.{◌≡◌, refl, ap, ◌∙◌}
use Prim.Native.Nat.{ℕ, suc, ◌+◌, ◌≤◌, ◌<◌}
use native.Mathlib.Numerals.{add-one}
use native.Mathlib.Omega.{arith}
use lib.ListN.{length, get_or, set, take, drop, length-append}
use lib.Seq.{sets, sets-eq, length-sets, length-take-le, take-suc, take_at}
use Rattle.buffers.specs.Buffers.{Appends}

-- one run of stores after another
sets_append : (xs ys old : List ℕ) (at : ℕ) → sets (sets old at xs) (at + length xs) ys ≡ sets old at (xs ++ ys)
sets_append [] ys old at =
    let e : at + 0 ≡ at = omega arith in
    rw e
sets_append (x ∷ xs) ys old at =
    let e : at + suc (length xs) ≡ suc at + length xs = omega arith in
    rw e (sets_append xs ys (set old at x) (suc at))

pub appends_none : (old : List ℕ) (at : ℕ) → Appends old at [] old at
appends_none old at = record { stored = refl; ends = omega arith }

pub appends_then :
    {old mid new xs ys : List ℕ} {at next end : ℕ} → Appends old at xs mid next → Appends mid next ys new end → Appends old at (xs ++ ys) new end
appends_then {old} {mid} {new} {xs} {ys} {at} {next} {end} p q =
    record {
      stored = q.stored ∙ rw (p.stored, p.ends) (sets_append xs ys old at);
      ends = omega (arith, p.ends, q.ends, length-append xs ys);
    }

pub appends_length : {old new xs : List ℕ} {at next : ℕ} → Appends old at xs new next → length new ≡ length old
appends_length {old} {new} {xs} {at} p = ap length p.stored ∙ length-sets old at xs

-- stored from the start: the bytes, and then what lay beyond them
pub appends_front : {old new xs : List ℕ} {next : ℕ} (n : ℕ) → Appends old 0 xs new next → length xs ≡ n → n ≤ length old → new ≡ xs ++ drop n old
appends_front {old} {new} {xs} n p e h =
    let fits : 0 + length xs ≤ length old = omega arith in
    let size : 0 + length xs ≡ n = omega arith in
    p.stored ∙ sets-eq xs old 0 fits ∙ ap (λ (k : ℕ). xs ++ drop k old) size

-- one byte of a run more
pub appends_more :
    {old out : List ℕ} {at : ℕ} (src : List ℕ) (i : ℕ) → Appends old at (take i src) out (at + i) → i < length src
    → Appends old at (take (i + 1) src) (set out (at + i) (get_or src i 0)) (at + (i + 1))
appends_more {old} {out} {at} src i p h =
    let more : take (i + 1) src ≡ take i src ++ (get_or src i 0 ∷ []) = rw (add-one i, take-suc src i 0 h) in
    let one : Appends out (at + i) (get_or src i 0 ∷ []) (set out (at + i) (get_or src i 0)) (at + (i + 1)) = record { stored = refl; ends = omega arith } in
    rw more (appends_then p one)

-- what stands before the place after the bytes: all that stood before them, and then they
pub take_appends : {old new xs : List ℕ} {at next : ℕ} → Appends old at xs new next → at + length xs ≤ length old → take next new ≡ take at old ++ xs
take_appends {old} {new} {xs} {at} {next} p h =
    let sized : length (take at old ++ xs) ≡ next = omega (arith, length-append (take at old) xs, length-take-le at old (omega arith), p.ends) in
    ap (take next) (p.stored ∙ sets-eq xs old at h) ∙ take_at (take at old ++ xs) (drop (at + length xs) old) next sized
