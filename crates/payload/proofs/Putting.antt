-- Stores of fields: the bits of a number and of a run of bytes, each as one run of stores, and one run after another. Assumes nothing.
use mathlib.Core.Bool.{Bool}
use mathlib.Core.List.{List, [], ◌∷◌, ◌++◌, map, map-append, append-nil, append_assoc}
use mathlib.Core.Path.{◌≡◌, refl, sym, ap, ◌∙◌}
use Prim.Native.Nat.{ℕ, suc, ◌+◌, ◌-◌, ◌*◌, ◌<◌, ◌≤◌}
use native.Mathlib.Numerals.{add-one}
use native.Mathlib.Omega.{arith}
use lib.ListN.{length, get_or, set, take, drop, length-map}
use lib.Seq.{sets, sets-eq, length-sets, take-suc, take_all, length-take-le, drop-drop}
use borrow.Rule.Slice.PartMut.{put_mid}
use Rattle.bits.specs.Bits.{bit, bits_of, bits_of_bytes}
use Rattle.bits.proofs.Bits.{length-bits_of_bytes, bits_of_bytes-append}

-- one run of stores after another
sets_append : (xs ys old : List ℕ) (at : ℕ) → sets (sets old at xs) (at + length xs) ys ≡ sets old at (xs ++ ys)
sets_append [] ys old at =
    let e : at + 0 ≡ at = omega arith in
    rw e
sets_append (x ∷ xs) ys old at =
    let e : at + suc (length xs) ≡ suc at + length xs = omega arith in
    rw e (sets_append xs ys (set old at x) (suc at))

-- a run that takes the place of a part is stored there
pub part-sets : (xs vs : List ℕ) {ys : List ℕ} (at k : ℕ) → ys ≡ vs → length vs ≡ k → at + k ≤ length xs
    → put_mid at (at + k - at) xs ys ≡ sets xs at vs
part-sets xs vs at k e long room =
    let size : at + k - at ≡ k = omega arith in
    rw (size, e) (ap (λ (x : List ℕ). take at xs ++ (vs ++ x)) (drop-drop k at xs) ∙ sym (rw long at (sets-eq vs xs at (omega (arith, long))) ∙ append_assoc (take at xs) vs (drop (at + k) xs)))

-- two runs of bits, stored one after another
pub sets_then : (old : List ℕ) (at : ℕ) (ps qs : List Bool) {mid new : List ℕ} {next : ℕ} → mid ≡ sets old at (map bit ps) → next ≡ at + length ps
    → new ≡ sets mid next (map bit qs) → new ≡ sets old at (map bit (ps ++ qs))
sets_then old at ps qs first place second =
    let e = place ∙ ap (λ (n : ℕ). at + n) (sym (length-map ps bit)) in
    second
    ∙ rw (first, e) (sets_append (map bit ps) (map bit qs) old at)
    ∙ ap (λ (l : List ℕ). sets old at l) (sym (map-append bit ps qs))

-- the loop that stores a run of bytes

-- before byte i: the bits of the bytes before it are stored
pub record Putting (message old out : List ℕ) (at i : ℕ) : Type 0 where
  pub within : i ≤ length message
  pub room : at + 8 * length message ≤ length old
  pub sized : length out ≡ length old
  pub written : out ≡ sets old at (map bit (bits_of_bytes (take i message)))

pub putting_start : (message old : List ℕ) (at : ℕ) → at + 8 * length message ≤ length old → Putting message old old at 0
unfolding bits_of_bytes
putting_start message old at room = record { within = omega arith; room = room; sized = refl; written = refl }

-- the bits of one byte more
bits_more : (message : List ℕ) (i : ℕ) → i < length message
    → bits_of_bytes (take (i + 1) message) ≡ bits_of_bytes (take i message) ++ bits_of 8 (get_or message i 0)
unfolding bits_of_bytes
bits_more message i h =
    rw (add-one, take-suc message i 0 h, bits_of_bytes-append)
    (ap (λ (l : List Bool). bits_of_bytes (take i message) ++ l) (append-nil (bits_of 8 (get_or message i 0))))

pub putting_step : {message old out next : List ℕ} {at i : ℕ} → Putting message old out at i → i < length message
    → next ≡ sets out (at + 8 * i) (map bit (bits_of 8 (get_or message i 0))) → Putting message old next at (i + 1)
putting_step {message} {old} {out} {next} {at} {i} p h stored =
    let before : List Bool = bits_of_bytes (take i message) in
    let long : length before ≡ 8 * i = length-bits_of_bytes (take i message) ∙ ap (λ (n : ℕ). 8 * n) (length-take-le i message p.within) in
    record {
      within = omega arith;
      room = p.room;
      sized = rw (stored, length-sets) p.sized;
      written = rw (bits_more message i h) (sets_then old at before (bits_of 8 (get_or message i 0)) p.written (omega arith) stored);
    }

pub putting_end : {message old out : List ℕ} {at i : ℕ} → Putting message old out at i → length message ≤ i
    → out ≡ sets old at (map bit (bits_of_bytes message))
putting_end {message} {i = i} p h = rw (take_all i message h) at p.written
