-- Laws of the bytes that a run of bits makes: the bytes' own bits are the run, and the bits' own bytes are the bytes. Assumes nothing.
use mathlib.Core.Bool.{Bool}
use mathlib.Core.List.{List, [], ◌∷◌, ◌++◌, append_assoc}
use mathlib.Core.Path.{◌≡◌, refl, sym, ap, ◌∙◌}
use Prim.Native.Nat.{ℕ, zero, suc, ◌+◌, ◌*◌, ◌^◌, ◌<◌, ◌≤◌}
use native.Mathlib.Omega.{arith}
use lib.ListN.{length, get_or, take, drop, length-drop}
use lib.Seq.{take_at, drop_at, take-add, length-take-le}
use Rattle.bits.specs.Bits.{bits_of, bits_of_bytes, number_of}
use Rattle.bits.proofs.Bits.{length-bits_of, number_of-bits_of, bits_of-number_of, number_of_below}
use Rattle.payload.specs.Open.{bytes_of}

pub length-bytes_of : (l : ℕ) (bs : List Bool) → length (bytes_of l bs) ≡ l
unfolding bytes_of
length-bytes_of zero bs = refl
length-bytes_of (suc l) bs = ap suc (length-bytes_of l (drop 8 bs))

-- the number of a field of k bits has these bits
pub field_bits : (k : ℕ) (bs : List Bool) → length bs ≡ k → bits_of k (number_of bs) ≡ bs
field_bits k bs e = rw e at (bits_of-number_of bs)

pub field_below : (k : ℕ) (bs : List Bool) → length bs ≡ k → number_of bs < 2 ^ k
field_below k bs e = rw e at (number_of_below bs)

pub bytes_of_below_256 : (l : ℕ) (bs : List Bool) → 8 * l ≤ length bs → (i : ℕ) → i < l → get_or (bytes_of l bs) i 0 < 256
unfolding bytes_of
bytes_of_below_256 zero bs h i k = absurd (omega arith)
bytes_of_below_256 (suc l) bs h zero k = field_below 8 (take 8 bs) (length-take-le 8 bs (omega arith))
bytes_of_below_256 (suc l) bs h (suc i) k = bytes_of_below_256 l (drop 8 bs) (rw length-drop (omega arith)) i (omega arith)

-- the bits of the bytes that a run makes are the run's own
pub bits_of_bytes-bytes_of : (l : ℕ) (bs : List Bool) → 8 * l ≤ length bs → bits_of_bytes (bytes_of l bs) ≡ take (8 * l) bs
unfolding bytes_of bits_of_bytes
bits_of_bytes-bytes_of zero bs h = refl
bits_of_bytes-bytes_of (suc l) bs h =
    let more : 8 * suc l ≡ 8 + 8 * l = omega arith in
    let first : bits_of 8 (number_of (take 8 bs)) ≡ take 8 bs = field_bits 8 (take 8 bs) (length-take-le 8 bs (omega arith)) in
    let rest : bits_of_bytes (bytes_of l (drop 8 bs)) ≡ take (8 * l) (drop 8 bs) =
    bits_of_bytes-bytes_of l (drop 8 bs) (rw length-drop (omega arith)) in
    rw (first, rest, more) (sym (take-add 8 (8 * l) bs))

-- and the bytes that the bits of bytes make are these bytes
pub bytes_of-bits_of_bytes : (xs : List ℕ) (rest : List Bool) → ((i : ℕ) → i < length xs → get_or xs i 0 < 256)
    → bytes_of (length xs) (bits_of_bytes xs ++ rest) ≡ xs
unfolding bytes_of bits_of_bytes
bytes_of-bits_of_bytes [] rest h = refl
bytes_of-bits_of_bytes (x ∷ xs) rest h =
    let split : bits_of 8 x ++ bits_of_bytes xs ++ rest ≡ bits_of 8 x ++ (bits_of_bytes xs ++ rest) = append_assoc (bits_of 8 x) (bits_of_bytes xs) rest in
    let first : take 8 (bits_of 8 x ++ bits_of_bytes xs ++ rest) ≡ bits_of 8 x =
    ap (λ (l : List Bool). take 8 l) split ∙ take_at (bits_of 8 x) (bits_of_bytes xs ++ rest) 8 (length-bits_of 8 x) in
    let others : drop 8 (bits_of 8 x ++ bits_of_bytes xs ++ rest) ≡ bits_of_bytes xs ++ rest =
    ap (λ (l : List Bool). drop 8 l) split ∙ drop_at (bits_of 8 x) (bits_of_bytes xs ++ rest) 8 (length-bits_of 8 x) in
    cc (
      first,
      others,
      number_of-bits_of 8 x (h 0 (omega arith)),
      bytes_of-bits_of_bytes xs rest (λ i k. h (suc i) (omega arith)),
    )
