-- The loop that makes the bits of a number, one at a time. Assumes nothing.
use mathlib.Core.Bool.{false}
use mathlib.Core.List.{List, map}
use mathlib.Core.Path.{◌≡◌, sym, ◌∙◌}
use Prim.Native.Nat.{ℕ, suc, ◌+◌, ◌-◌, ◌/◌, ◌%◌, ◌^◌, ◌<◌}
use native.Mathlib.Nat.{mod-lt}
use native.Mathlib.Numerals.{add-one}
use native.Mathlib.Omega.{arith}
use lib.ListN.{length, get_or, set, take, length-map, get_or-map}
use lib.Seq.{take-suc, take-suc-set, take_all}
use Rattle.bits.specs.Bits.{bit, bits_of}
use Rattle.bits.proofs.Bits.{bit-is_one, length-bits_of, get_or-bits_of}

length-bytes : (count x : ℕ) → length (map bit (bits_of count x)) ≡ count
length-bytes count x = length-map (bits_of count x) bit ∙ length-bits_of count x

-- the byte of bit k
byte_at : (count x k : ℕ) → k < count → get_or (map bit (bits_of count x)) k 0 ≡ x / 2 ^ (count - 1 - k) % 2
byte_at count x k h =
    let place : count - suc k ≡ count - 1 - k = omega arith in
    get_or-map bit (bits_of count x) k false
    ∙ rw (get_or-bits_of count k x h, place) (bit-is_one (x / 2 ^ (count - 1 - k) % 2) (mod-lt (x / 2 ^ (count - 1 - k)) (omega arith)))

-- one bit more
pub bits_step : (count x k : ℕ) (items : List ℕ) → k < count → length items ≡ count → take k items ≡ take k (map bit (bits_of count x))
    → take (k + 1) (set items k (x / 2 ^ (count - 1 - k) % 2)) ≡ take (k + 1) (map bit (bits_of count x))
bits_step count x k items h long e =
    rw (add-one k, take-suc-set items k (x / 2 ^ (count - 1 - k) % 2) (omega arith), e)
    (sym (take-suc (map bit (bits_of count x)) k 0 (omega (arith, length-bytes count x)) ∙ rw (byte_at count x k h)))

-- and all of them
pub bits_end : (count x k : ℕ) (items : List ℕ) → count ≡ k → length items ≡ count → take k items ≡ take k (map bit (bits_of count x)) → items ≡ map bit (bits_of count x)
bits_end count x k items done long e =
    sym (take_all k items (omega arith)) ∙ e ∙ take_all k (map bit (bits_of count x)) (omega (arith, length-bytes count x))
