-- Laws of bits, of the bytes that carry them, and of the bits of a number: each way and back is the identity, on
-- numbers that fit the field. Assumes nothing.
use mathlib.Core.Bool.{Bool, true, false}
use mathlib.Core.List.{List, [], ◌∷◌, ◌++◌, map, append_assoc}
use mathlib.Core.Path.{◌≡◌, refl, ap, sym, ◌∙◌}
use Prim.Native.Nat.{ℕ, zero, suc, ◌+◌, ◌-◌, ◌*◌, ◌/◌, ◌%◌, ◌^◌, ◌<◌}
use native.Mathlib.Nat.{add_assoc, add-mul, mul_assoc, suc-sub-suc, sub-zero, pow-succ', mod-eq_of_lt, mod-lt, mod-one}
use native.Mathlib.Numerals.{one-add}
use native.Mathlib.Omega.{arith}
use lib.ListN.{length, get_or, length-append}
use lib.Arith.{digits_lt}
use lib.Pow.{pow-add, field, mod-mod-pow, mod-pow-add, high, low}
use mir.Val.{bool_byte}
use Rattle.bits.specs.Bits.{bit, is_one, bits_of, bits_of_bytes, number_of}

-- a bit and the byte that carries it

pub bit_below_two : (b : Bool) → bit b < 2
bit_below_two true = omega arith
bit_below_two false = omega arith

pub is_one-bit : (b : Bool) → is_one (bit b) ≡ b
is_one-bit true = refl
is_one-bit false = refl

pub bit-is_one : (v : ℕ) → v < 2 → bit (is_one v) ≡ v
bit-is_one zero h = refl
bit-is_one (suc zero) h = refl
bit-is_one (suc (suc v)) h = omega arith

-- a test that is made a number is the byte that carries its answer
pub bool_byte-bit : (b : Bool) → bool_byte b ≡ bit b
bool_byte-bit true = refl
bool_byte-bit false = refl

pub map-is_one-map-bit : (bs : List Bool) → map is_one (map bit bs) ≡ bs
map-is_one-map-bit [] = refl
map-is_one-map-bit (b ∷ bs) = simp (is_one-bit, map-is_one-map-bit bs)

-- runs of bits

-- where two runs are the same, and their first parts are equally long, the parts are the same
pub append_injective : (ps bs : List Bool) {cs ds : List Bool} → length ps ≡ length bs
    → ps ++ cs ≡ bs ++ ds → (ps ≡ bs) × (cs ≡ ds)
append_injective [] [] h e = (refl, e)
append_injective [] (b ∷ bs) h e = absurd (omega arith)
append_injective (a ∷ ps) [] h e = absurd (omega arith)
append_injective (a ∷ ps) (b ∷ bs) {cs} {ds} h e =
    let heads : a ≡ b = cc in
    let tails : ps ++ cs ≡ bs ++ ds = cc in
    let same = append_injective ps bs (omega arith) tails in
    (cc, same.1)

-- the bits of a number

bits_of_suc : (k x : ℕ) → bits_of (suc k) x ≡ is_one (x / 2 ^ k % 2) ∷ bits_of k x
unfolding bits_of
bits_of_suc k x = refl

number_of_cons : (b : Bool) (bs : List Bool) → number_of (b ∷ bs) ≡ bit b * 2 ^ length bs + number_of bs
unfolding number_of
number_of_cons b bs = refl

pub length-bits_of : (k x : ℕ) → length (bits_of k x) ≡ k
unfolding bits_of
length-bits_of zero x = refl
length-bits_of (suc k) x = ap suc (length-bits_of k x)

number_of-bits_of_suc : (k x : ℕ) → number_of (bits_of k x) ≡ x % 2 ^ k → number_of (bits_of (suc k) x) ≡ x % 2 ^ suc k
number_of-bits_of_suc k x ih =
    let h : x / 2 ^ k % 2 < 2 = mod-lt (x / 2 ^ k) (omega arith) in
    rw (bits_of_suc, number_of_cons, length-bits_of, ih, bit-is_one (x / 2 ^ k % 2)) (rw one-add at (sym (mod-pow-add x 1 k)))

-- a field holds what is left of a number when it is divided by a power of two
pub number_of-bits_of-mod : (k x : ℕ) → number_of (bits_of k x) ≡ x % 2 ^ k
unfolding bits_of number_of
number_of-bits_of-mod zero x = sym (mod-one x)
number_of-bits_of-mod (suc k) x = number_of-bits_of_suc k x (number_of-bits_of-mod k x)

pub number_of-bits_of : (k x : ℕ) → x < 2 ^ k → number_of (bits_of k x) ≡ x
number_of-bits_of k x h = number_of-bits_of-mod k x ∙ mod-eq_of_lt h

pub bits_of_injective : (k : ℕ) {x y : ℕ} → x < 2 ^ k → y < 2 ^ k → bits_of k x ≡ bits_of k y → x ≡ y
bits_of_injective k {x} {y} hx hy e = sym (number_of-bits_of k x hx) ∙ ap number_of e ∙ number_of-bits_of k y hy

pub number_of_below : (bs : List Bool) → number_of bs < 2 ^ length bs
unfolding number_of
number_of_below [] = omega arith
number_of_below (b ∷ bs) = rw pow-succ' (digits_lt (bit_below_two b) (number_of_below bs))

-- the higher part of a number is not in the field
pub bits_of_same_rest : (k x y : ℕ) → x % 2 ^ k ≡ y % 2 ^ k → bits_of k x ≡ bits_of k y
unfolding bits_of
bits_of_same_rest zero x y e = refl
bits_of_same_rest (suc k) x y e =
    let e₁ : x % 2 ^ (1 + k) ≡ y % 2 ^ (1 + k) = rw one-add e in
    let top : x / 2 ^ k % 2 ≡ y / 2 ^ k % 2 = sym (field x 1 k) ∙ ap (λ (n : ℕ). n / 2 ^ k) e₁ ∙ field y 1 k in
    let rest : x % 2 ^ k ≡ y % 2 ^ k = sym (mod-mod-pow x 1 k) ∙ ap (λ (n : ℕ). n % 2 ^ k) e₁ ∙ mod-mod-pow y 1 k in
    cc (bits_of_same_rest k x y rest)

pub bits_of-number_of : (bs : List Bool) → bits_of (length bs) (number_of bs) ≡ bs
unfolding bits_of number_of
bits_of-number_of [] = refl
bits_of-number_of (b ∷ bs) =
    let small : number_of bs < 2 ^ length bs = number_of_below bs in
    let x : ℕ = bit b * 2 ^ length bs + number_of bs in
    let top : x / 2 ^ length bs % 2 ≡ bit b = ap (λ (n : ℕ). n % 2) (high (bit b) (length bs) small) ∙ mod-eq_of_lt (bit_below_two b) in
    let rest : x % 2 ^ length bs ≡ number_of bs % 2 ^ length bs = low (bit b) (length bs) small ∙ sym (mod-eq_of_lt small) in
    cc (top, is_one-bit b, bits_of_same_rest (length bs) x (number_of bs) rest, bits_of-number_of bs)

-- the bit at place i of a field
pub get_or-bits_of : (k i x : ℕ) → i < k → get_or (bits_of k x) i false ≡ is_one (x / 2 ^ (k - suc i) % 2)
unfolding bits_of
get_or-bits_of zero i x h = absurd (omega arith)
get_or-bits_of (suc k) zero x h = rw (suc-sub-suc, sub-zero)
get_or-bits_of (suc k) (suc i) x h = rw suc-sub-suc (get_or-bits_of k i x (omega arith))

-- one run after another: the first is the higher part of the number
pub number_of-append : (ps bs : List Bool) → number_of (ps ++ bs) ≡ number_of ps * 2 ^ length bs + number_of bs
unfolding number_of
number_of-append [] bs = omega arith
number_of-append (a ∷ ps) bs =
    let power : 2 ^ length (ps ++ bs) ≡ 2 ^ length ps * 2 ^ length bs = rw (length-append, pow-add) in
    rw (power, number_of-append ps bs, add-mul, mul_assoc, add_assoc)

-- the bits of bytes

pub length-bits_of_bytes : (xs : List ℕ) → length (bits_of_bytes xs) ≡ 8 * length xs
unfolding bits_of_bytes
length-bits_of_bytes [] = refl
length-bits_of_bytes (x ∷ xs) = rw (length-append, length-bits_of) (omega (arith, length-bits_of_bytes xs))

pub bits_of_bytes-append : (xs ys : List ℕ) → bits_of_bytes (xs ++ ys) ≡ bits_of_bytes xs ++ bits_of_bytes ys
unfolding bits_of_bytes
bits_of_bytes-append [] ys = refl
bits_of_bytes-append (x ∷ xs) ys = rw (append_assoc, ← bits_of_bytes-append xs ys)

-- bytes with the same bits are the same
pub bits_of_bytes_injective : (xs ys : List ℕ) → ((i : ℕ) → i < length xs → get_or xs i 0 < 256)
    → ((i : ℕ) → i < length ys → get_or ys i 0 < 256)
    → bits_of_bytes xs ≡ bits_of_bytes ys → xs ≡ ys
unfolding bits_of_bytes
bits_of_bytes_injective [] [] hx hy e = refl
bits_of_bytes_injective [] (y ∷ ys) hx hy e = absurd (omega (arith, simp (length-append, length-bits_of) at (ap length e)))
bits_of_bytes_injective (x ∷ xs) [] hx hy e = absurd (omega (arith, simp (length-append, length-bits_of) at (ap length e)))
bits_of_bytes_injective (x ∷ xs) (y ∷ ys) hx hy e =
    let same = append_injective (bits_of 8 x) (bits_of 8 y) (length-bits_of 8 x ∙ sym (length-bits_of 8 y)) e in
    cc (
      bits_of_injective 8 (hx 0 (omega arith)) (hy 0 (omega arith)) same.0,
      bits_of_bytes_injective xs ys (λ i h. hx (suc i) (omega arith)) (λ i h. hy (suc i) (omega arith)) same.1,
    )
