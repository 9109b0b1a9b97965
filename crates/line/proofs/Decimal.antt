-- Decimal digits: those of `io::decimal` are the definition's, and how many there are at most. Assumes nothing.
use mathlib.Core.Bool.{Bool, true, false, cond}
use mathlib.Core.List.{List, [], ◌∷◌, ◌++◌}
use mathlib.Core.Path.{◌≡◌, sym, ap, ◌∙◌}
use Prim.Native.Nat.{ℕ, zero, suc, ◌+◌, ◌-◌, ◌/◌, ◌%◌, ◌^◌, ◌<◌, ◌≤◌}
use native.Mathlib.Omega.{arith}
use native.Mathlib.Nat.{pow-suc, pow-zero}
use borrow.Author.Tests.{lt-ltb, le-ltb}
use lib.Dec.{ltb}
use lib.ListN.{length, take, length-append}
use Rattle.io.specs.Digits.{last_digits, hex_digit_ascii, IsDigitCount}
use Rattle.line.specs.Line.{decimal_within, decimal}

ten_power_positive : (k : ℕ) → 0 < 10 ^ k
ten_power_positive zero = omega (arith, pow-zero 10)
ten_power_positive (suc k) = omega (arith, pow-suc 10 k, ten_power_positive k)

glyph_digit : (n : ℕ) → hex_digit_ascii (n % 10) ≡ 48 + n % 10
glyph_digit n = rw (lt-ltb (n % 10) 10 (omega arith))

within_one : (m n : ℕ) → n < 10 → decimal_within (suc m) n ≡ ((48 + n) ∷ [])
unfolding decimal_within
within_one m n h = rw (lt-ltb n 10 h)

within_more : (m n : ℕ) → 10 ≤ n → decimal_within (suc m) n ≡ decimal_within m (n / 10) ++ ((48 + n % 10) ∷ [])
unfolding decimal_within
within_more m n h = rw (le-ltb n 10 h)

-- the fewest digits that hold a number are its decimal digits
digits_decimal_within : (m k n : ℕ) → n < 10 ^ suc m → n < 10 ^ suc k → (0 < k → 10 ^ k ≤ n) → last_digits 10 (suc k) n ≡ decimal_within (suc m) n
digits_decimal_within m zero n small h g =
    let below : n < 10 = omega (arith, pow-suc 10 0, pow-zero 10) in
    let same : n % 10 ≡ n = omega arith in
    ap (λ (x : ℕ). x ∷ []) (glyph_digit n ∙ ap (λ (d : ℕ). 48 + d) same) ∙ sym (within_one m n below)
digits_decimal_within zero (suc k) n small h g =
    absurd (omega (arith, g (omega arith), pow-suc 10 0, pow-zero 10, pow-suc 10 k, ten_power_positive k))
digits_decimal_within (suc m) (suc k) n small h g =
    let large : 10 ≤ n = omega (arith, g (omega arith), pow-suc 10 k, ten_power_positive k) in
    let least : 10 ^ suc k ≤ n = g (omega arith) in
    let rest : last_digits 10 (suc k) (n / 10) ≡ decimal_within (suc m) (n / 10) =
    digits_decimal_within m k (n / 10) (omega (arith, pow-suc 10 (suc m))) (omega (arith, pow-suc 10 (suc k))) (λ p. omega (arith, pow-suc 10 k)) in
    ap (λ (l : List ℕ). l ++ (hex_digit_ascii (n % 10) ∷ [])) rest
    ∙ ap (λ (x : ℕ). decimal_within (suc m) (n / 10) ++ (x ∷ [])) (glyph_digit n)
    ∙ sym (within_more (suc m) n large)

pub digits_decimal : (k n : ℕ) → n < 4294967296 → IsDigitCount 10 1 n k → last_digits 10 k n ≡ decimal n
digits_decimal zero n small f = absurd (omega (arith, f.0))
digits_decimal (suc k) n small f =
    let less : suc k - 1 ≡ k = omega arith in
    digits_decimal_within 9 k n (omega arith) f.1 (λ p. rw less at (f.2 (omega arith)))

-- what `io::decimal` leaves first in its buffer
pub taken-decimal : (k n : ℕ) (xs : List ℕ) → n < 4294967296 → IsDigitCount 10 1 n k → take k xs ≡ last_digits 10 k n → take k xs ≡ decimal n
taken-decimal k n xs small f e = e ∙ digits_decimal k n small f

length_more : (m j n : ℕ) → length (decimal_within m (n / 10)) ≤ suc j → length (decimal_within (suc m) n) ≤ suc (suc j)
unfolding decimal_within
length_more m j n ih = at_test (ltb n 10)
  where
    at_test : (t : Bool) → length (cond t ((48 + n) ∷ []) (decimal_within m (n / 10) ++ ((48 + n % 10) ∷ []))) ≤ suc (suc j)
    at_test true = omega arith
    at_test false = rw length-append (omega arith)

-- a number below a power of ten has no more digits than its exponent
length-decimal_within : (m j n : ℕ) → n < 10 ^ suc j → length (decimal_within m n) ≤ suc j
unfolding decimal_within
length-decimal_within zero j n h = omega arith
length-decimal_within (suc m) zero n h = rw (within_one m n (omega (arith, pow-suc 10 0, pow-zero 10))) (omega arith)
length-decimal_within (suc m) (suc j) n h = length_more m j n (length-decimal_within m j (n / 10) (omega (arith, pow-suc 10 (suc j))))

pub length-decimal : (n : ℕ) → n < 4294967296 → length (decimal n) ≤ 10
length-decimal n h = length-decimal_within 10 9 n (omega arith)

pub length-decimal_byte : (n : ℕ) → n ≤ 255 → length (decimal n) ≤ 3
length-decimal_byte n h = length-decimal_within 10 2 n (omega arith)
