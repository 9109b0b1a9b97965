-- Laws of the cyclic redundancy checks: a run is taken in parts, the register stays below 2 to its width, and CRC-8's step is
-- computed with no test. Assumes nothing.
use mathlib.Core.Bool.{Bool, true, false, cond, xor}
use mathlib.Core.List.{List, [], ◌∷◌, ◌++◌, map}
use mathlib.Core.Path.{◌≡◌, refl}
use Prim.Native.Nat.{ℕ, ◌+◌, ◌*◌, ◌/◌, ◌%◌, ◌^◌, ◌<◌}
use native.Mathlib.Nat.{mod-lt}
use native.Mathlib.Omega.{arith}
use borrow.Author.Tests.{leb-true, leb-false}
use lib.Bits.{bit_xor, xor_lt, xor_zero_r}
use lib.Dec.{leb}
use lib.Pow.{pow_pos}
use Rattle.std.specs.List.{fold}
use Rattle.bits.specs.Bits.{bit, is_one, bits_of, bits_of_bytes}
use Rattle.crc.specs.Crc.{crc_step, crc_from, crc8}

module _ (width polynomial : ℕ) where
  -- one run after another: the second starts from the register that the first leaves
  pub crc_from-append : (r : ℕ) (bs cs : List Bool)
      → crc_from width polynomial r (bs ++ cs) ≡ crc_from width polynomial (crc_from width polynomial r bs) cs
  unfolding crc_from
  crc_from-append r [] cs = refl
  crc_from-append r (b ∷ bs) cs = crc_from-append (crc_step width polynomial r b) bs cs

  -- over the bits that bytes carry, the register goes from one byte to the next
  pub crc_from-fold : (r : ℕ) (v : List ℕ)
      → crc_from width polynomial r (map is_one v) ≡ fold (λ r b. crc_step width polynomial r (is_one b)) r v
  unfolding crc_from
  crc_from-fold r [] = refl
  crc_from-fold r (x ∷ v) = crc_from-fold (crc_step width polynomial r (is_one x)) v

  module _ (fits : polynomial < 2 ^ width) where
    cond_below : (taken : Bool) {m : ℕ} → m < 2 ^ width → cond taken (bit_xor m polynomial) m < 2 ^ width
    cond_below true {m} h = xor_lt width m polynomial h fits
    cond_below false h = h

    pub crc_step_below : (r : ℕ) (b : Bool) → crc_step width polynomial r b < 2 ^ width
    unfolding crc_step
    crc_step_below r b = cond_below (xor (leb (2 ^ width) (r * 2)) b) (mod-lt (r * 2) (pow_pos width))

    pub crc_from_below : (r : ℕ) (bs : List Bool) → r < 2 ^ width → crc_from width polynomial r bs < 2 ^ width
    unfolding crc_from
    crc_from_below r [] h = h
    crc_from_below r (b ∷ bs) h = crc_from_below (crc_step width polynomial r b) bs (crc_step_below r b)

-- a bit added to the register's highest place leaves there whether it differs from the bit that leaves the register
overlay_by_case : (r : ℕ) (leaves b : Bool) → r < 256 → leb 256 (r * 2) ≡ leaves
    → (r + 128 * bit b) % 256 / 128 * 0x9B ≡ cond (xor leaves b) 0x9B 0
unfolding xor
overlay_by_case r true true h e = omega (arith, leb-true)
overlay_by_case r true false h e = omega (arith, leb-true)
overlay_by_case r false true h e = omega (arith, leb-false)
overlay_by_case r false false h e = omega (arith, leb-false)

xor-cond : (m p : ℕ) (t : Bool) → bit_xor m (cond t p 0) ≡ cond t (bit_xor m p) m
xor-cond m p true = refl
xor-cond m p false = xor_zero_r m

-- so the step of CRC-8 needs no test: a product lays the polynomial over
pub crc8_step_overlay : (r : ℕ) (b : Bool) {h : ℕ} → r < 256 → h ≡ bit b
    → bit_xor (r * 2 % 256) ((r + 128 * h) % 256 / 128 * 0x9B) ≡ crc_step 8 0x9B r b
unfolding crc_step
crc8_step_overlay r b fits e =
    rw (e, overlay_by_case r (leb 256 (r * 2)) b fits refl) (xor-cond (r * 2 % 256) 0x9B (xor (leb 256 (r * 2)) b))

pub crc8_below_256 : (bs : List Bool) → crc8 bs < 256
unfolding crc8
crc8_below_256 bs = crc_from_below 8 0x9B (omega arith) 0xFF bs (omega arith)

-- the nine digits of ASCII, the run by which such checks are told apart
pub crc8_digits : crc8 (bits_of_bytes (0x31 ∷ 0x32 ∷ 0x33 ∷ 0x34 ∷ 0x35 ∷ 0x36 ∷ 0x37 ∷ 0x38 ∷ 0x39 ∷ [])) ≡ 0xDA
unfolding crc8 crc_from crc_step xor bits_of_bytes bits_of
crc8_digits = refl
