-- Points of reference: the bits of a number, what they stand for, and its value; and bursts with their findings.
-- To be believed: all of it, beside a table of IEEE 754's patterns. Assumes nothing.
use Rattle.std.specs.Prelude.{true, false, ◌∷◌, ◌≡◌, ℕ, ◌-◌, ◌*◌, ◌^◌, replicate}
use Rattle.std.specs.Float.{binary32}
use Rattle.std.specs.Float.Ieee.{of_bits}
use Rattle.quantise.specs.Number.{Number, not_a_number, infinite, exactly, number_of}
use Rattle.quantise.specs.Value.{value_of}
use Rattle.quantise.specs.Finding.{finding_of}
use Rattle.quantise.specs.declared.Finding.TheVariants.{Heard, Silent, Faulty}

pub record At (bits : ℕ) (number : Number) (value : ℕ) : Type 0 where
  pub stands : number_of bits ≡ number
  pub gives : value_of number ≡ value

pub record Cases : Type 0 where
  -- halves go away from zero
  pub half : At 0x3f00_0000 (exactly false (2 ^ 148)) 1
  pub minus_half : At 0xbf00_0000 (exactly true (2 ^ 148)) 255
  pub two_and_a_half : At 0x4020_0000 (exactly false (5 * 2 ^ 148)) 3
  pub minus_two_and_a_half : At 0xc020_0000 (exactly true (5 * 2 ^ 148)) 253
  -- 0.49999997, to which 1/2 cannot be added in the format: it would give 1
  pub just_below_half : At 0x3eff_ffff (exactly false ((2 ^ 24 - 1) * 2 ^ 124)) 0
  -- 8388609, to which 1/2 cannot be added in the format either
  pub odd_and_large : At 0x4b00_0001 (exactly false (8388609 * 2 ^ 149)) 127
  -- held at 127 and -127
  pub at126_and_a_half : At 0x42fd_0000 (exactly false (253 * 2 ^ 148)) 127
  pub just_below126_and_a_half : At 0x42fc_ffff (exactly false ((253 * 2 ^ 16 - 1) * 2 ^ 132)) 126
  pub at127_and_a_half : At 0x42ff_0000 (exactly false (255 * 2 ^ 148)) 127
  pub at128 : At 0x4300_0000 (exactly false (128 * 2 ^ 149)) 127
  pub at_minus128 : At 0xc300_0000 (exactly true (128 * 2 ^ 149)) 129
  pub greatest_number : At 0x7f7f_ffff (exactly false ((2 ^ 24 - 1) * 2 ^ 253)) 127
  -- the least above zero, and both zeros
  pub least_number : At 0x0000_0001 (exactly false 1) 0
  pub zero : At 0x0000_0000 (exactly false 0) 0
  pub minus_zero : At 0x8000_0000 (exactly true 0) 0
  -- what is no finite number
  pub infinity : At 0x7f80_0000 (infinite false) 127
  pub minus_infinity : At 0xff80_0000 (infinite true) 129
  pub quiet_nan : At 0x7fc0_0000 not_a_number 0
  pub signalling_nan : At 0xff80_0001 not_a_number 0
  -- findings: zeros of both signs; one number that is not zero among them, though every value is 0; an infinity; a
  -- NaN beside it
  pub zeros : finding_of (0x8000_0000 ∷ replicate 23 0) ≡ Silent
  pub least_among_zeros : finding_of (0x8000_0001 ∷ replicate 23 0) ≡ Heard (of_bits binary32 0x0000_0001)
  pub infinity_among_zeros : finding_of (0xff80_0000 ∷ replicate 23 0) ≡ Heard (of_bits binary32 0x7f80_0000)
  pub nan_beside_infinity : finding_of (0x7f80_0000 ∷ 0x7f80_0001 ∷ replicate 22 0) ≡ Faulty
