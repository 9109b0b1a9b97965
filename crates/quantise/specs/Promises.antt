-- What quantising promises, sentence by sentence of #101, of whatever meets its contract.
-- To be believed: all of it. Assumes nothing.
use Rattle.std.specs.Prelude.{Ok, Bool, true, false, not, cond, List, ◌≡◌, ℕ, ◌+◌, ◌-◌, ◌*◌, ◌%◌, ◌^◌, ◌≤◌, ◌<◌, T, Float, length, get_or}
use Rattle.std.specs.Bool.{beq}
use Rattle.std.specs.Float.{nan, inf, fin, binary32}
use Rattle.std.specs.Float.Ieee.{to_bits, fits, up, down}
use Rattle.coder.specs.Cost as coder
use Rattle.quantise.specs.Number.{Number, not_a_number, infinite, exactly, number_of}
use Rattle.quantise.specs.Value.{nearest_whole, held, byte_of, value_of}
use Rattle.quantise.specs.Finding.{magnitude, exceeds, some_nan, all_zero}
use Rattle.quantise.specs.declared.Finding.TheVariants.{Heard, Silent, Faulty}
use Rattle.quantise.specs.Answers.{Quantised, quantised_refusal}
use Rattle.quantise.specs.Quantise.{patterns, Quantises}

-- ---- the kit's account of a number and what its bits stand for

-- the kit's m 2^e is u times 2^-149
abbrev pub Stands : Float → Number → Type 0
Stands nan n = n ≡ not_a_number
Stands (inf s) n = n ≡ infinite s
Stands (fin s m e) n = (u : ℕ) × (n ≡ exactly s u) × (m * up e * 2 ^ 149 ≡ u * down e)

-- "The exact value of the float, written over whole numbers from its bits, is the yardstick": every number of the
-- format is just what its bits say
abbrev pub Account : Type 0
Account = (x : Float) → T (fits binary32 x) → Stands x (number_of (to_bits binary32 x))

-- ---- the value

-- how far plus or minus u times 2^-149 lies from plus or minus the whole number w, in 2^-149
abbrev pub distance : Bool → ℕ → Bool → ℕ → ℕ
distance s u t w = cond (beq s t) (u - w * 2 ^ 149 + (w * 2 ^ 149 - u)) (u + w * 2 ^ 149)

abbrev pub opposite : Number → Number
opposite not_a_number = not_a_number
opposite (infinite s) = infinite (not s)
opposite (exactly s u) = exactly (not s) u

-- the order of numbers; a NaN has no place in it
pub data AtMost : Number → Number → Type 0 where
  infinity : {s : Bool} → AtMost (infinite s) (infinite s)
  from_minus_infinity : {s : Bool} {u : ℕ} → AtMost (infinite true) (exactly s u)
  to_infinity : {s : Bool} {u : ℕ} → AtMost (exactly s u) (infinite false)
  infinities : AtMost (infinite true) (infinite false)
  minus : {u v : ℕ} → v ≤ u → AtMost (exactly true u) (exactly true v)
  minus_plus : {u v : ℕ} → AtMost (exactly true u) (exactly false v)
  plus : {u v : ℕ} → u ≤ v → AtMost (exactly false u) (exactly false v)
  zeros : AtMost (exactly false 0) (exactly true 0)

-- a value is the whole number of this sign and magnitude
pub record Is (v : ℕ) (s : Bool) (w : ℕ) : Type 0 where
  pub byte : v ≡ byte_of s w
  pub within : w ≤ 127

-- the value of plus or minus u times 2^-149 is the whole number w with the same sign, and of it:
pub record Rounds (s : Bool) (u w : ℕ) : Type 0 where
  pub value : Is (value_of (exactly s u)) s w
  -- "nearest whole number .. held at 127 and -127": no other whole number from -127 to 127 is nearer
  pub nearest : (t : Bool) (v : ℕ) → v ≤ 127 → distance s u s w ≤ distance s u t v
  -- where it is not held, at magnitudes below 127 and a half, its distance is at most a half
  pub within_half : 2 * u < 255 * 2 ^ 149 → 2 * distance s u s w ≤ 2 ^ 149
  -- "halves away from zero": of two that are equally near it is the one farther from zero
  pub halves : (t : Bool) (v : ℕ) → v ≤ 127 → distance s u s w ≡ distance s u t v → v ≤ w

pub record Values : Type 0 where
  -- every finite number is rounded so
  pub rounds : (s : Bool) (u : ℕ) → (w : ℕ) × Rounds s u w
  -- "a NaN becomes 0"; "Infinities count as ±127"
  pub of_nan : value_of not_a_number ≡ 0
  pub of_infinity : (s : Bool) → Is (value_of (infinite s)) s 127
  -- what recovery hears of a number: it stands against the bit that it does not say by its rounded magnitude, and
  -- against the other by nothing.
  -- A negative number says 0 and so stands against 1: the sign minus and the bit 1 are both `true`
  pub against :
      (s : Bool) (u : ℕ) → (coder.against s (value_of (exactly s u)) ≡ held (nearest_whole u)) × (coder.against (not s) (value_of (exactly s u)) ≡ 0)
  -- and a magnitude of at least one half is never silent there
  pub speaks : (s : Bool) (u : ℕ) → 2 ^ 148 ≤ u → 0 < coder.against s (value_of (exactly s u))
  -- every value is from -127 to 127: no byte is ever -128
  pub never_minus128 : (n : Number) → value_of n ≡ 128 → ⊥
  pub a_byte : (n : Number) → value_of n < 256
  -- a number and its negative give opposite values
  pub opposites : (n : Number) → (value_of n + value_of (opposite n)) % 256 ≡ 0
  -- a greater number never gives a lesser value: bytes in two's complement are in order once 128 is added to each
  pub ordered : {x y : Number} → AtMost x y → (value_of x + 128) % 256 ≤ (value_of y + 128) % 256

-- ---- the finding

-- p is the bits of the greatest magnitude: that of one of the numbers, and no magnitude exceeds it
pub record Peaks (bs : List ℕ) (p : ℕ) : Type 0 where
  pub place : ℕ
  pub within : place < length bs
  pub one : p ≡ magnitude (get_or bs place 0)
  pub most : (k : ℕ) → k < length bs → exceeds (number_of (get_or bs k 0)) (number_of p) ≡ false

pub record Findings (numbers : List Float) (answer : Quantised) : Type 0 where
  -- "faulty because a NaN was present", whatever else is there
  pub faulty : some_nan (patterns numbers) ≡ true → answer ≡ Ok Faulty
  -- "Silent means that all 24 are plus or minus zero"
  pub silent : all_zero (patterns numbers) ≡ true → answer ≡ Ok Silent
  -- "heard with its peak magnitude", in every other case; "Infinities count .. as the peak", since nothing exceeds one
  pub heard :
      some_nan (patterns numbers) ≡ false → all_zero (patterns numbers) ≡ false
      → (peak : Float) × (answer ≡ Ok (Heard peak)) × Peaks (patterns numbers) (to_bits binary32 peak)

-- ---- every answer

pub record NoSecond : Type 0 where
  pub answer :
      {numbers : List Float} {before after after' : List ℕ} {answer answer' : Quantised}
      → Quantises numbers before after answer → Quantises numbers before after' answer' → answer ≡ answer'
  pub buffer :
      {numbers : List Float} {before after after' : List ℕ} {answer answer' : Quantised}
      → Quantises numbers before after answer → Quantises numbers before after' answer' → after ≡ after'

pub record Promises : Type 0 where
  pub account : Account
  pub values : Values
  pub findings :
      {numbers : List Float} {before after : List ℕ} {answer : Quantised}
      → Quantises numbers before after answer → quantised_refusal answer ≡ 0 → Findings numbers answer
  pub no_second : NoSecond
