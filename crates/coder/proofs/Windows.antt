-- The sums by which code makes the three output bits of a step from the newest seven bits as a number are what 001's
-- words select: one test over the 128 numbers for each word. Assumes nothing.
use mathlib.Core.Bool.{Bool, true, xor}
use mathlib.Core.List.{[], ◌∷◌, map}
use mathlib.Core.Path.{◌≡◌, refl}
use Prim.Native.Nat.{ℕ, ◌%◌, ◌<◌}
use borrow.Author.Tests.{eqb-true}
use lib.Bits.{bit_and}
use lib.Count.{ones as count_ones}
use lib.Dec.{eqb}
use Rattle.lists.proofs.Every.{every, every-at}
use Rattle.bits.specs.Bits.{bit, bits_of}
use Rattle.coder.specs.Coder.{tap, outputs, uplink_words}

-- the sum of the bits that a word selects from seven bits, the newest highest
abbrev pub selected : ℕ → ℕ → ℕ
selected word w = count_ones (bit_and w word) % 2

-- whether it is what the word's bits tap from the seven
right : ℕ → ℕ → Bool
right word w = eqb (selected word w) (bit (tap (bits_of 7 word) (bits_of 7 w)))

first_right : every 128 (right 0o155) ≡ true
unfolding right tap xor bits_of count_ones
first_right = refl

second_right : every 128 (right 0o123) ≡ true
unfolding right tap xor bits_of count_ones
second_right = refl

third_right : every 128 (right 0o137) ≡ true
unfolding right tap xor bits_of count_ones
third_right = refl

selected_taps : (word : ℕ) → every 128 (right word) ≡ true → (w : ℕ) → w < 128
    → selected word w ≡ bit (tap (bits_of 7 word) (bits_of 7 w))
unfolding right
selected_taps word all w h = eqb-true _ _ (every-at 128 (right word) all w h)

-- the three sums are the three output bits of a step
pub sums_outputs : (w : ℕ) → w < 128
    → selected 0o155 w ∷ selected 0o123 w ∷ selected 0o137 w ∷ [] ≡ map bit (outputs uplink_words (bits_of 7 w))
unfolding uplink_words
sums_outputs w h =
    cc (
      selected_taps 0o155 first_right w h,
      selected_taps 0o123 second_right w h,
      selected_taps 0o137 third_right w h,
    )
