-- The convolutional code, TS 103 357 clause 6.4.6.3 and document 01, "Coding": rate 1/3, constraint length 7, six zero bits at the end; for any three generator words.
-- To be believed: tap, Words, outputs, coded_after, tail, coded, uplink_words, Tells. Assumes nothing.
use Rattle.std.specs.Prelude.{Bool, true, false, ◌&&◌, List, [], ◌∷◌, ◌++◌, ◌≡◌, replicate}
use Rattle.std.specs.Bool.{xor}
use Rattle.bits.specs.Bits.{bits_of}

-- the xor of the bits that a generator word selects from the bits taken so far, newest first: the word's first bit applies to the newest, and bits before the start are 0
unfoldable pub tap : List Bool → List Bool → Bool
tap [] taken = false
tap (g ∷ gs) [] = false
tap (g ∷ gs) (b ∷ taken) = xor (g && b) (tap gs taken)

-- three generator words, each with the bit that applies to the newest input first
pub record Words : Type 0 where
  pub first : List Bool
  pub second : List Bool
  pub third : List Bool

-- the three output bits of one step, after which the bits taken are as given, newest first
abbrev pub outputs : Words → List Bool → List Bool
outputs w taken = tap w.first taken ∷ tap w.second taken ∷ tap w.third taken ∷ []

-- the output bits for a run of bits that enter the coder after those already taken
unfoldable pub coded_after : Words → List Bool → List Bool → List Bool
coded_after w taken [] = []
coded_after w taken (x ∷ xs) = outputs w (x ∷ taken) ++ coded_after w (x ∷ taken) xs

-- zero-tailing: six zero bits follow
abbrev pub tail : List Bool
tail = replicate 6 false

-- the coded bits of a string
unfoldable pub coded : Words → List Bool → List Bool
coded w xs = coded_after w [] (xs ++ tail)

-- 6.4.6.3: polynomials (0155, 0123, 0137) (octal), the first bit at the newest input (docs/DECISIONS.md, "Generator words")
unfoldable pub uplink_words : Words
uplink_words = record { first = bits_of 7 0o155; second = bits_of 7 0o123; third = bits_of 7 0o137 }

-- what a step gives for a 0 differs from what it gives for a 1, whatever was taken before: then no two strings have the same coded bits (`coded_injective` of proofs/Coded.antt)
abbrev pub Tells : Words → Type 0
Tells w = (taken : List Bool) → outputs w (false ∷ taken) ≡ outputs w (true ∷ taken) → ⊥
