-- How many coded bits a string has, and that two strings with the same coded bits are the same where each step's outputs tell its newest bit.
-- Assumes nothing.
use mathlib.Core.Bool.{Bool, true, false, ◌&&◌, xor, true≢false, false≢true}
use mathlib.Core.List.{List, [], ◌∷◌, ◌++◌}
use mathlib.Core.Path.{◌≡◌, refl, sym, ap, ◌∙◌}
use Prim.Native.Nat.{◌+◌, ◌*◌}
use native.Mathlib.Omega.{arith}
use lib.ListN.{length, length-append, drop, take, get_or}
use lib.Seq.{take_at}
use Rattle.bits.specs.Bits.{bits_of}
use Rattle.coder.specs.Coder.{tap, Words, coded_after, tail, coded, uplink_words, Tells}

-- what follows is the same, so what comes before is
append_cancel : (xs ys zs : List Bool) → length xs ≡ length ys → xs ++ zs ≡ ys ++ zs → xs ≡ ys
append_cancel xs ys zs e h = sym (take_at xs zs (length xs) refl) ∙ ap (λ (l : List Bool). take (length xs) l) h ∙ take_at ys zs (length xs) (sym e)

-- no bit is its own opposite
flips : (b : Bool) → xor (false && true) b ≡ xor (true && true) b → ⊥
unfolding xor
flips true h = true≢false h
flips false h = false≢true h

pub length-coded_after : (w : Words) (taken xs : List Bool) → length (coded_after w taken xs) ≡ 3 * length xs
unfolding coded_after
length-coded_after w taken [] = refl
length-coded_after w taken (x ∷ xs) = omega (arith, length-coded_after w (x ∷ taken) xs)

-- three for each bit and for each of the six that follow
pub length-coded : (w : Words) (xs : List Bool) → length (coded w xs) ≡ 3 * (length xs + 6)
unfolding coded
length-coded w xs = omega (arith, length-coded_after w [] (xs ++ tail), length-append xs tail)

module _ (w : Words) (tells : Tells w) where
  -- the same outputs after the same bits: the same bits
  coded_after_injective : (taken xs ys : List Bool) → length xs ≡ length ys → coded_after w taken xs ≡ coded_after w taken ys → xs ≡ ys
  unfolding coded_after
  coded_after_injective taken [] [] e h = refl
  coded_after_injective taken [] (y ∷ ys) e h = absurd (omega arith)
  coded_after_injective taken (x ∷ xs) [] e h = absurd (omega arith)
  coded_after_injective taken (false ∷ xs) (false ∷ ys) e h =
      ap (λ (l : List Bool). false ∷ l) (coded_after_injective (false ∷ taken) xs ys (omega arith) (ap (λ (l : List Bool). drop 3 l) h))
  coded_after_injective taken (true ∷ xs) (true ∷ ys) e h =
      ap (λ (l : List Bool). true ∷ l) (coded_after_injective (true ∷ taken) xs ys (omega arith) (ap (λ (l : List Bool). drop 3 l) h))
  coded_after_injective taken (false ∷ xs) (true ∷ ys) e h = absurd (tells taken (ap (λ (l : List Bool). take 3 l) h))
  coded_after_injective taken (true ∷ xs) (false ∷ ys) e h = absurd (tells taken (ap (λ (l : List Bool). take 3 l) (sym h)))

  -- two strings of one length with the same coded bits are the same
  pub coded_injective : (xs ys : List Bool) → length xs ≡ length ys → coded w xs ≡ coded w ys → xs ≡ ys
  unfolding coded
  coded_injective xs ys e h =
      append_cancel xs ys tail e (coded_after_injective [] (xs ++ tail) (ys ++ tail) (omega (arith, length-append xs tail, length-append ys tail)) h)

-- each of 001's words selects the newest bit
pub uplink_words_tell : Tells uplink_words
unfolding uplink_words tap bits_of xor
uplink_words_tell taken h = flips (tap (bits_of 6 0o155) taken) (ap (λ (l : List Bool). get_or l 0 false) h)
