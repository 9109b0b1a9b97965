-- The number of the last six bits gives the same outputs as all the bits taken, for words of at most seven bits, and moves as they do.
-- Assumes nothing.
use mathlib.Core.Bool.{Bool, true, false, ◌&&◌, xor}
use mathlib.Core.List.{List, [], ◌∷◌, ◌++◌}
use mathlib.Core.Path.{◌≡◌, refl, sym, ap, ◌∙◌}
use Prim.Native.Nat.{ℕ, zero, suc, ◌+◌, ◌/◌, ◌%◌, ◌<◌, ◌≤◌}
use native.Mathlib.Omega.{arith}
use lib.ListN.{length, take, replicate}
use lib.Seq.{take-take}
use Rattle.bits.specs.Bits.{bits_of}
use Rattle.coder.specs.Coder.{tap, Words, outputs, uplink_words}
use Rattle.coder.specs.Register.{Holds, shifted, Short}

-- a word selects nothing from zeros
tap-zeros : (g : List Bool) (k z : ℕ) → tap g (take k (replicate z false)) ≡ false
unfolding tap xor
tap-zeros [] k z = refl
tap-zeros (g ∷ gs) zero z = refl
tap-zeros (g ∷ gs) (suc k) zero = refl
tap-zeros (true ∷ gs) (suc k) (suc z) = rw (tap-zeros gs k z)
tap-zeros (false ∷ gs) (suc k) (suc z) = rw (tap-zeros gs k z)

-- a word of at most k bits sees the newest k only, and zeros before the start
pub tap-take : (g taken : List Bool) (k z : ℕ) → length g ≤ k → tap g taken ≡ tap g (take k (taken ++ replicate z false))
unfolding tap
tap-take [] taken k z h = refl
tap-take (g ∷ gs) taken zero z h = absurd (omega arith)
tap-take (g ∷ gs) [] (suc k) z h = sym (tap-zeros (g ∷ gs) (suc k) z)
tap-take (g ∷ gs) (b ∷ taken) (suc k) z h = ap (λ (r : Bool). xor (g && b) r) (tap-take gs taken k z (omega arith))

-- at the start no bit was taken
pub holds_start : Holds [] 0
unfolding bits_of
holds_start = record { below = omega arith; last_six = refl }

shifted_true : (s : ℕ) → s < 64 → bits_of 6 (s / 2 + 32) ≡ true ∷ take 5 (bits_of 6 s)
unfolding bits_of
shifted_true s h =
    let e5 : (s / 2 + 32) / 32 % 2 ≡ 1 = omega arith in
    let e4 : (s / 2 + 32) / 16 % 2 ≡ s / 32 % 2 = omega arith in
    let e3 : (s / 2 + 32) / 8 % 2 ≡ s / 16 % 2 = omega arith in
    let e2 : (s / 2 + 32) / 4 % 2 ≡ s / 8 % 2 = omega arith in
    let e1 : (s / 2 + 32) / 2 % 2 ≡ s / 4 % 2 = omega arith in
    let e0 : (s / 2 + 32) / 1 % 2 ≡ s / 2 % 2 = omega arith in
    rw (e5, e4, e3, e2, e1, e0)

shifted_false : (s : ℕ) → s < 64 → bits_of 6 (s / 2) ≡ false ∷ take 5 (bits_of 6 s)
unfolding bits_of
shifted_false s h =
    let e5 : s / 2 / 32 % 2 ≡ 0 = omega arith in
    let e4 : s / 2 / 16 % 2 ≡ s / 32 % 2 = omega arith in
    let e3 : s / 2 / 8 % 2 ≡ s / 16 % 2 = omega arith in
    let e2 : s / 2 / 4 % 2 ≡ s / 8 % 2 = omega arith in
    let e1 : s / 2 / 2 % 2 ≡ s / 4 % 2 = omega arith in
    let e0 : s / 2 / 1 % 2 ≡ s / 2 % 2 = omega arith in
    rw (e5, e4, e3, e2, e1, e0)

-- a bit is taken: the bits of the number move up by one place
pub bits_of-shifted : (b : Bool) (s : ℕ) → s < 64 → bits_of 6 (shifted b s) ≡ b ∷ take 5 (bits_of 6 s)
bits_of-shifted true s h = shifted_true s h
bits_of-shifted false s h = shifted_false s h

pub shifted_below : (b : Bool) (s : ℕ) → s < 64 → shifted b s < 64
shifted_below true s h = omega arith
shifted_below false s h = omega arith

-- the number moves as the bits taken do
pub holds_shifted : (b : Bool) {taken : List Bool} {s : ℕ} → Holds taken s → Holds (b ∷ taken) (shifted b s)
holds_shifted b {taken} {s} p =
    record {
      below = shifted_below b s p.below;
      last_six =
          bits_of-shifted b s p.below
          ∙ ap (λ (l : List Bool). b ∷ take 5 l) p.last_six
          ∙ ap (λ (l : List Bool). b ∷ l) (take-take 5 6 (taken ++ replicate 6 false) (omega arith));
    }

-- a word of at most seven bits selects the same from the number as from all the bits taken
tap-held : (g : List Bool) (b : Bool) {taken : List Bool} {s : ℕ} → length g ≤ 7 → Holds taken s → tap g (b ∷ taken) ≡ tap g (b ∷ bits_of 6 s)
tap-held g b {taken} h p = tap-take g (b ∷ taken) 7 6 h ∙ ap (λ (l : List Bool). tap g (b ∷ l)) (sym p.last_six)

-- a step gives the same outputs from the number as from all the bits taken
pub outputs-held : {w : Words} (b : Bool) {taken : List Bool} {s : ℕ} → Short w → Holds taken s → outputs w (b ∷ taken) ≡ outputs w (b ∷ bits_of 6 s)
outputs-held {w} b h p =
    rw (tap-held w.first b h.first p, tap-held w.second b h.second p, tap-held w.third b h.third p)

pub uplink_words_short : Short uplink_words
unfolding uplink_words bits_of
uplink_words_short = record { first = omega arith; second = omega arith; third = omega arith }
