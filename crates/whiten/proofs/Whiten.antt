-- Laws of whitening: it keeps the length, goes bit by bit, and done twice gives the bits back.
-- Assumes nothing.
use mathlib.Core.Bool.{Bool, false, xor}
use mathlib.Core.List.{List, [], ◌∷◌, ◌++◌}
use mathlib.Core.Path.{◌≡◌, refl, ap, sym, ◌∙◌}
use Prim.Native.Nat.{ℕ, zero, suc, ◌+◌, ◌%◌, ◌<◌}
use native.Mathlib.Nat.{add-zero, zero-add}
use native.Mathlib.Omega.{arith}
use lib.ListN.{length, get_or, replicate}
use Rattle.bits.specs.Bits.{bits_of, bits_of_bytes}
use Rattle.bits.proofs.Xor.{xor_self_cancel}
use Rattle.whiten.specs.Whiten.{next, before, white, whitened, whitened_from}
use Rattle.whiten.proofs.Period.{white-mod}

pub length-whitened_from : (k : ℕ) (bs : List Bool) → length (whitened_from k bs) ≡ length bs
unfolding whitened_from
length-whitened_from k [] = refl
length-whitened_from k (b ∷ bs) = ap suc (length-whitened_from (suc k) bs)

pub length-whitened : (bs : List Bool) → length (whitened bs) ≡ length bs
unfolding whitened
length-whitened bs = length-whitened_from 0 bs

pub whitened_from-whitened_from : (k : ℕ) (bs : List Bool) → whitened_from k (whitened_from k bs) ≡ bs
unfolding whitened_from
whitened_from-whitened_from k [] = refl
whitened_from-whitened_from k (b ∷ bs) = cc (xor_self_cancel b (white k), whitened_from-whitened_from (suc k) bs)

-- whitening twice gives the bits back
pub whitened-whitened : (bs : List Bool) → whitened (whitened bs) ≡ bs
unfolding whitened
whitened-whitened bs = whitened_from-whitened_from 0 bs

pub whitened_from-append : (k : ℕ) (bs cs : List Bool)
    → whitened_from k (bs ++ cs) ≡ whitened_from k bs ++ whitened_from (k + length bs) cs
unfolding whitened_from
whitened_from-append k [] cs = ap (λ (n : ℕ). whitened_from n cs) (sym (add-zero k))
whitened_from-append k (b ∷ bs) cs =
    let place : suc k + length bs ≡ k + suc (length bs) = omega arith in
    cc (whitened_from-append (suc k) bs cs)

pub whitened-append : (bs cs : List Bool) → whitened (bs ++ cs) ≡ whitened bs ++ whitened_from (length bs) cs
unfolding whitened
whitened-append bs cs = rw (← zero-add (length bs)) (whitened_from-append 0 bs cs)

pub get_or-whitened_from : (k : ℕ) (bs : List Bool) (i : ℕ) → i < length bs
    → get_or (whitened_from k bs) i false ≡ xor (get_or bs i false) (white (k + i))
unfolding whitened_from
get_or-whitened_from k [] i h = absurd (omega arith)
get_or-whitened_from k (b ∷ bs) zero h = ap (λ (n : ℕ). xor b (white n)) (sym (add-zero k))
get_or-whitened_from k (b ∷ bs) (suc i) h =
    let place : suc k + i ≡ k + suc i = omega arith in
    cc (get_or-whitened_from (suc k) bs i (omega arith))

-- the bit at place i meets w(i)
pub get_or-whitened : (bs : List Bool) (i : ℕ) → i < length bs
    → get_or (whitened bs) i false ≡ xor (get_or bs i false) (white i)
unfolding whitened
get_or-whitened bs i h = get_or-whitened_from 0 bs i h ∙ ap (λ (n : ℕ). xor (get_or bs i false) (white n)) (zero-add i)

-- two places of one period
pub whitened_from_same_place : (j k : ℕ) → j % 511 ≡ k % 511 → (bs : List Bool) → whitened_from j bs ≡ whitened_from k bs
unfolding whitened_from
whitened_from_same_place j k e [] = refl
whitened_from_same_place j k e (b ∷ bs) =
    let same : white j ≡ white k = sym (white-mod j) ∙ ap white e ∙ white-mod k in
    cc (whitened_from_same_place (suc j) (suc k) (omega arith) bs)

-- zeros show the sequence: its first 24 bits
pub whitened-zeros : whitened (replicate 24 false) ≡ bits_of_bytes (0x0F ∷ 0x70 ∷ 0xB3 ∷ [])
unfolding whitened whitened_from white next before xor bits_of_bytes bits_of
whitened-zeros = refl
