-- The rule of the table of the whitening sequence: what is computed from the nine ones is what the table must hold, and each of
-- its 511 entries is the bit of its place. Assumes nothing.
use mathlib.Core.Bool.{Bool}
use mathlib.Core.List.{List, [], ◌∷◌}
use mathlib.Core.Path.{◌≡◌, ap, sym, ◌∙◌}
use Prim.Native.Nat.{ℕ, zero, suc, ◌+◌, ◌%◌, ◌<◌}
use native.Mathlib.Nat.{add-zero, zero-add, add-suc, suc-add}
use native.Mathlib.Omega.{arith}
use lib.ListN.{get_or}
use Rattle.bits.specs.Bits.{bit}
use Rattle.whiten.specs.Whiten.{next, before, white}
use Rattle.whiten.proofs.Period.{white-mod}

-- the n bits that come after a history, newest first, as bytes: the list is walked once
unfoldable pub after : ℕ → List Bool → List ℕ
after zero h = []
after (suc n) h = bit (next h) ∷ after n (next h ∷ h)

get_d_after : (n k i : ℕ) → i < n → get_or (after n (before k)) i 0 ≡ bit (white (k + i))
unfolding after before white
get_d_after zero k i h = absurd (omega arith)
get_d_after (suc n) k zero h = ap (λ (j : ℕ). bit (white j)) (sym (add-zero k))
get_d_after (suc n) k (suc i) h =
    get_d_after n (suc k) i (omega arith) ∙ ap (λ (j : ℕ). bit (white j)) (suc-add k i ∙ sym (add-suc k i))

-- the entry at the place of k in the period
pub entry : (k : ℕ) {place : ℕ} → place ≡ k % 511 → get_or (after 511 (before 0)) place 0 ≡ bit (white k)
entry k {place} e =
    let at_place : white (0 + place) ≡ white k = ap white (zero-add place ∙ e) ∙ white-mod k in
    let inside : place < 511 = omega arith in
    get_d_after 511 0 place inside ∙ ap bit at_place
