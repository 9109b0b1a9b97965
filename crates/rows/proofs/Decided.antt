-- The words of decisions take those of one more moment; a place moves as its state does.
-- Assumes nothing.
use mathlib.Core.Bool.{Bool, true, false}
use mathlib.Core.List.{List}
use mathlib.Core.Path.{◌≡◌, sym, ap, ◌∙◌}
use Prim.Native.Nat.{ℕ, zero, suc, ◌+◌, ◌-◌, ◌*◌, ◌/◌, ◌%◌, ◌^◌, ◌≤◌, ◌<◌}
use native.Mathlib.Nat.{pow-suc, mul_comm, div-div-eq-div-mul}
use native.Mathlib.Decide.{dec_lt}
use native.Mathlib.Omega.{arith}
use lib.ListN.{get_or}
use Rattle.bits.specs.Bits.{bit}
use Rattle.coder.specs.Register.{shifted}
use Rattle.rows.specs.Remaining.{state_at, place_after, taken_at, kept_from, Decided}

bit_le : (b : Bool) → bit b ≤ 1
bit_le true = omega arith
bit_le false = omega arith

-- the lowest fifteen bits are those of the whole
low_bit : (a i : ℕ) → i < 15 → a % 32768 / 2 ^ i % 2 ≡ a / 2 ^ i % 2
low_bit a zero h = omega arith
low_bit a (suc zero) h = omega arith
low_bit a (suc (suc zero)) h = omega arith
low_bit a (suc (suc (suc zero))) h = omega arith
low_bit a (suc (suc (suc (suc zero)))) h = omega arith
low_bit a (suc (suc (suc (suc (suc zero))))) h = omega arith
low_bit a (suc (suc (suc (suc (suc (suc zero)))))) h = omega arith
low_bit a (suc (suc (suc (suc (suc (suc (suc zero))))))) h = omega arith
low_bit a (suc (suc (suc (suc (suc (suc (suc (suc zero)))))))) h = omega arith
low_bit a (suc (suc (suc (suc (suc (suc (suc (suc (suc zero))))))))) h = omega arith
low_bit a (suc (suc (suc (suc (suc (suc (suc (suc (suc (suc zero)))))))))) h = omega arith
low_bit a (suc (suc (suc (suc (suc (suc (suc (suc (suc (suc (suc zero))))))))))) h = omega arith
low_bit a (suc (suc (suc (suc (suc (suc (suc (suc (suc (suc (suc (suc zero)))))))))))) h = omega arith
low_bit a (suc (suc (suc (suc (suc (suc (suc (suc (suc (suc (suc (suc (suc zero))))))))))))) h = omega arith
low_bit a (suc (suc (suc (suc (suc (suc (suc (suc (suc (suc (suc (suc (suc (suc zero)))))))))))))) h = omega arith
low_bit a (suc (suc (suc (suc (suc (suc (suc (suc (suc (suc (suc (suc (suc (suc (suc i))))))))))))))) h = absurd (omega arith)

-- moved up by one place
up_bit : (a d i : ℕ) → d ≤ 1 → i < 15 → (2 * (a % 32768) + d) / 2 ^ suc i % 2 ≡ a / 2 ^ i % 2
up_bit a d i h l =
    ap (λ (q : ℕ). (2 * (a % 32768) + d) / q % 2) (pow-suc 2 i ∙ mul_comm (2 ^ i) 2)
    ∙ ap (λ (q : ℕ). q % 2) (sym (div-div-eq-div-mul (2 * (a % 32768) + d) 2 (2 ^ i)))
    ∙ ap (λ (q : ℕ). q / 2 ^ i % 2) (half (a % 32768))
    ∙ low_bit a i l
  where
    half : (x : ℕ) → (2 * x + d) / 2 ≡ x
    half x = omega arith

-- after the last moment nothing is to be kept
pub decided_none : {values kept : List ℕ} {n t : ℕ} → n + 6 ≤ t → Decided values n t kept
decided_none h = record { each = λ i p l m k. absurd (omega arith) }

module _ {values kept : List ℕ} {n t : ℕ} (kept' : List ℕ) (d : Decided values n (suc t) kept)
    (inside : (p : ℕ) → p < 64 → get_or kept' (t / 16 * 64 + p) 0 ≡ 2 * (get_or kept (t / 16 * 64 + p) 0 % 32768) + bit (taken_at values n t p))
    (above : (i : ℕ) → t / 16 * 64 + 64 ≤ i → get_or kept' i 0 ≡ get_or kept i 0) where
  -- a word read at the place of moment t
  abbrev moved : ℕ → ℕ → ℕ
  moved p k = (2 * (get_or kept (t / 16 * 64 + p) 0 % 32768) + bit (taken_at values n t p)) / 2 ^ k % 2

  kept_from-moved : (i p k : ℕ) → p < 64 → i / 16 ≡ t / 16 → i % 16 - (t - i / 16 * 16) ≡ k → kept_from kept' t i p ≡ moved p k
  kept_from-moved i p k h e f =
      ap (λ (q : ℕ). get_or kept' (q * 64 + p) 0 / 2 ^ (i % 16 - (t - i / 16 * 16)) % 2) e
      ∙ ap (λ (q : ℕ). get_or kept' (t / 16 * 64 + p) 0 / 2 ^ q % 2) f
      ∙ ap (λ (q : ℕ). q / 2 ^ k % 2) (inside p h)

  -- the decision of moment t itself
  decided_now : (i p : ℕ) → p < 64 → i ≡ t → kept_from kept' t i p ≡ bit (taken_at values n i p)
  decided_now i p h e =
      kept_from-moved i p 0 h (ap (λ (q : ℕ). q / 16) e) (omega arith)
      ∙ lowest
      ∙ ap (λ (q : ℕ). bit (taken_at values n q p)) (sym e)
    where
      lowest : moved p 0 ≡ bit (taken_at values n t p)
      lowest = omega (arith, bit_le (taken_at values n t p))

  -- those of later moments in the same word, moved up
  decided_moved : (i p : ℕ) → p < 64 → t < i → i < n + 6 → i / 16 ≡ t / 16 → kept_from kept' t i p ≡ bit (taken_at values n i p)
  decided_moved i p h l m e =
      let k : ℕ = i - suc t in
      let up : i % 16 - (t - i / 16 * 16) ≡ suc k = omega arith in
      let same : i % 16 - (suc t - i / 16 * 16) ≡ k = omega arith in
      kept_from-moved i p (suc k) h e up
      ∙ up_bit (get_or kept (t / 16 * 64 + p) 0) (bit (taken_at values n t p)) k (bit_le (taken_at values n t p)) (omega arith)
      ∙ ap (λ (q : ℕ). get_or kept (q * 64 + p) 0 / 2 ^ k % 2) (sym e)
      ∙ ap (λ (q : ℕ). get_or kept (i / 16 * 64 + p) 0 / 2 ^ q % 2) (sym same)
      ∙ d.each i p h l m

  -- those of words above, as they were
  decided_above : (i p : ℕ) → p < 64 → t < i → i < n + 6 → t / 16 < i / 16 → kept_from kept' t i p ≡ bit (taken_at values n i p)
  decided_above i p h l m e =
      let same : i % 16 - (t - i / 16 * 16) ≡ i % 16 - (suc t - i / 16 * 16) = omega arith in
      ap (λ (q : ℕ). get_or kept' (i / 16 * 64 + p) 0 / 2 ^ q % 2) same
      ∙ ap (λ (q : ℕ). q / 2 ^ (i % 16 - (suc t - i / 16 * 16)) % 2) (above (i / 16 * 64 + p) (omega arith))
      ∙ d.each i p h l m

  -- the decisions of moment t are kept too
  pub decided_step : Decided values n t kept'
  decided_step = record { each = λ i p h l m. go i p h l m (dec_lt t i) (dec_lt (t / 16) (i / 16)) }
    where
      go : (i p : ℕ) → p < 64 → t ≤ i → i < n + 6 → Dec (t < i) → Dec (t / 16 < i / 16) → kept_from kept' t i p ≡ bit (taken_at values n i p)
      go i p h l m (no a) b = decided_now i p h (omega arith)
      go i p h l m (yes a) (no b) = decided_moved i p h a m (omega arith)
      go i p h l m (yes a) (yes b) = decided_above i p h a m b

-- with q the pair of the state and r which of the two it is
halved : (q r : ℕ) (b : Bool) → q < 32 → r ≤ 1 → 2 * ((q % 2 * 32 + q / 2 + bit b * 16) % 32) + (q % 2 * 32 + q / 2 + bit b * 16) / 32 ≡ shifted b (2 * q + r)
halved q r true h l =
    let low : (q % 2 * 32 + q / 2 + 1 * 16) % 32 ≡ q / 2 + 16 = omega arith in
    let high : (q % 2 * 32 + q / 2 + 1 * 16) / 32 ≡ q % 2 = omega arith in
    let back : (2 * q + r) / 2 ≡ q = omega arith in
    rw (low, high, back) (omega arith)
halved q r false h l =
    let low : (q % 2 * 32 + q / 2 + 0 * 16) % 32 ≡ q / 2 = omega arith in
    let high : (q % 2 * 32 + q / 2 + 0 * 16) / 32 ≡ q % 2 = omega arith in
    let back : (2 * q + r) / 2 ≡ q = omega arith in
    rw (low, high, back) (omega arith)

pub state_at-after : (p : ℕ) (b : Bool) → p < 64 → state_at (place_after p (bit b)) ≡ shifted b (state_at p)
state_at-after p b h = halved (p % 32) (p / 32) b (omega arith) (omega arith)

pub place_after_below : (p : ℕ) (b : Bool) → place_after p (bit b) < 64
place_after_below p true = omega arith
place_after_below p false = omega arith
