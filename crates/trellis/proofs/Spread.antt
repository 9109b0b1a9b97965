-- How far the costs of a row lie apart: after six moves any two states are the same, so at most six steps' worth. That is what keeps a row within 16 bits.
-- Assumes nothing.
use mathlib.Core.Bool.{Bool, true, false}
use mathlib.Core.List.{List}
use mathlib.Core.Path.{◌≡◌, refl, sym, ap, ◌∙◌}
use Prim.Native.Nat.{ℕ, zero, suc, ◌+◌, ◌-◌, ◌*◌, ◌/◌, ◌^◌, ◌≤◌, ◌<◌}
use native.Mathlib.Nat.{pow-suc, div-one, div-div-eq-div-mul, add-mul-div_right, mul_comm, mul_assoc}
use native.Mathlib.Decide.{dec_le}
use native.Mathlib.Omega.{arith}
use lib.ListN.{drop}
use lib.Pow.{pow_pos}
use Rattle.coder.specs.Coder.{Words}
use Rattle.coder.specs.Register.{shifted}
use Rattle.coder.proofs.Register.{shifted_below}
use Rattle.trellis.specs.Machine.{rem}
use Rattle.trellis.specs.Numbered.{At, open64, numbered}
use Rattle.trellis.proofs.Tail.{price_le, slide, rem_six, rem_open_le, rem_open_zero_le, rem_open_later}

-- two numbers that i moves make the same; q is how often 2 ^ i goes into 64
pub record Meet (i s t : ℕ) : Type 0 where
  pub times : ℕ
  pub whole : 2 ^ i * times ≡ 64
  pub same : s / 2 ^ i ≡ t / 2 ^ i

-- one move brings them one nearer
meet_shifted : (b : Bool) {i s t : ℕ} → Meet (suc i) s t → Meet i (shifted b s) (shifted b t)
meet_shifted b {i} {s} {t} m = record { times = m.times * 2; whole = doubled; same = go b }
  where
    doubled : 2 ^ i * (m.times * 2) ≡ 64
    doubled =
        ap (λ (x : ℕ). 2 ^ i * x) (mul_comm m.times 2)
        ∙ sym (mul_assoc (2 ^ i) 2 m.times)
        ∙ ap (λ (x : ℕ). x * m.times) (sym (pow-suc 2 i))
        ∙ m.whole

    half : 32 ≡ m.times * 2 ^ i
    half = omega (arith, mul_assoc (2 ^ i) m.times 2, doubled, mul_comm (2 ^ i) m.times)

    next : (x : ℕ) → x / 2 / 2 ^ i ≡ x / 2 ^ suc i
    next x = div-div-eq-div-mul x 2 (2 ^ i) ∙ ap (λ (d : ℕ). x / d) (mul_comm 2 (2 ^ i) ∙ sym (pow-suc 2 i))

    raised : (x : ℕ) → (x / 2 + 32) / 2 ^ i ≡ x / 2 ^ suc i + m.times
    raised x =
        ap (λ (d : ℕ). (x / 2 + d) / 2 ^ i) half ∙ add-mul-div_right (x / 2) m.times (pow_pos i) ∙ ap (λ (d : ℕ). d + m.times) (next x)

    go : (c : Bool) → shifted c s / 2 ^ i ≡ shifted c t / 2 ^ i
    go false = next s ∙ m.same ∙ sym (next t)
    go true = raised s ∙ ap (λ (d : ℕ). d + m.times) m.same ∙ sym (raised t)

meet_none : {s t : ℕ} → Meet 0 s t → s ≡ t
meet_none {s} {t} m = sym (div-one s) ∙ m.same ∙ div-one t

-- any two of the 64 states meet after six moves
pub meet_six : {s t : ℕ} → s < 64 → t < 64 → Meet 6 s t
meet_six h l = record { times = 1; whole = refl; same = omega arith }

module _ (w : Words) where
  abbrev pub at : List ℕ → ℕ → At
  at values s = record { state = s; values = values }

  -- k zeros cost at most 384 more for each move that two states are apart
  slide_near : (k : ℕ) {i s t : ℕ} (values : List ℕ) → Meet i s t → slide w k (at values s) ≤ slide w k (at values t) + 384 * i
  unfolding slide
  slide_near zero values m = omega arith
  slide_near (suc k) {i = zero} {s} {t} values m = rw (meet_none m) (omega arith)
  slide_near (suc k) {i = suc i} {s} {t} values m =
      omega (arith, price_le w values false s, slide_near k (drop 3 values) (meet_shifted false m))

  -- the rest of a string costs at most 384 more for each move that two states are apart
  rem_near : (k : ℕ) {i s t : ℕ} (values : List ℕ) → s < 64 → t < 64 → Meet i s t → rem (numbered w) k (at values s) ≤ rem (numbered w) k (at values t) + 384 * i
  unfolding rem
  rem_near zero values h l m = rw (rem_six w (at values _) h, rem_six w (at values _) l) (slide_near 6 values m)
  rem_near (suc k) {i = zero} {s} {t} values h l m = rw (meet_none m) (omega arith)
  rem_near (suc k) {i = suc i} {s} {t} values h l m =
      omega (
        arith,
        price_le w values false s,
        price_le w values true s,
        rem_near k (drop 3 values) (shifted_below false s h) (shifted_below false t l) (meet_shifted false m),
        rem_near k (drop 3 values) (shifted_below true s h) (shifted_below true t l) (meet_shifted true m),
      )

  module _ (values : List ℕ) {s : ℕ} (h : s < 64) where
    later_lowest : (k : ℕ) → rem (open64 w) (k + 6) (at values 0) ≤ rem (open64 w) (k + 6) (at values s) + 2304
    later_lowest k =
        rw (rem_open_later w k (at values 0), rem_open_later w k (at values s)) (rem_near k values (omega arith) h (meet_six (omega arith) h))

    later_highest : (k : ℕ) → rem (open64 w) (k + 6) (at values s) ≤ rem (open64 w) (k + 6) (at values 0) + 2304
    later_highest k =
        rw (rem_open_later w k (at values 0), rem_open_later w k (at values s)) (rem_near k values h (omega arith) (meet_six h (omega arith)))

    -- of a row nothing is lower than state 0 by more than 2,304
    pub row_lowest : (k : ℕ) → rem (open64 w) k (at values 0) ≤ rem (open64 w) k (at values s) + 2304
    row_lowest k = go (dec_le 6 k)
      where
        go : Dec (6 ≤ k) → rem (open64 w) k (at values 0) ≤ rem (open64 w) k (at values s) + 2304
        go (yes l) =
            let e : k - 6 + 6 ≡ k = omega arith in
            rw e at (later_lowest (k - 6))
        go (no l) = omega (arith, rem_open_zero_le w k (at values 0) (omega arith) refl)

    -- what is left of a row is at most 4,608 once state 0's cost less 2,304 is taken off
    pub row_highest : (k : ℕ) → rem (open64 w) k (at values s) ≤ rem (open64 w) k (at values 0) - 2304 + 4608
    row_highest k = go (dec_le 6 k)
      where
        go : Dec (6 ≤ k) → rem (open64 w) k (at values s) ≤ rem (open64 w) k (at values 0) - 2304 + 4608
        go (yes l) =
            let e : k - 6 + 6 ≡ k = omega arith in
            let x : rem (open64 w) k (at values s) ≤ rem (open64 w) k (at values 0) + 2304 = rw e at (later_highest (k - 6)) in
            omega arith
        go (no l) = omega (arith, rem_open_le w k (at values s))
