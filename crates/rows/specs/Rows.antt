-- What the steps of the search do with their rows, in plain numbers. Nothing here has to be believed: it is what the functions of this crate say to their callers.
-- Assumes nothing.
use Rattle.std.specs.Prelude.{Bool, true, false, cond, List, [], ◌∷◌, ◌≡◌, ℕ, ◌+◌, ◌-◌, ◌*◌, ◌%◌, ◌≤◌, ◌<◌, min, ltb, length, get_or}
use Rattle.lists.specs.Lists.{firsts}
use Rattle.bits.specs.Bits.{bit}
use Rattle.coder.specs.Coder.{uplink_words}
use Rattle.coder.specs.Cost.{against}
use Rattle.trellis.specs.Numbered.{price}

-- what the value v has against the coded bit b
pub record Opposes (b : Bool) (v r : ℕ) : Type 0 where
  pub is : r ≡ against b v
  pub most : r ≤ 128

-- six amounts: what each of three values has against 0 and against 1
pub record Six (a0 a1 b0 b1 c0 c1 : ℕ) : Type 0 where
  pub first : (a0 ≤ 128) × (a1 ≤ 128)
  pub second : (b0 ≤ 128) × (b1 ≤ 128)
  pub third : (c0 ≤ 128) × (c1 ≤ 128)

-- the sum for three coded bits
abbrev pub sum_of : (a0 a1 b0 b1 c0 c1 : ℕ) → Bool → Bool → Bool → ℕ
sum_of a0 a1 b0 b1 c0 c1 x y z = cond x a1 a0 + cond y b1 b0 + cond z c1 c0

-- the sums for the first 16 even states taking 0, s for the sum of three coded bits (`split_arranged` of proofs/Weighs.antt: they are what 001's words give)
abbrev pub low_half : (Bool → Bool → Bool → ℕ) → List ℕ
low_half s =
    s false false false ∷ s false true true ∷ s true false true ∷ s true true false ∷
    s true false true ∷ s true true false ∷ s false false false ∷ s false true true ∷
    s false true true ∷ s false false false ∷ s true true false ∷ s true false true ∷
    s true true false ∷ s true false true ∷ s false true true ∷ s false false false ∷ []

-- the sums for the opposite coded bits of the other 16
abbrev pub high_half : (Bool → Bool → Bool → ℕ) → List ℕ
high_half s =
    s false true true ∷ s false false false ∷ s true true false ∷ s true false true ∷
    s true true false ∷ s true false true ∷ s false true true ∷ s false false false ∷
    s false false false ∷ s false true true ∷ s true false true ∷ s true true false ∷
    s true false true ∷ s true true false ∷ s false false false ∷ s false true true ∷ []

pub record Arranged (a0 a1 b0 b1 c0 c1 : ℕ) (low high : List ℕ) (all : ℕ) : Type 0 where
  pub low_is : low ≡ low_half (sum_of a0 a1 b0 b1 c0 c1)
  pub high_is : high ≡ high_half (sum_of a0 a1 b0 b1 c0 c1)
  pub all_is : all ≡ sum_of a0 a1 b0 b1 c0 c1 false false false + sum_of a0 a1 b0 b1 c0 c1 true true true

-- the cost of pair j: the first half gives it, the second what is left of the whole
abbrev pub pair_at : (low high : List ℕ) (all : ℕ) → ℕ → ℕ
pair_at low high all j = cond (ltb j 16) (get_or low j 0) (all - get_or high (j - 16) 0)

-- the costs of all 32 pairs
abbrev pub pairs_of : (low high : List ℕ) (all : ℕ) → List ℕ
pairs_of low high all = firsts 32 (pair_at low high all)

-- no number of either half is more than the weight of the three values
pub record Halves (low high : List ℕ) (all : ℕ) : Type 0 where
  pub most : all ≤ 384
  pub low_within : (j : ℕ) → j < 16 → get_or low j 0 ≤ all
  pub high_within : (j : ℕ) → j < 16 → get_or high j 0 ≤ all

-- the costs of a step for 32 pairs of states and the weight of its three values, as numbers of 16 bits
pub record Small (pairs : List ℕ) (all : ℕ) : Type 0 where
  pub most : all ≤ 384
  pub within : (j : ℕ) → j < 32 → get_or pairs j 0 ≤ all

-- each of 001's words selects the newest and the oldest bit, so that a step costs one sum or what is left of the whole
pub record Weighs (values pairs : List ℕ) (all : ℕ) : Type 0 where
  pub small : Small pairs all
  pub even0 : (j : ℕ) → j < 32 → price uplink_words values false (2 * j) ≡ get_or pairs j 0
  pub even1 : (j : ℕ) → j < 32 → price uplink_words values true (2 * j) ≡ all - get_or pairs j 0
  pub odd0 : (j : ℕ) → j < 32 → price uplink_words values false (2 * j + 1) ≡ all - get_or pairs j 0
  pub odd1 : (j : ℕ) → j < 32 → price uplink_words values true (2 * j + 1) ≡ get_or pairs j 0

-- the two halves of what a step weighs
pub record Split (values low high : List ℕ) (all : ℕ) : Type 0 where
  pub halves : Halves low high all
  pub weighs : Weighs values (pairs_of low high all) all

-- a row that a step can be added to within 15 bits
pub record Low (row : List ℕ) : Type 0 where
  pub sized : length row ≡ 64
  pub under : (s : ℕ) → s < 64 → get_or row s 0 ≤ 32000

-- the costs of both moves of the states 2j and 2j + 1: taking 0 and taking 1, the even states in the first 32 places and the odd ones in the others
pub record Summed (row pairs : List ℕ) (all : ℕ) (zero one : List ℕ) : Type 0 where
  pub even0 : (j : ℕ) → j < 32 → get_or zero j 0 ≡ get_or row j 0 + get_or pairs j 0
  pub even1 : (j : ℕ) → j < 32 → get_or one j 0 ≡ get_or row (j + 32) 0 + (all - get_or pairs j 0)
  pub odd0 : (j : ℕ) → j < 32 → get_or zero (j + 32) 0 ≡ get_or row j 0 + (all - get_or pairs j 0)
  pub odd1 : (j : ℕ) → j < 32 → get_or one (j + 32) 0 ≡ get_or row (j + 32) 0 + get_or pairs j 0

-- costs within 15 bits
pub record Within (zero one : List ℕ) : Type 0 where
  pub each : (p : ℕ) → p < 64 → (get_or one p 0 ≤ 32767) × (get_or zero p 0 ≤ 32767)

-- the cheaper of the two moves of each state of the first n pairs
pub record Least (n : ℕ) (zero one next : List ℕ) : Type 0 where
  pub sized : length next ≡ 64
  pub even : (j : ℕ) → j < n → get_or next (2 * j) 0 ≡ min (get_or zero j 0) (get_or one j 0)
  pub odd : (j : ℕ) → j < n → get_or next (2 * j + 1) 0 ≡ min (get_or zero (j + 32) 0) (get_or one (j + 32) 0)

-- 1 is taken where it costs less, and at a tie 0
abbrev pub chooses : List ℕ → List ℕ → ℕ → Bool
chooses costs0 costs1 p = ltb (get_or costs1 p 0) (get_or costs0 p 0)

-- from a place on, one more decision in the lowest bit of each of the first n words; all other words are as they were
pub record Chosen (n : ℕ) (zero one old : List ℕ) (place : ℕ) (new : List ℕ) : Type 0 where
  pub sized : length new ≡ length old
  pub inside : (p : ℕ) → p < n → get_or new (place + p) 0 ≡ 2 * (get_or old (place + p) 0 % 32768) + bit (chooses zero one p)
  pub below : (i : ℕ) → i < place → get_or new i 0 ≡ get_or old i 0
  pub above : (i : ℕ) → place + n ≤ i → get_or new i 0 ≡ get_or old i 0

-- no cost of a row is less than what is to be taken off
pub record AtLeast (row : List ℕ) (by : ℕ) : Type 0 where
  pub each : (s : ℕ) → s < 64 → by ≤ get_or row s 0

-- the same taken off the first n costs of a row
pub record Lowered (n : ℕ) (row : List ℕ) (by : ℕ) (next : List ℕ) : Type 0 where
  pub sized : length next ≡ 64
  pub each : (s : ℕ) → s < n → get_or next s 0 ≡ get_or row s 0 - by
