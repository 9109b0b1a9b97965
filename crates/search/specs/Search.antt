-- What the search hands out, and what its inner functions say to each other.
-- To be believed: Heard and Found, which speak of `nearest` and `cost` of the crate `coder` alone. The rest is how the search is put together. Assumes nothing.
use Rattle.std.specs.Prelude.{Bool, List, [], ◌∷◌, ◌++◌, map, ◌≡◌, ℕ, zero, suc, ◌+◌, ◌-◌, ◌*◌, ◌/◌, ◌%◌, ◌^◌, ◌≤◌, ◌<◌, length, get_or, drop, replicate}
use Rattle.bits.specs.Bits.{bit, is_one}
use Rattle.coder.specs.Coder.{uplink_words}
use Rattle.coder.specs.Cost.{cost}
use Rattle.coder.specs.Nearest.{nearest}
use Rattle.rows.specs.Remaining.{Costs, place_after, taken, taken_at}

-- the values of the coded bits of a string of n bits, n at most 2,066
pub record Heard (values : List ℕ) (n : ℕ) : Type 0 where
  pub most : n ≤ 2066
  pub sized : length values ≡ 3 * (n + 6)

-- the first n bytes have the nearest string's bits as the coder took them, the others are kept, and the cost is that string's
pub record Found (values : List ℕ) (n : ℕ) (before after : List ℕ) (total : ℕ) : Type 0 where
  pub string : after ≡ map bit (nearest (cost uplink_words values) n) ++ drop n before
  pub costs : total ≡ cost uplink_words values (nearest (cost uplink_words values) n)

-- one step back in time is one step more of the machine on 64 numbers, whatever follows: its costs in the row,
-- its decisions in the lowest bits of the words. It raises no cost by more than 384
pub record Turn (a b c : ℕ) (row kept row' kept' : List ℕ) : Type 0 where
  pub costs : (rest : List ℕ) (k off : ℕ) → Costs rest k row off → Costs (a ∷ b ∷ c ∷ rest) (suc k) row' off
  pub chosen :
      (rest : List ℕ) (k off : ℕ) → Costs rest k row off → (p : ℕ) → p < 64
      → get_or kept' p 0 ≡ 2 * (get_or kept p 0 % 32768) + bit (taken (a ∷ b ∷ c ∷ rest) k p)
  pub rise : (most : ℕ) → ((s : ℕ) → s < 64 → get_or row s 0 ≤ most) → (s : ℕ) → s < 64 → get_or row' s 0 ≤ most + 384

-- a row none of whose costs is lower than the first by more than 2,304, and a sum that fits
pub record Spread (row : List ℕ) (off : ℕ) : Type 0 where
  pub lowest : (s : ℕ) → s < 64 → get_or row 0 0 ≤ get_or row s 0 + 2304
  pub total : get_or row 0 0 + off ≤ 1000000

-- what stands in a row and what was taken off make the same; at every 64th moment the first cost less 2,304 is taken off
pub record Leveled (row : List ℕ) (off t : ℕ) (row' : List ℕ) (off' : ℕ) : Type 0 where
  pub sized : length row' ≡ 64
  pub same : (s : ℕ) → s < 64 → get_or row' s 0 + off' ≡ get_or row s 0 + off
  pub between : (t % 64 ≡ 0 → ⊥) → (s : ℕ) → s < 64 → get_or row' s 0 ≡ get_or row s 0
  pub lowered : t % 64 ≡ 0 → (s : ℕ) → s < 64 → get_or row' s 0 + (get_or row 0 0 - 2304) ≡ get_or row s 0

-- the costs of the moment after the last
abbrev pub last_row : List ℕ
last_row = 0 ∷ replicate 63 2304

-- the decision kept for moment t at place p: a row of 64 words for sixteen moments, the first in the lowest bit
abbrev pub kept_at : List (List ℕ) → ℕ → ℕ → ℕ
kept_at kept t p = get_or (get_or kept (t / 16) []) p 0 / 2 ^ (t % 16) % 2

-- all decisions of n steps and of the six that follow are kept, and the total is what the nearest string costs
pub record Filled (values : List ℕ) (n : ℕ) (kept : List (List ℕ)) (total : ℕ) : Type 0 where
  pub words : (t p : ℕ) → p < 64 → t < n + 6 → kept_at kept t p ≡ bit (taken_at values n t p)
  pub costs : total ≡ cost uplink_words values (nearest (cost uplink_words values) n)

-- the bits taken on the way of k steps from place p at moment t
unfoldable pub follow : List (List ℕ) → ℕ → ℕ → ℕ → List Bool
follow kept zero t p = []
follow kept (suc k) t p = is_one (kept_at kept t p) ∷ follow kept k (t + 1) (place_after p (kept_at kept t p))
