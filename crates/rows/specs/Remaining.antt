-- The rows as remaining costs, and the words that keep the decisions: what the loops of the search say of themselves. Nothing here has to be believed.
-- Assumes nothing.
use Rattle.std.specs.Prelude.{Bool, List, ◌≡◌, ℕ, ◌+◌, ◌-◌, ◌*◌, ◌/◌, ◌%◌, ◌^◌, ◌≤◌, ◌<◌, length, get_or, drop}
use Rattle.bits.specs.Bits.{bit}
use Rattle.coder.specs.Coder.{uplink_words}
use Rattle.trellis.specs.Machine.{rem, takes}
use Rattle.trellis.specs.Numbered.{At, open64}

-- state s with the given values still to come
abbrev pub facing : List ℕ → ℕ → At
facing values s = record { state = s; values = values }

-- the row has what k steps and all that follows cost from each state, less what was taken off
pub record Costs (values : List ℕ) (k : ℕ) (row : List ℕ) (off : ℕ) : Type 0 where
  pub sized : length row ≡ 64
  pub each : (s : ℕ) → s < 64 → get_or row s 0 + off ≡ rem (open64 uplink_words) k (facing values s)

-- the state whose decision stands at a place: even states first
abbrev pub state_at : ℕ → ℕ
state_at p = 2 * (p % 32) + p / 32

-- the place of the state after a bit
abbrev pub place_after : ℕ → ℕ → ℕ
place_after p b = p % 32 % 2 * 32 + p % 32 / 2 + b * 16

-- what the state at place p takes, with k steps to go after this one
abbrev pub taken : List ℕ → ℕ → ℕ → Bool
taken values k p = takes (open64 uplink_words) k (facing values (state_at p))

-- the same at moment t of a string of n bits
abbrev pub taken_at : List ℕ → ℕ → ℕ → ℕ → Bool
taken_at values n t p = taken (drop (3 * t) values) (n + 5 - t) p

-- what is kept for moment i at place p, when the moments from t on are kept: sixteen moments in a word, the first that is kept in its lowest bit
abbrev pub kept_from : List ℕ → ℕ → ℕ → ℕ → ℕ
kept_from kept t i p = get_or kept (i / 16 * 64 + p) 0 / 2 ^ (i % 16 - (t - i / 16 * 16)) % 2

-- the decisions of the moments from t on are kept
pub record Decided (values : List ℕ) (n t : ℕ) (kept : List ℕ) : Type 0 where
  pub each : (i p : ℕ) → p < 64 → t ≤ i → i < n + 6 → kept_from kept t i p ≡ bit (taken_at values n i p)
