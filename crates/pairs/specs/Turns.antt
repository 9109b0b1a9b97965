-- Stores that are spread over a list and come in turns: which elements have been written after some of the turns. The loops write a
-- sub-packet after the other, and in each the symbols from the pilot outwards. The contracts of gather and fill, in the crate placing, speak of no turns. Assumes nothing.
use Rattle.std.specs.Prelude.{cond, List, ◌≡◌, ℕ, ◌+◌, ◌-◌, ◌*◌, ◌/◌, ◌%◌, ◌≤◌, ◌<◌, ltb, length, get_or}
use Rattle.interleave.specs.Interleave.{coded_bits, sub_packets, packet_of, symbol_of, Placed, pilot}
use Rattle.interleave.specs.Bursts.{heard}

-- of the first n elements those whose turn comes from t on and before u are as they are to be, and the others as before
pub record Spread (n : ℕ) (turn : ℕ → ℕ) (Right : ℕ → ℕ → Type 0) (t u : ℕ) (old new : List ℕ) : Type 0 where
  pub sized : length new ≡ length old
  pub written : (x : ℕ) → x < n → t ≤ turn x → turn x < u → Right x (get_or new x 0)
  pub kept : (x : ℕ) → (x < n → t ≤ turn x → turn x < u → ⊥) → get_or new x 0 ≡ get_or old x 0

-- the turn of symbol m in its sub-packet: 11, 24, 10, 25, .. 0, 35, and then the pilot
unfoldable pub turn_of : ℕ → ℕ
turn_of m = cond (ltb m 12) (2 * (11 - m)) (cond (ltb m 24) (12 + m) (2 * (m - 24) + 1))

-- the turn of coded bit j, and of byte x of a frame
unfoldable pub gather_turn : ℕ → ℕ → ℕ
gather_turn l j = 24 * packet_of l j + turn_of (symbol_of l j)

unfoldable pub fill_turn : ℕ → ℕ
fill_turn x = 36 * (x / 36) + turn_of (x % 36)

-- v is the value heard for coded bit j
abbrev pub IsHeard : ℕ → List ℕ → List ℕ → ℕ → ℕ → Type 0
IsHeard l marks values j v = v ≡ heard l marks values j

-- v is the byte x of a frame: the coded bit, or the value of the pilot, that stands there
pub record IsSymbol (l : ℕ) (coded : List ℕ) (x v : ℕ) : Type 0 where
  pub bits : (j s m : ℕ) → Placed l j s m → x ≡ 36 * s + m → v ≡ get_or coded j 0
  pub pilots : (s p : ℕ) → s < sub_packets l → p < 12 → x ≡ 36 * s + 12 + p → v ≡ pilot s p

-- the coded bits whose turns come from t on and before u have their values
abbrev pub Gathered : ℕ → List ℕ → List ℕ → ℕ → ℕ → List ℕ → List ℕ → Type 0
Gathered l marks values = Spread (coded_bits l) (gather_turn l) (IsHeard l marks values)

-- the bytes of the frame whose turns come from t on and before u have their symbols
abbrev pub Filled : ℕ → List ℕ → ℕ → ℕ → List ℕ → List ℕ → Type 0
Filled l coded = Spread (36 * sub_packets l) fill_turn (IsSymbol l coded)
