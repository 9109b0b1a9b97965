-- What the inner functions of writing and reading say to each other. Nothing here has to be believed.
-- Assumes nothing.
use Rattle.std.specs.Prelude.{Bool, true, ◌&&◌, List, [], ◌∷◌, ◌≡◌, ℕ, zero, suc, ◌+◌, ◌*◌, ◌/◌, ◌%◌, ◌≤◌, ◌<◌, length, take, drop}
use Rattle.interleave.specs.Interleave.{Length}
use Rattle.capture.specs.Capture.{capture_size}
use Rattle.capture.specs.Reading.{same_bytes, first_field, told_in}

-- a value whose length two bytes hold, and room for its field
pub record FieldFits (value out : List ℕ) (at : ℕ) : Type 0 where
  pub two_bytes : length value < 65536
  pub room : at + (3 + length value) ≤ length out

-- marks and values that can be written, and room for their capture
pub record Writable (l : ℕ) (marks values : List ℕ) (room : ℕ) : Type 0 where
  pub told : Length l
  pub marked : length marks ≡ l + 4
  pub valued : length values ≡ 24 * (l + 4)
  pub roomy : capture_size l ≤ room

-- the head of a field: its tag and its length, the high byte first
abbrev pub head_of : ℕ → ℕ → List ℕ
head_of tag size = tag ∷ size / 256 ∷ size % 256 ∷ []

-- so many heads of tag 03, length 24, each 27 bytes after the one before
unfoldable pub heads : ℕ → List ℕ → Bool
heads zero c = true
heads (suc k) c = same_bytes (take 3 c) (head_of 3 24) && heads k (drop 27 c)

-- bytes that open with a head
pub record Headed (size : ℕ) (c : List ℕ) : Type 0 where
  pub two_bytes : size < 65536
  pub room : 3 ≤ length c

-- a first field that is right, and its value
pub record Opening (l : ℕ) (c : List ℕ) : Type 0 where
  pub told : Length l
  pub first : first_field c ≡ true
  pub value : told_in c ≡ l
