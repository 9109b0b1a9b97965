-- A run of bytes stored in a buffer. To be believed: Appends. Assumes nothing.
use Rattle.std.specs.Prelude.{List, ◌≡◌, ℕ, ◌+◌, length}
use Rattle.std.proofs.lemmas.List.Edits.{sets}

-- the bytes stand in the buffer from `at` on, the rest is as before, and `next` is the place after them
pub record Appends (old : List ℕ) (at : ℕ) (bytes new : List ℕ) (next : ℕ) : Type 0 where
  pub stored : new ≡ sets old at bytes
  pub ends : next ≡ at + length bytes
