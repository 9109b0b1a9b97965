-- Which pairs a walk is over. Assumes nothing.
use Rattle.std.specs.Prelude.{◌≡◌, ℕ}
use Rattle.pairs.specs.declared.Walk.{Walk}

-- those from k to before e of sub-packet s, of a message of l bytes
pub record Over (l s k e : ℕ) (w : Walk) : Type 0 where
  pub message : w.l ≡ l
  pub packet : w.s ≡ s
  pub from : w.from ≡ k
  pub to : w.to ≡ e
