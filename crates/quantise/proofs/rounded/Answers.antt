-- `quantise::rounded` meets its contract: what the shift gives is a whole number of 2^-25, and rounds as the exact value
-- does. Assumes nothing.
use mathlib.Core.Path.{◌≡◌, sym, ap, ◌∙◌}
use Prim.Native.Nat.{ℕ, ◌+◌, ◌/◌, ◌%◌, ◌^◌}
use native.Mathlib.Nat.{mod-eq_of_lt}
use native.Mathlib.Omega.{arith}
use Rattle.quantise.specs.Parts.{Middling}
use Rattle.quantise.proofs.Rounding.{scaled, nearest-scaled, scaled_most}
use Rattle.quantise.proofs.rounded.Goals as goal

-- the shift loses nothing
shifted : {m : ℕ} → Middling m → scaled m % 2 ^ 32 ≡ scaled m
shifted {m} p = mod-eq_of_lt (omega (arith, scaled_most p))

pub returns : goal.returns
returns c = ap (λ (v : ℕ). (v + 2 ^ 24) / 2 ^ 25) (shifted c.requires) ∙ sym (nearest-scaled c.requires)
