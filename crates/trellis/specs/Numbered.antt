-- The coder as a machine, twice: with all the bits taken as its state, as the definitions have it, and with the number of the last six. The values still to come are part of the state.
-- Nothing here has to be believed. Assumes nothing.
use Rattle.std.specs.Prelude.{Bool, cond, List, ◌∷◌, ℕ, eqb, drop}
use Rattle.bits.specs.Bits.{bits_of}
use Rattle.coder.specs.Coder.{Words, outputs, coded_after, tail}
use Rattle.coder.specs.Cost.{distance}
use Rattle.coder.specs.Register.{shifted}
use Rattle.trellis.specs.Machine.{Machine, rem}

pub record Taken : Type 0 where
  pub bits : List Bool
  pub values : List ℕ

-- all the bits taken, newest first, and the values still to come
abbrev pub history : Words → Machine
history w =
    record {
      State = Taken;
      move = λ b s. record { bits = b ∷ s.bits; values = drop 3 s.values };
      price = λ b s. distance (outputs w (b ∷ s.bits)) s.values;
      rest = λ s. distance (coded_after w s.bits tail) s.values;
    }

pub record At : Type 0 where
  pub state : ℕ
  pub values : List ℕ

-- what the bit b costs in state s against the next three values
unfoldable pub price : Words → List ℕ → Bool → ℕ → ℕ
price w values b s = distance (outputs w (b ∷ bits_of 6 s)) values

-- any state but 0 costs as much where the string ends as six steps can: so the six last steps take 0
abbrev pub astray : ℕ → ℕ
astray s = cond (eqb s 0) 0 2304

-- the number of the last six bits taken, and the values still to come, the six last steps among its own
abbrev pub open64 : Words → Machine
open64 w =
    record {
      State = At;
      move = λ b s. record { state = shifted b s.state; values = drop 3 s.values };
      price = λ b s. price w s.values b s.state;
      rest = λ s. astray s.state;
    }

-- the same with the six last steps in its rest
abbrev pub numbered : Words → Machine
numbered w =
    record {
      State = At;
      move = (open64 w).move;
      price = (open64 w).price;
      rest = rem (open64 w) 6;
    }
