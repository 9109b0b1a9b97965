-- The theorem of Table 6-43: the symbols of `interleave` are its two rows, all 48 entries, by one computed test.
-- Assumes nothing.
use mathlib.Core.Path.{◌≡◌, refl, ◌∙◌}
use Prim.Native.Nat.{ℕ, ◌%◌}
use Rattle.lists.specs.Lists.{firsts}
use Rattle.lists.proofs.Lists.{firsts_same}
use Rattle.interleave.specs.Interleave.{symbol, even_row as even_places, odd_row as odd_places}
use Rattle.reference.specs.Table.{even_row, odd_row, Rows}

-- the rows of the first even sub-packet and of the first odd one, computed
computed : (firsts 24 (symbol 0) ≡ even_row) × (firsts 24 (symbol 1) ≡ odd_row)
unfolding firsts symbol even_row odd_row even_places odd_places
computed = (refl, refl)

-- sub-packets of one parity have their places at the same symbols
symbol_parity : (s t o : ℕ) → s % 2 ≡ t % 2 → symbol s o ≡ symbol t o
unfolding symbol
symbol_parity s t o h = rw h

firsts_parity : (s t : ℕ) → s % 2 ≡ t % 2 → firsts 24 (symbol s) ≡ firsts 24 (symbol t)
firsts_parity s t h = firsts_same 24 (symbol s) (symbol t) (λ o _. symbol_parity s t o h)

pub rows : Rows
rows =
    record {
      even = λ s h. firsts_parity s 0 h ∙ computed.0;
      odd = λ s h. firsts_parity s 1 h ∙ computed.1;
    }
