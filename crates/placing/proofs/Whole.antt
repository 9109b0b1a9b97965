-- The whole of a frame: the values of all turns are those received, the symbols of all turns make the frame, and only one buffer is so filled.
-- Assumes nothing.
use mathlib.Core.List.{List, ◌++◌}
use mathlib.Core.Path.{◌≡◌, refl, sym, ◌∙◌, ap, ap₂}
use mathlib.Core.Logic.{◌⊎◌, inl, inr}
use Prim.Native.Nat.{ℕ, ◌+◌, ◌-◌, ◌*◌, ◌≤◌, ◌<◌}
use native.Mathlib.Omega.{arith}
use lib.ListN.{length, get_or, take, drop, length-append, length-drop, get_or-append, take-append-drop}
use lib.Seq.{get_or-append-add, length-take-le, get_or-take, get_or-drop, ext_get_or}
use Rattle.std.proofs.lemmas.Bool.{cases_lt}
use Rattle.interleave.specs.Interleave.{coded_bits, sub_packets, Length}
use Rattle.interleave.specs.Bursts.{received}
use Rattle.interleave.proofs.Bursts.{length-received, get_or-received, bursts_unique}
use Rattle.interleave.proofs.Placed.{placed_here, placed_packet, placed_data}
use Rattle.pairs.specs.Turns.{gather_turn, Gathered, IsSymbol, Filled}
use Rattle.pairs.proofs.Turns.{turn_of_data, gather_turn_placed, fill_turn_below}
use Rattle.placing.specs.Placing.{Framed}

module _ {l : ℕ} (marks values : List ℕ) (long : Length l) where
  -- the values of all turns
  pub gathered_whole : {old new : List ℕ}
      → coded_bits l ≤ length old
      → Gathered l marks values 0 (24 * sub_packets l) old new
      → new ≡ received l marks values ++ drop (coded_bits l) old
  gathered_whole {old} {new} room g = ext_get_or 0 new (received l marks values ++ drop (coded_bits l) old) sized same
    where
      sized : length new ≡ length (received l marks values ++ drop (coded_bits l) old)
      sized = simp (length-append, length-received, length-drop) (omega (arith, g.sized))

      same : (j : ℕ) → j < length new → get_or new j 0 ≡ get_or (received l marks values ++ drop (coded_bits l) old) j 0
      same j h = go (cases_lt j (coded_bits l))
        where
          go : (j < coded_bits l) ⊎ (coded_bits l ≤ j)
              → get_or new j 0 ≡ get_or (received l marks values ++ drop (coded_bits l) old) j 0
          go (inl inside) =
              let p = placed_here long inside in
              let turn : gather_turn l j < 24 * sub_packets l =
              omega (arith, gather_turn_placed p, turn_of_data (placed_data long p), placed_packet long p) in
              g.written j inside (omega arith) turn
              ∙ sym (get_or-received l marks values j inside)
              ∙ sym (get_or-append (received l marks values) (drop (coded_bits l) old) 0 j (omega (arith, length-received l marks values)))
          go (inr outside) =
              let split : j ≡ length (received l marks values) + (j - coded_bits l) = omega (arith, length-received l marks values) in
              let whole : coded_bits l + (j - coded_bits l) ≡ j = omega arith in
              g.kept j (λ inside from to. omega arith)
              ∙ sym
              (ap (λ (i : ℕ). get_or (received l marks values ++ drop (coded_bits l) old) i 0) split
              ∙ get_or-append-add (received l marks values) (drop (coded_bits l) old) (j - coded_bits l) 0
              ∙ get_or-drop (coded_bits l) old (j - coded_bits l) 0
              ∙ ap (λ (i : ℕ). get_or old i 0) whole)

module _ {l : ℕ} (coded : List ℕ) (long : Length l) where
  -- the symbols of all turns
  module _ {old new : List ℕ} (room : 36 * sub_packets l ≤ length old) (f : Filled l coded 0 (36 * sub_packets l) old new) where
    -- a byte of the frame is the symbol that stands there
    symbol-whole : (x : ℕ) → x < 36 * sub_packets l → IsSymbol l coded x (get_or (take (36 * sub_packets l) new) x 0)
    symbol-whole x h =
        rw (get_or-take (36 * sub_packets l) new x 0 h) (f.written x h (omega arith) (fill_turn_below (sub_packets l) x h))

    rest_whole : drop (36 * sub_packets l) new ≡ drop (36 * sub_packets l) old
    rest_whole =
        ext_get_or 0 (drop (36 * sub_packets l) new) (drop (36 * sub_packets l) old) (simp length-drop (omega (arith, f.sized)))
        (λ i h.
        get_or-drop (36 * sub_packets l) new i 0
        ∙ f.kept (36 * sub_packets l + i) (λ inside from to. omega arith)
        ∙ sym (get_or-drop (36 * sub_packets l) old i 0))

    pub filled_whole : Framed l coded old new
    filled_whole =
        record {
          sized = f.sized;
          frame =
              record {
                sized = length-take-le (36 * sub_packets l) new (omega (arith, f.sized));
                bits = λ j s m p. (symbol-whole (36 * s + m) (omega (arith, placed_packet long p, (placed_data long p).inside))).bits j s m p refl;
                pilots = λ s p h h'. (symbol-whole (36 * s + 12 + p) (omega arith)).pilots s p h h' refl;
              };
          rest = rest_whole;
        }

-- only one buffer is so filled
pub framed_unique : {l : ℕ} {coded old new new' : List ℕ} → Length l → Framed l coded old new → Framed l coded old new' → new ≡ new'
framed_unique {l} {new = new} {new' = new'} long p q =
    sym (take-append-drop (36 * sub_packets l) new)
    ∙ ap₂ ◌++◌ (bursts_unique long p.frame q.frame) (p.rest ∙ sym q.rest)
    ∙ take-append-drop (36 * sub_packets l) new'
