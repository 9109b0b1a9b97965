-- The steps of recovering, one after the other, reach the payload behind the nearest string; what recover answers.
-- Assumes nothing.
use mathlib.Core.Bool.{Bool, true, false}
use mathlib.Core.List.{List, ◌++◌, map}
use mathlib.Core.Path.{◌≡◌, sym, ap, subst, ◌∙◌}
use Prim.Native.Nat.{ℕ, ◌+◌, ◌*◌, ◌<◌}
use native.Mathlib.Omega.{arith}
use borrow.Author.Tests.{eq-eqb, ne_eqb}
use lib.Dec.{eqb}
use lib.ListN.{length, get_or, take, drop, length-map, get_or-map}
use lib.Seq.{take_at, drop_at}
use Rattle.bits.specs.Bits.{bit, is_one}
use Rattle.bits.proofs.Bits.{bit_below_two}
use Rattle.coder.specs.Coder.{uplink_words}
use Rattle.coder.specs.Cost.{cost}
use Rattle.coder.proofs.Nearest.{nearest_is}
use Rattle.coder.proofs.Cost.{cost_le}
use Rattle.whiten.specs.Whiten.{whitened}
use Rattle.whiten.proofs.Whiten.{length-whitened}
use Rattle.interleave.specs.Interleave.{Length}
use Rattle.interleave.specs.Bursts.{received}
use Rattle.interleave.proofs.Bursts.{length-received}
use Rattle.payload.specs.Payload.{payload_bits}
use Rattle.payload.specs.Open.{open_refusal, message_of, mode_of}
use Rattle.payload.specs.Calls.{Opening}
use Rattle.std.specs.Prelude.{Ok, Err}
use Rattle.refusals.specs.declared.Refusal.{Refusal}
use Rattle.refusals.proofs.Refusals.{number_not_zero}
use Rattle.search.specs.Search.{Found}
use Rattle.uplink.specs.Recover.{silent, nearest_string, nearest_cost, opened, recover_refusal, Recovers}
use Rattle.uplink.specs.Demands.{Formed}
use Rattle.uplink.specs.Parts.{Nearing}
use Rattle.uplink.proofs.Refusals.{recover_opening}
use Rattle.uplink.proofs.Building.{front_bits}

module _ (l : ℕ) (marks values : List ℕ) where
  length-nearest : length (nearest_string l marks values) ≡ 26 + 8 * l
  length-nearest = (nearest_is (cost uplink_words (received l marks values)) (payload_bits l)).sized

  pub length-opened : length (opened l marks values) ≡ 26 + 8 * l
  length-opened = length-whitened (nearest_string l marks values) ∙ length-nearest

  -- what was gathered is what was received
  pub gathered_front : (rest : List ℕ) {got : List ℕ} → got ≡ received l marks values ++ rest → take (96 + 24 * l) got ≡ received l marks values
  gathered_front rest e = ap (take (96 + 24 * l)) e ∙ take_at (received l marks values) rest (96 + 24 * l) (length-received l marks values)

  -- gathered, searched and freed of the whitening
  pub nearing_of :
      (rest : List ℕ) {got before bits part : List ℕ} {total : ℕ} → Length l
      → got ≡ received l marks values ++ rest
      → Found (take (96 + 24 * l) got) (26 + 8 * l) before bits total
      → part ≡ map bit (whitened (map is_one (take (26 + 8 * l) bits)))
      → Nearing l marks values before (part ++ drop (26 + 8 * l) bits) total
  nearing_of rest {got} {before} {bits} {part} {total} told g found w =
      record {
        bits = ap (λ (x : List ℕ). x ++ drop (26 + 8 * l) bits) part_is ∙ ap (λ (x : List ℕ). map bit (opened l marks values) ++ x) kept;
        total_is = total_is_lem;
        most = omega (arith, total_is_lem, cost_le uplink_words (received l marks values) (nearest_string l marks values), length-nearest, told.high);
      }
    where
      heard : Found (received l marks values) (26 + 8 * l) before bits total
      heard = subst (λ (v : List ℕ). Found v (26 + 8 * l) before bits total) (gathered_front rest g) found

      total_is_lem : total ≡ nearest_cost l marks values
      total_is_lem = heard.costs

      kept : drop (26 + 8 * l) bits ≡ drop (26 + 8 * l) before
      kept = ap (drop (26 + 8 * l)) heard.string ∙ drop_at (map bit (nearest_string l marks values)) (drop (26 + 8 * l) before) (26 + 8 * l) (length-map (nearest_string l marks values) bit ∙ length-nearest)

      part_is : part ≡ map bit (opened l marks values)
      part_is =
          w
          ∙ ap (λ (x : List ℕ). map bit (whitened (map is_one (take (26 + 8 * l) x)))) heard.string
          ∙ ap (λ (x : List Bool). map bit (whitened x)) (front_bits (nearest_string l marks values) (drop (26 + 8 * l) before) (26 + 8 * l) length-nearest)

  -- the payload's bits, read back from the buffer
  pub nearing_bits : {before after : List ℕ} {total : ℕ} → Nearing l marks values before after total → map is_one (take (26 + 8 * l) after) ≡ opened l marks values
  nearing_bits {before} p = ap (λ (x : List ℕ). map is_one (take (26 + 8 * l) x)) p.bits ∙ front_bits (opened l marks values) (drop (26 + 8 * l) before) (26 + 8 * l) length-opened

  pub nearing_front : {before after : List ℕ} {total : ℕ} → Nearing l marks values before after total → take (26 + 8 * l) after ≡ map bit (opened l marks values)
  nearing_front {before} p =
      ap (take (26 + 8 * l)) p.bits ∙ take_at (map bit (opened l marks values)) (drop (26 + 8 * l) before) (26 + 8 * l) (length-map (opened l marks values) bit ∙ length-opened)

-- every byte of a run of bits is 0 or 1
pub map-bit_binary : (xs : List Bool) (i : ℕ) → i < length (map bit xs) → get_or (map bit xs) i 0 < 2
map-bit_binary xs i h = subst (λ (v : ℕ). v < 2) (sym (get_or-map bit xs i false)) (bit_below_two (get_or xs i false))

module _ {l : ℕ} {marks values : List ℕ} (before : List ℕ) where
  module _ (f : Formed l marks values (length before)) (s : silent marks values ≡ false) {bits₀ bits : List ℕ} {total : ℕ} (p : Nearing l marks values bits₀ bits total) where
    opens_as : recover_refusal l marks values (length before) ≡ open_refusal l (map is_one (take (26 + 8 * l) bits))
    opens_as = recover_opening l marks values (length before) f s ∙ ap (open_refusal l) (sym (nearing_bits l marks values p))

    pub recovers_done : {after : List ℕ} {m : ℕ} → Opening l (take (26 + 8 * l) bits) before after (Ok m)
        → Recovers l marks values before after (Ok (record { length = l; mode = m; cost = total }))
    recovers_done {m = m} o =
        let z : open_refusal l (map is_one (take (26 + 8 * l) bits)) ≡ 0 = sym o.number in
        let n : eqb (recover_refusal l marks values (length before)) 0 ≡ true = eq-eqb (recover_refusal l marks values (length before)) 0 (opens_as ∙ z) in
        record {
          refusal = sym (opens_as ∙ z);
          told = rw n;
          mode = rw n (o.mode z ∙ ap (mode_of l) (nearing_bits l marks values p));
          weight = rw n p.total_is;
          message = rw n (o.message z ∙ ap (λ (x : List Bool). message_of l x ++ drop l before) (nearing_bits l marks values p));
        }

    pub recovers_failed : {after : List ℕ} (r : Refusal) → Opening l (take (26 + 8 * l) bits) before after (Err r) → Recovers l marks values before after (Err r)
    recovers_failed r o =
        let d = number_not_zero r in
        let n : eqb (recover_refusal l marks values (length before)) 0 ≡ false = ne_eqb (recover_refusal l marks values (length before)) 0 (λ z. d (o.number ∙ sym opens_as ∙ z)) in
        record {
          refusal = o.number ∙ sym opens_as;
          told = rw n;
          mode = rw n;
          weight = rw n;
          message = rw n (o.kept (λ z. d (o.number ∙ z)));
        }
