-- `payload::check` meets its contract: each test is the paper's (`header_check_part`, `payload_check_part`), in its order. Assumes nothing.
use mathlib.Core.List.{map}
use mathlib.Core.Path.{sym, ◌∙◌}
use Rattle.bits.specs.Bits.{is_one}
use Rattle.payload.proofs.Parts.{header_check_part, payload_check_part}
use Rattle.payload.proofs.Refusal.{header_wrong_refusal, psi_wrong_refusal, payload_wrong_refusal, passes_refusal}
use Rattle.payload.proofs.check.Goals as goal

pub returns-then-number_at-crc8_of : goal.returns-then-number_at-crc8_of
returns-then-number_at-crc8_of c =
    let bits = c.args.bits.now in
    sym
    (header_wrong_refusal c.args.l (map is_one bits)
    (λ e. c.if-number_at-crc8_of.true (c.number_at.ensures ∙ e ∙ sym (c.crc8_of.ensures ∙ header_check_part bits))))

pub returns-then-from-l : goal.returns-then-from-l
returns-then-from-l c =
    let bits = c.args.bits.now in
    sym
    (psi_wrong_refusal c.args.l (map is_one bits)
    (record {
      header = sym c.number_at.ensures ∙ c.if-number_at-crc8_of.false ∙ c.crc8_of.ensures ∙ header_check_part bits;
      psi = λ e. c.if-from-l.true (c.from.ensures ∙ c.number_at-2.ensures ∙ e);
    }))

pub returns-then-number_at-crc8_of-2 : goal.returns-then-number_at-crc8_of-2
returns-then-number_at-crc8_of-2 c =
    let bits = c.args.bits.now in
    sym
    (payload_wrong_refusal c.args.l (map is_one bits)
    (record {
      header = sym c.number_at.ensures ∙ c.if-number_at-crc8_of.false ∙ c.crc8_of.ensures ∙ header_check_part bits;
      psi = sym c.number_at-2.ensures ∙ sym c.from.ensures ∙ c.if-from-l.false;
      payload =
          λ e. c.if-number_at-crc8_of-2.true (c.number_at-3.ensures ∙ e ∙ sym (c.crc8_of-2.ensures ∙ payload_check_part c.args.l bits c.requires.sized));
    }))

pub returns : goal.returns
returns c =
    let bits = c.args.bits.now in
    sym
    (passes_refusal c.args.l (map is_one bits)
    (record {
      header = sym c.number_at.ensures ∙ c.if-number_at-crc8_of.false ∙ c.crc8_of.ensures ∙ header_check_part bits;
      psi = sym c.number_at-2.ensures ∙ sym c.from.ensures ∙ c.if-from-l.false;
      payload =
          sym c.number_at-3.ensures ∙ c.if-number_at-crc8_of-2.false ∙ c.crc8_of-2.ensures ∙ payload_check_part c.args.l bits c.requires.sized;
    }))
