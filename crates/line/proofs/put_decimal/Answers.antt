-- `line::put_decimal` meets its contract: the digits are the definition's, ten at most. Assumes nothing.
use Rattle.std.proofs.Common.{arith, ap, length, ◌∙◌, List, ℕ, ◌++◌}
use Rattle.line.specs.Line.{decimal}
use Rattle.line.proofs.Decimal.{taken-decimal, length-decimal, length-decimal_byte}
use Rattle.line.proofs.put_decimal.Goals as goal

pub put-requires : goal.put-requires
put-requires c =
    let d = c.decimal-count.ensures in
    omega (
      arith,
      ap length (taken-decimal _ _ _ (omega (arith, c.from.ensures)) d.len d.digits),
      length-decimal c.from.result (omega (arith, c.from.ensures)),
      c.requires,
    )

pub returns-clause-items : goal.returns-clause-items
returns-clause-items c =
    let d = c.decimal-count.ensures in
    c.put.ensures.items
    ∙ ap (λ (x : List ℕ). c.args.line.now.items ++ x) (taken-decimal _ _ _ (omega (arith, c.from.ensures)) d.len d.digits ∙ ap decimal c.from.ensures)

pub returns-clause-len : goal.returns-clause-len
returns-clause-len c =
    let d = c.decimal-count.ensures in
    omega (
      arith,
      c.put.ensures.len,
      ap length (taken-decimal _ _ _ (omega (arith, c.from.ensures)) d.len d.digits),
      length-decimal c.from.result (omega (arith, c.from.ensures)),
    )

pub returns-clause-small : goal.returns-clause-small
returns-clause-small c h =
    let d = c.decimal-count.ensures in
    omega (
      arith,
      c.put.ensures.len,
      ap length (taken-decimal _ _ _ (omega (arith, c.from.ensures)) d.len d.digits),
      length-decimal_byte c.from.result (omega (arith, c.from.ensures, h)),
    )
