-- `line::ok_line` meets its contract: it has 543 bytes at most. Assumes nothing.
use Rattle.std.proofs.Common.{arith, ap, length}
use Rattle.line.proofs.ok_line.Goals as goal

pub put_hex-requires : goal.put_hex-requires
put_hex-requires c =
    omega (
      arith,
      ap length c.new-line.ensures,
      c.put.ensures.len,
      c.put_number.ensures.small c.requires.told,
      c.put_number-2.ensures.len,
      c.put_number-3.ensures.len,
      c.put-2.ensures.len,
      c.requires.message,
    )

pub returns-clause-within : goal.returns-clause-within
returns-clause-within c =
    omega (
      arith,
      ap length c.new-line.ensures,
      c.put.ensures.len,
      c.put_number.ensures.small c.requires.told,
      c.put_number-2.ensures.len,
      c.put_number-3.ensures.len,
      c.put-2.ensures.len,
      c.put_hex.ensures.len,
      c.requires.message,
    )
