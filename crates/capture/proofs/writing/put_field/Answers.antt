-- `capture::writing::put_field` meets its contract: the head and then the value are the field. Assumes nothing.
use native.Mathlib.Omega.{arith}
use Rattle.capture.proofs.Storing.{headed_field}
use Rattle.capture.proofs.writing.put_field.Goals as goal

pub returns : goal.returns
returns c = headed_field c.head.ensures (omega arith) c.copy_in-next.ensures c.copy_in.ensures
