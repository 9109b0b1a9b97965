-- `capture::reading::is_head` meets its contract: the bytes start with the head. Assumes nothing.
use Rattle.std.proofs.Common.{◌∙◌, ◌/◌, ◌%◌}
use Rattle.capture.proofs.Heads.{head_starts}
use Rattle.capture.proofs.reading.is_head.Goals as goal

pub returns : goal.returns
returns c = c.starts_with.ensures.value ∙ rw c.head.ensures (head_starts c.args.c.now c.args.tag (c.args.size / 256) (c.args.size % 256) c.requires.room)
