-- `capture::writing::put_capture` meets its contract: the three parts one after another are the capture. Assumes nothing.
use Rattle.capture.proofs.Answering.{writable_heard, marks_fit, packets_fit, capture_stored}
use Rattle.capture.proofs.writing.put_capture.Goals as goal

pub put_field-third-requires : goal.put_field-third-requires
put_field-third-requires c = marks_fit (writable_heard c.args.heard c.requires) c.put_field-second.ensures

pub put_packets-requires : goal.put_packets-requires
put_packets-requires c = packets_fit (writable_heard c.args.heard c.requires) c.put_field-second.ensures c.put_field-third.ensures

pub returns : goal.returns
returns c = capture_stored (writable_heard c.args.heard c.requires) c.put_field-second.ensures c.put_field-third.ensures c.put_packets.ensures
