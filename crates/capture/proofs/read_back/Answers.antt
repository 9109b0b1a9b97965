-- `capture::read_back` meets its contract. Assumes nothing.
use mathlib.Core.Path.{sym}
use native.Mathlib.Omega.{arith}
use Rattle.capture.proofs.Answering.{reads_done, taken_size, marks_fit_in, values_fit_in}
use Rattle.capture.proofs.read_back.Goals as goal

pub slice_bounds-copy_in-end : goal.slice_bounds-copy_in-end
slice_bounds-copy_in-end c = omega (arith, taken_size c.args.capture.now c.args.marks.now c.args.values.now c.in_ok-l.l (sym c.in_ok-l.ensures.refusal) c.in_ok-l.ensures.told)

pub slice_bounds-take_values-end : goal.slice_bounds-take_values-end
slice_bounds-take_values-end c = omega (arith, taken_size c.args.capture.now c.args.marks.now c.args.values.now c.in_ok-l.l (sym c.in_ok-l.ensures.refusal) c.in_ok-l.ensures.told)

pub copy_in-requires : goal.copy_in-requires
copy_in-requires c = marks_fit_in c.args.capture.now c.args.marks.now c.args.values.now c.in_ok-l.l (sym c.in_ok-l.ensures.refusal) c.in_ok-l.ensures.told

pub take_values-requires : goal.take_values-requires
take_values-requires c = values_fit_in c.args.capture.now c.args.marks.now c.args.values.now c.in_ok-l.l (sym c.in_ok-l.ensures.refusal) c.in_ok-l.ensures.told

pub returns : goal.returns
returns c = reads_done c.args.capture.now c.args.marks.now c.args.values.now c.in_ok-l.l (sym c.in_ok-l.ensures.refusal) c.in_ok-l.ensures.told c.copy_in.ensures c.take_values.ensures
