-- `capture::write` meets its contract. Assumes nothing.
use Rattle.std.proofs.Common.{sym, ◌≡◌, ℕ, List, length}
use Rattle.interleave.specs.declared.frames.Heard.{Heard}
use Rattle.uplink.specs.Parts.{HeardOf}
use Rattle.capture.specs.Writing.{write_refusal}
use Rattle.capture.proofs.Refusals.{write_taken}
use Rattle.capture.proofs.write.Goals as goal

-- a call that is not refused, by what was heard of it
taken : {l : ℕ} {marks values : List ℕ} (room : ℕ) {h : Heard} → HeardOf l marks values h → 0 ≡ write_refusal l marks values room → 0 ≡ write_refusal h.l h.marks.now h.values.now room
taken room of e = rw (of.told, of.marked, of.valued) e

pub put_capture-requires : goal.put_capture-requires
put_capture-requires c =
    let h = c.in_ok-heard.heard in
    (write_taken h.l h.marks.now h.values.now (length c.args.capture.now) (sym (taken (length c.args.capture.now) c.in_ok-heard.ensures.heard c.in_ok-heard.ensures.refusal))).roomy
