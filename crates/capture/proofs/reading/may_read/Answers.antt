-- `capture::reading::may_read` meets its contract: each return is the first condition that holds. Assumes nothing.
use Rattle.std.proofs.Common.{arith, sym, ap, ◌∙◌, ◌≡◌, ◌≤◌, ◌<◌, ℕ, List, true}
use Rattle.uplink.specs.Recover.{marks_good}
use Rattle.capture.specs.Reading.{first_field, told_in}
use Rattle.capture.specs.Parts.{Opening}
use Rattle.capture.proofs.Whole.{whole_size}
use Rattle.capture.proofs.ReadRefusals.{first_size, marks_part, read_first, read_short, read_form, read_mark, read_marks_room, read_values_room, read_done}
use Rattle.capture.proofs.reading.may_read.Goals as goal
use Rattle.capture.proofs.reading.may_read.Goals.{then-marks-l-via-then-marks-l, then-marks-l-via-else-marks-l+then-values-l}

-- a first field that is right, its value a byte
opening : {c : List ℕ} {l : ℕ} → first_field c ≡ true → l ≡ told_in c → l < 256 → 20 ≤ l → Opening l c
opening f e b h = record { told = record { low = h; high = omega arith }; first = f; value = sym e }

pub returns-then-not-is_opened-clause-refusal : goal.returns-then-not-is_opened-clause-refusal
returns-then-not-is_opened-clause-refusal c = sym (read_first c.args.c.now c.args.marks c.args.values (sym c.is_opened.ensures ∙ c.if-not-is_opened.true))

pub bounds-c-3 : goal.bounds-c-3
bounds-c-3 c = omega (arith, first_size c.args.c.now (sym c.is_opened.ensures ∙ c.if-not-is_opened.false))

pub returns-then-l-lt20-clause-refusal : goal.returns-then-l-lt20-clause-refusal
returns-then-l-lt20-clause-refusal c = sym (read_short c.args.c.now c.args.marks c.args.values (sym c.is_opened.ensures ∙ c.if-not-is_opened.false) (omega (arith, c.from-l.ensures)))

pub returns-then-not-is_whole-clause-refusal : goal.returns-then-not-is_whole-clause-refusal
returns-then-not-is_whole-clause-refusal c =
    let o = opening (sym c.is_opened.ensures ∙ c.if-not-is_opened.false) c.from-l.ensures (omega (arith, c.from-l.ensures, c.type_inv.c 3)) (omega arith) in
    sym (read_form o c.args.marks c.args.values (sym c.is_whole.ensures ∙ c.if-not-is_whole.true))

pub slice_bounds-marks_good-end : goal.slice_bounds-marks_good-end
slice_bounds-marks_good-end c = omega (arith, whole_size c.from-l.result c.args.c.now (sym c.is_whole.ensures ∙ c.if-not-is_whole.false))

pub returns-then-not-marks_good-clause-refusal : goal.returns-then-not-marks_good-clause-refusal
returns-then-not-marks_good-clause-refusal c =
    let o = opening (sym c.is_opened.ensures ∙ c.if-not-is_opened.false) c.from-l.ensures (omega (arith, c.from-l.ensures, c.type_inv.c 3)) (omega arith) in
    sym (read_mark o c.args.marks c.args.values (sym c.is_whole.ensures ∙ c.if-not-is_whole.false)
    (ap marks_good (sym (marks_part c.from-l.result c.args.c.now)) ∙ sym c.marks_good.ensures ∙ c.if-not-marks_good.true))

pub returns-then-marks-l-clause-refusal : goal.returns-then-marks-l-clause-refusal
returns-then-marks-l-clause-refusal c =
    let o = opening (sym c.is_opened.ensures ∙ c.if-not-is_opened.false) c.from-l.ensures (omega (arith, c.from-l.ensures, c.type_inv.c 3)) (omega arith) in
    let whole = sym c.is_whole.ensures ∙ c.if-not-is_whole.false in
    let good = ap marks_good (sym (marks_part c.from-l.result c.args.c.now)) ∙ sym c.marks_good.ensures ∙ c.if-not-marks_good.false in
    elim c.then-marks-l.branch [
      | then-marks-l-via-then-marks-l w ↦ sym (read_marks_room o c.args.marks c.args.values whole good w.if-marks-l.true)
      | then-marks-l-via-else-marks-l+then-values-l w ↦ sym (read_values_room o c.args.marks c.args.values whole good w.if-marks-l.false w.if-values-l.true)
    ]

pub returns-clause-refusal : goal.returns-clause-refusal
returns-clause-refusal c =
    let o = opening (sym c.is_opened.ensures ∙ c.if-not-is_opened.false) c.from-l.ensures (omega (arith, c.from-l.ensures, c.type_inv.c 3)) (omega arith) in
    sym (read_done o c.args.marks c.args.values (sym c.is_whole.ensures ∙ c.if-not-is_whole.false)
    (ap marks_good (sym (marks_part c.from-l.result c.args.c.now)) ∙ sym c.marks_good.ensures ∙ c.if-not-marks_good.false) (omega arith) (omega arith))
