-- `capture::reading::is_whole` meets its contract: size and heads decide (`Whole`). Assumes nothing.
use mathlib.Core.List.{List}
use mathlib.Core.Path.{◌≡◌, sym, ap, ◌∙◌}
use Prim.Native.Nat.{ℕ, ◌+◌, ◌-◌, ◌*◌, ◌/◌}
use native.Mathlib.Omega.{arith}
use lib.ListN.{length, take, drop, length-drop}
use Rattle.capture.specs.Reading.{same_bytes}
use Rattle.capture.specs.Parts.{head_of}
use Rattle.capture.proofs.Heads.{fields_part, tail_part}
use Rattle.capture.proofs.Whole.{whole_wrong_size, whole_wrong_head, whole-heads}
use Rattle.capture.proofs.reading.is_whole.Goals as goal

-- the part that is lent stands to the end
head-lent : (l : ℕ) (c : List ℕ) → same_bytes (take 3 (drop 4 c)) (head_of 2 (l + 4)) ≡ same_bytes (take 3 (take (length c - 4) (drop 4 c))) (head_of 2 (l + 4))
head-lent l c = ap (λ (x : List ℕ). same_bytes (take 3 x) (head_of 2 (l + 4))) (sym (tail_part 4 c))

pub returns-then-c-l : goal.returns-then-c-l
returns-then-c-l c = sym (whole_wrong_size c.args.l c.args.c.now (λ e. omega arith))

pub returns-then-not-is_head : goal.returns-then-not-is_head
returns-then-not-is_head c =
    sym (whole_wrong_head c.requires (omega arith)
    (head-lent c.args.l c.args.c.now ∙ sym c.is_head.ensures ∙ c.if-not-is_head.true))

pub returns : goal.returns
returns c =
    let l = c.args.l in
    let bytes = c.args.c.now in
    let size : length bytes ≡ 119 + 28 * l = omega arith in
    let count : length (take (119 + 28 * l - (11 + l)) (drop (11 + l) bytes)) / 27 ≡ l + 4 =
    omega (arith, ap length (fields_part l bytes size), length-drop (11 + l) bytes, size) in
    c.after_marks.ensures
    ∙ rw (count, fields_part l bytes size)
    (sym (whole-heads c.requires (omega arith) (head-lent l bytes ∙ sym c.is_head.ensures ∙ c.if-not-is_head.false)))
