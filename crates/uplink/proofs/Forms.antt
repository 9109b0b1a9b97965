-- What is known of a call, from what was heard of it. Assumes nothing.
use mathlib.Core.Bool.{Bool, true, false}
use mathlib.Core.List.{List}
use mathlib.Core.Path.{◌≡◌, sym, ap, ap₂, ◌∙◌}
use Prim.Native.Nat.{ℕ, ◌+◌, ◌*◌, ◌≤◌}
use lib.ListN.{length}
use Rattle.interleave.specs.Interleave.{Length}
use Rattle.interleave.specs.declared.frames.Heard.{Heard}
use Rattle.uplink.specs.Answers.{Recovery}
use Rattle.uplink.specs.Recover.{marks_good, silent, Recovers}
use Rattle.uplink.specs.Demands.{Formed}
use Rattle.uplink.specs.Parts.{HeardOf, Passed}

-- a length that was heard of
pub heard_length : (h : Heard) → Length h.l
heard_length h = record { low = h.low; high = h.high }

module _ {l : ℕ} {marks values : List ℕ} (h : Heard) (of : HeardOf l marks values h) where
  pub told_of : Length l
  told_of = rw of.told at (heard_length h)

  pub marked_of : length marks ≡ l + 4
  marked_of = ap length (sym of.marked) ∙ h.marked ∙ ap (λ (n : ℕ). n + 4) of.told

  pub valued_of : length values ≡ 24 * (l + 4)
  valued_of = ap length (sym of.valued) ∙ h.valued ∙ ap (λ (n : ℕ). 24 * (n + 4)) of.told

  pub formed_of : {room : ℕ} → l ≤ room → marks_good marks ≡ true → Formed l marks values room
  formed_of r g = record { told = told_of; marked = marked_of; valued = valued_of; roomy = r; marks_are = g }

  pub silent_of : {b : Bool} → silent h.marks.now h.values.now ≡ b → silent marks values ≡ b
  silent_of s = ap₂ silent (sym of.marked) (sym of.valued) ∙ s

-- what was heard is of the call: what holds of the one holds of the other
pub passed_form : {l : ℕ} {marks values : List ℕ} {room : ℕ} {h : Heard} → Passed l marks values room h → Formed h.l h.marks.now h.values.now room
passed_form p = rw (p.of.told, p.of.marked, p.of.valued) p.formed

pub passed_heard : {l : ℕ} {marks values : List ℕ} {room : ℕ} {h : Heard} → Passed l marks values room h → silent h.marks.now h.values.now ≡ false
passed_heard p = rw (p.of.marked, p.of.valued) p.something

pub recovers_of :
    {l : ℕ} {marks values : List ℕ} {h : Heard} → HeardOf l marks values h → {before after : List ℕ} {answer : Recovery}
    → Recovers h.l h.marks.now h.values.now before after answer → Recovers l marks values before after answer
recovers_of of r = rw (of.told, of.marked, of.valued) at r
