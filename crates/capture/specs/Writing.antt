-- Writing a capture, document 01: the refusals 1, 2, 3, 5 in this order, and the size.
-- To be believed: write_refusal, Writes. Assumes nothing.
use Rattle.std.specs.Prelude.{cond, ◌&&◌, List, ◌++◌, ◌≡◌, ℕ, ◌+◌, ◌*◌, ltb, eqb, length, drop}
use Rattle.uplink.specs.Build.{length_wrong}
use Rattle.uplink.specs.Recover.{marks_good}
use Rattle.capture.specs.Capture.{capture_of, capture_size}
use Rattle.capture.specs.Answers.{Written, written_refusal, written_size}

-- the first of: 1 length; 2 marks or values not of the exact size; 3 output buffer too short; 5 a mark other than 0 or 1. 0 where none holds
unfoldable pub write_refusal : ℕ → List ℕ → List ℕ → ℕ → ℕ
write_refusal l marks values room =
    cond (length_wrong l) 1
    (cond (eqb (length marks) (l + 4) && eqb (length values) (24 * (l + 4)))
    (cond (ltb room (capture_size l)) 3 (cond (marks_good marks) 0 5))
    2)

-- what writing answers and leaves in the lent buffer, for every input
pub record Writes (l : ℕ) (marks values before after : List ℕ) (answer : Written) : Type 0 where
  pub refusal : written_refusal answer ≡ write_refusal l marks values (length before)
  pub size : written_size answer ≡ cond (eqb (write_refusal l marks values (length before)) 0) (capture_size l) 0
  pub bytes : after ≡ cond (eqb (write_refusal l marks values (length before)) 0) (capture_of l marks values ++ drop (capture_size l) before) before
