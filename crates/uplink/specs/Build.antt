-- Building, document 01: the refusals 1, 2, 3, 4 in this order, and the frame of the message.
-- To be believed: length_wrong, frame_size, build_refusal, Builds. Assumes nothing.
use Rattle.std.specs.Prelude.{Bool, cond, ◌||◌, List, ◌≡◌, ℕ, ◌+◌, ◌*◌, ltb, eqb, length, take, drop}
use Rattle.uplink.specs.Answers.{Built, built_refusal, built_size}
use Rattle.uplink.specs.Frame.{Frame}

-- 1: L below 20 or above 255
abbrev pub length_wrong : ℕ → Bool
length_wrong l = ltb l 20 || ltb 255 l

-- a built frame is 36 (L + 4) bytes
abbrev pub frame_size : ℕ → ℕ
frame_size l = 36 * (l + 4)

-- the first of: 1 length; 2 message not of the exact size; 3 output buffer too short; 4 MMode above 3. 0 where none holds
unfoldable pub build_refusal : ℕ → ℕ → ℕ → ℕ → ℕ
build_refusal l mode size room =
    cond (length_wrong l) 1
    (cond (eqb size l) (cond (ltb room (frame_size l)) 3 (cond (ltb 3 mode) 4 0)) 2)

-- what building answers and leaves in the lent buffer, for every input
pub record Builds (l mode : ℕ) (message before after : List ℕ) (answer : Built) : Type 0 where
  pub refusal : built_refusal answer ≡ build_refusal l mode (length message) (length before)
  pub size : built_size answer ≡ cond (eqb (build_refusal l mode (length message) (length before)) 0) (frame_size l) 0
  pub sized : length after ≡ length before
  pub frame : build_refusal l mode (length message) (length before) ≡ 0 → Frame message mode (take (frame_size l) after)
  pub rest : build_refusal l mode (length message) (length before) ≡ 0 → drop (frame_size l) after ≡ drop (frame_size l) before
  pub kept : (build_refusal l mode (length message) (length before) ≡ 0 → ⊥) → after ≡ before
