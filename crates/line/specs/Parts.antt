-- What the inner functions of the line say to each other. Nothing here has to be believed.
-- Assumes nothing.
use Rattle.std.specs.Prelude.{List, [], ◌∷◌, ◌++◌, ◌≡◌, ℕ, ◌≤◌, take}
use Rattle.uplink.specs.declared.Recovered.{Recovered}
use Rattle.uplink.specs.Recover.{nearest_cost, opened}
use Rattle.payload.specs.Open.{message_of, mode_of}
use Rattle.capture.specs.Reading.{told_in, marks_in, values_in}
use Rattle.line.specs.Line.{decimal, hex, report_refusal}

-- the line of a recovered message, but for its line feed
abbrev pub ok_head : ℕ → ℕ → ℕ → List ℕ → List ℕ
ok_head l mode total message =
    (79 ∷ 75 ∷ []) ++ ((32 ∷ decimal l) ++ ((32 ∷ decimal mode) ++ ((32 ∷ decimal total) ++ ((32 ∷ []) ++ hex message))))

-- the line of a refusal, but for its line feed
abbrev pub refused_head : ℕ → List ℕ
refused_head n = (82 ∷ 69 ∷ 70 ∷ 85 ∷ 83 ∷ 69 ∷ 68 ∷ []) ++ (32 ∷ decimal n)

-- nothing of a capture is refused, and these are the numbers and the message of its line
pub record Recounted (c message : List ℕ) (r : Recovered) : Type 0 where
  pub none : report_refusal c ≡ 0
  pub told : r.length ≡ told_in c
  pub mode : r.mode ≡ mode_of (told_in c) (opened (told_in c) (marks_in (told_in c) c) (values_in (told_in c) c))
  pub total : r.cost ≡ nearest_cost (told_in c) (marks_in (told_in c) c) (values_in (told_in c) c)
  pub sent : take r.length message ≡ message_of (told_in c) (opened (told_in c) (marks_in (told_in c) c) (values_in (told_in c) c))
  pub small : r.length ≤ 255
