-- `line::line_of` meets its contract: with its line feed it is the line of what was recovered, or of the refusal.
-- Assumes nothing.
use Rattle.std.proofs.Common.{ap, ◌∙◌, List, ℕ, [], ◌∷◌, ◌++◌}
use Rattle.line.proofs.Appending.{ok_head_line}
use Rattle.line.proofs.Reporting.{recounted_line}
use Rattle.line.proofs.line_of.Goals as goal

pub returns-in-Ok-clause-line : goal.returns-in-Ok-clause-line
returns-in-Ok-clause-line c =
    let r = c.in-Ok.recovered in
    ap (λ (x : List ℕ). x ++ (10 ∷ [])) c.ok_line.ensures.line ∙ ok_head_line r.length r.mode r.cost _ ∙ recounted_line c.in-Ok.ensures
