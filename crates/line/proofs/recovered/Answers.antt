-- `line::recovered` meets its contract. Assumes nothing.
use Rattle.std.proofs.Common.{rules, refl}
use Rattle.line.proofs.Reporting.{refused_reading, told_recovering}
use Rattle.line.proofs.recovered.Goals as goal

pub returns-in_err-l : goal.returns-in_err-l
returns-in_err-l c = search (rules, refused_reading c.args.input.now refl refl c.in_err-l.field-0.0 c.in_err-l.ensures)

pub returns : goal.returns
returns c =
    told_recovering c.args.input.now refl refl c.in_ok-l.ensures c.read_back.auto.marks c.read_back.auto.values c.recover.result c.told-message
    (rw c.from.ensures at c.recover.ensures)
