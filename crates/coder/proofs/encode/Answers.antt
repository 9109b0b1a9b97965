-- `coder::encode` meets its contract: the run of the bits and that of the six zeros give the coded bits (`runs_coded`). Assumes nothing.
use Rattle.coder.proofs.Runs.{runs_coded}
use Rattle.coder.proofs.encode.Goals as goal

pub returns : goal.returns
returns c =
    let first = c.encode_run-s in
    runs_coded first.auto.out first.ensures c.encode_run.ensures
