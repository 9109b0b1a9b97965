-- `coder::step_outputs` meets its contract: the three sums are what the words select (`sums_outputs`). Assumes nothing.
use Rattle.coder.proofs.Windows.{sums_outputs}
use Rattle.coder.proofs.step_outputs.Goals as goal

pub returns : goal.returns
returns c = sums_outputs c.args.w c.requires
