-- `uplink::put_frame` meets its contract. Assumes nothing.
use Rattle.uplink.proofs.Building.{put_of}
use Rattle.uplink.proofs.put_frame.Goals as goal

pub returns : goal.returns
returns c =
    put_of c.args.message.now c.args.mode c.requires.told _ _ c.compose.ensures c.apply.ensures c.encode.ensures c.fill.ensures
