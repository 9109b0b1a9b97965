-- `uplink::nearest_payload` meets its contract. Assumes nothing.
use mathlib.Core.Path.{◌≡◌}
use Prim.Native.Nat.{ℕ, ◌+◌, ◌*◌}
use native.Mathlib.Omega.{arith}
use Rattle.uplink.proofs.Forms.{heard_length}
use Rattle.uplink.proofs.Recovering.{nearing_of}
use Rattle.uplink.proofs.nearest_payload.Goals as goal

-- three for each payload bit and for each of the six that follow
counted : (l : ℕ) → 96 + 24 * l ≡ 3 * (26 + 8 * l + 6)
counted l = omega arith

pub returns : goal.returns
returns c =
    nearing_of c.args.heard.l c.args.heard.marks.now c.args.heard.values.now _ (heard_length c.args.heard) c.gather.ensures c.search-cost.ensures c.apply.ensures
