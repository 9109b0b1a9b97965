-- `uplink::recover` meets its contract. Assumes nothing.
use Rattle.std.proofs.Common.{rules, sym, ◌∙◌, ℕ, ◌+◌, ◌*◌, List, length, take}
use mathlib.Core.Path.{subst}
use lib.ListN.{length-map}
use Rattle.bits.specs.Bits.{bit}
use Rattle.payload.specs.Calls.{Openable}
use Rattle.uplink.specs.Recover.{opened}
use Rattle.uplink.specs.Demands.{Formed}
use Rattle.uplink.specs.Parts.{Nearing}
use Rattle.uplink.proofs.Forms.{passed_form, passed_heard, recovers_of}
use Rattle.uplink.proofs.Recovering.{recovers_done, recovers_failed, nearing_front, map-bit_binary, length-opened}
use Rattle.uplink.proofs.recover.Goals as goal

-- the bits behind the nearest string can be opened
openable : {l : ℕ} {marks values before bits message : List ℕ} {total : ℕ} → Formed l marks values (length message) → Nearing l marks values before bits total → Openable (take (26 + 8 * l) bits) l message
openable {l} {marks} {values} {message = message} f p =
    subst (λ (x : List ℕ). Openable x l message) (sym (nearing_front l marks values p))
    (record {
      least = f.told.low;
      most = f.told.high;
      sized = length-map (opened l marks values) bit ∙ length-opened l marks values;
      room = f.roomy;
      binary = map-bit_binary (opened l marks values);
    })

pub open-requires : goal.open-requires
open-requires c = openable (passed_form c.in_ok-heard.ensures) c.nearest_payload-cost.ensures

pub returns-in_err-mode : goal.returns-in_err-mode
returns-in_err-mode c =
    let p = c.in_ok-heard.ensures in
    let failed = recovers_failed c.args.message.now (passed_form p) (passed_heard p) c.nearest_payload-cost.ensures c.in_err-mode.field-0.0 c.in_err-mode.ensures in
    search (rules, recovers_of p.of failed)

pub returns : goal.returns
returns c =
    let p = c.in_ok-heard.ensures in
    let done = recovers_done c.args.message.now (passed_form p) (passed_heard p) c.nearest_payload-cost.ensures c.in_ok-mode.ensures in
    rw c.from.ensures (recovers_of p.of done)
