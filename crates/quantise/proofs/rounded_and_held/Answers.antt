-- `quantise::rounded_and_held` meets its contract: holding the bits holds what is rounded. Assumes nothing.
use mathlib.Core.Path.{◌≡◌, sym, ◌∙◌}
use Prim.Native.Nat.{min, max}
use native.Mathlib.Omega.{arith}
use Rattle.quantise.specs.Parts.{quarter, loudest}
use Rattle.quantise.proofs.Rounding.{held_between}
use Rattle.quantise.proofs.rounded_and_held.Goals as goal

pub returns : goal.returns
returns c =
    let e : c.clamp.result ≡ min (max c.args.m quarter) loudest = c.clamp.ensures ∙ omega arith in
    c.rounded.ensures ∙ rw e (sym (held_between _))
