-- `quantise::pattern` meets its contract: a NaN has the bits of one, whatever its own. Assumes nothing.
use mathlib.Core.Bool.{true, true≢false}
use mathlib.Core.Path.{◌≡◌, refl, sym, ◌∙◌}
use lib.Ieee.{Float, nan, inf, fin, binary32, is_nan, to_bits}
use Rattle.quantise.proofs.pattern.Goals as goal

nan-bits : (x : Float) → is_nan x ≡ true → 0x7fc0_0000 ≡ to_bits binary32 x
unfolding is_nan to_bits
nan-bits nan e = refl
nan-bits (inf s) e = absurd (true≢false (sym e))
nan-bits (fin s m x) e = absurd (true≢false (sym e))

pub returns-then-is_nan : goal.returns-then-is_nan
returns-then-is_nan c = nan-bits c.args.x (sym c.is_nan.ensures.value ∙ c.if-is_nan.true)
