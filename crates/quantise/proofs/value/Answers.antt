-- `quantise::value` meets its contract: a NaN, and then by the sign. Assumes nothing.
use mathlib.Core.Path.{◌≡◌, sym, ap, ◌∙◌}
use Prim.Native.Nat.{ℕ, ◌+◌, ◌-◌, ◌%◌, ◌<◌, ◌≤◌}
use native.Mathlib.Omega.{arith}
use Rattle.quantise.proofs.Held.{value_nan, value_plus, value_minus}
use Rattle.quantise.proofs.value.Goals as goal

pub returns-then-m-gt-INFINITY : goal.returns-then-m-gt-INFINITY
returns-then-m-gt-INFINITY c = sym (value_nan c.args.b c.if-m-gt-INFINITY.true)

pub returns-then-b-lt-SIGN : goal.returns-then-b-lt-SIGN
returns-then-b-lt-SIGN c = c.rounded_and_held-r.ensures ∙ sym (value_plus c.args.b (omega arith) c.if-b-lt-SIGN.true)

negated : (x r : ℕ) → x < 256 → r ≤ 127 → (x + r) % 256 ≡ 0 → x ≡ (256 - r) % 256
negated x r fits small e = omega arith

pub returns : goal.returns
returns c = negated c.wrapping_neg.result c.rounded_and_held-r.result (omega arith) (omega arith) c.wrapping_neg.ensures ∙ ap (λ (r : ℕ). (256 - r) % 256) c.rounded_and_held-r.ensures ∙ sym (value_minus c.args.b (omega arith) c.if-b-lt-SIGN.false)
