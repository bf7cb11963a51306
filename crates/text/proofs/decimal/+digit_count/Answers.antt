-- Why what Invariants.antt says lasts, and gives what the function promises.
use mathlib.Core.Path.{sym, ap, ◌∙◌}
use native.Mathlib.Omega.{arith}
use lib.ListN.{length}
use Rattle.text.proofs.Decimals.{decimal-one, decimal-length, decimal-most}
use Prim.Native.Nat.{ℕ, ◌+◌, ◌/◌}
use Rattle.text.proofs.decimal.+digit_count.Goals as goal

pub returns-then-v-lt10 : goal.returns-then-v-lt10
returns-then-v-lt10 t c = sym (ap length (decimal-one c.args.v c.if-v-lt10.true))

pub overflow_add-result : goal.overflow_add-result
overflow_add-result t c = omega (arith, c.digit_count.ensures, decimal-most (c.args.v / 10))

pub returns : goal.returns
returns t c =
    ap (λ (k : ℕ). k + 1) c.digit_count.ensures ∙ sym (decimal-length c.args.v c.if-v-lt10.false c.ranges.v.fits)
