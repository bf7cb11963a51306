-- Why what Invariants.antt says lasts, and gives what the function promises.
use mathlib.Core.Path.{refl}
use Prim.Native.Nat.{◌+◌}
use native.Mathlib.Omega.{arith}
use Rattle.sizes.specs.Steps.{weighed}
use Rattle.sizes.proofs.Summaries.{weighed-more, weighed-part}
use Rattle.std.proofs.lemmas.Result.{err_from_is_err_and}
use Rattle.sizes.proofs.summary.total_by.Goals as goal

pub loop-i-init : goal.loop-i-init
unfolding weighed
loop-i-init g c = (omega arith, λ w gives. refl)

pub loop-i-preserved : goal.loop-i-preserved
loop-i-preserved g c =
    let at = c.loop-i in
    let added = c.in_ok-total.ensures in
    (omega arith, λ w gives. weighed-more w c.args.sums.now at.i at.total _ _ (omega arith) (at.invariant.1 w gives) (gives _ _ c.weight.ensures) added.1)

pub returns-in_err-total : goal.returns-in_err-total
returns-in_err-total g c w gives =
    let at = c.loop-i in
    let s = c.args.sums.now in
    let more = weighed-more w s at.i at.total _ _ (omega arith) (at.invariant.1 w gives) (gives _ _ c.weight.ensures) refl in
    let over = c.in_err-total.ensures in
    let back = err_from_is_err_and c.from_residual.result c.from_residual.ensures.1 in
    rw (back.1, back.2) (omega (arith, over.0, more, weighed-part w s (at.i + 1)), over.1)
