-- Why what Invariants.antt says lasts, and gives what the function promises.
use Prim.Native.Nat.{◌-◌}
use native.Mathlib.Omega.{arith}
use Rattle.rows.proofs.Rowwise.{rows_start}
use Rattle.rows.proofs.Blocks.{back_none, back_more}
use Rattle.rows.proofs.order.Descent.run_back.Goals as goal

pub loop-t-init : goal.loop-t-init
loop-t-init c =
    let a = c.args in
    let pre = c.requires in
    (omega arith, omega arith, back_none a.self pre.0 a.buf.now a.end)

pub loop-t-preserved : goal.loop-t-preserved
loop-t-preserved c =
    let a = c.args in
    let pre = c.requires in
    let at = c.loop-t in
    let some = c.loop-t-test.true in (
      omega (arith, some),
      omega (arith, at.invariant.1),
      back_more a.self pre.0 (at.t - 1) a.end (rows_start at.invariant.2 (omega (arith, some))) c.meet_next.ensures (omega (arith, at.invariant.1, some)) pre.2,
    )

pub returns : goal.returns
returns c = rows_start c.loop-t.invariant.2 (omega (arith, c.loop-t.invariant.0, c.loop-t-test.false))
