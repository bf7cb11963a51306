-- Why what Invariants.antt says lasts, and gives what the function promises.
use Prim.Native.Nat.{◌+◌, min}
use native.Mathlib.Omega.{arith}
use Rattle.rows.proofs.Rowwise.{rows_end}
use Rattle.rows.proofs.Blocks.{windows_more}
use Rattle.rows.proofs.order.Descent.meet_windows.Goals as goal

pub loop-from-preserved : goal.loop-from-preserved
loop-from-preserved c =
    let a = c.args in
    let pre = c.requires in
    let at = c.loop-from in
    let more = c.loop-from-test.true in
    windows_more a.self pre.0 a.size at.from (min (at.from + a.size) a.self.sweep.majors)
    (rows_end at.invariant (omega (arith, more))) c.meet_block.ensures (omega (arith, more)) (omega arith) pre.1

pub returns-2 : goal.returns-2
returns-2 c =
    let a = c.args in
    let pre = c.requires in
    let at = c.loop-from in
    let more = c.loop-from-test.true in
    rows_end
    (windows_more a.self pre.0 a.size at.from (min (at.from + a.size) a.self.sweep.majors)
    (rows_end at.invariant (omega (arith, more))) c.meet_block.ensures (omega (arith, more)) (omega arith) pre.1)
    (omega arith)
