-- Why what Invariants.antt says lasts, and gives what the function promises.
use mathlib.Core.Path.{◌≡◌, sym}
use Prim.Native.Nat.{◌+◌, ◌-◌}
use native.Mathlib.Omega.{arith}
use Rattle.rows.specs.Down.{beyond}
use Rattle.rows.proofs.Rowwise.{rows_none, rows_end}
use Rattle.rows.proofs.Blocks.{on-more, level-first, level-next}
use Rattle.rows.proofs.order.Descent.run_on.Goals as goal

pub loop-t-init : goal.loop-t-init
loop-t-init c =
    let a = c.args in
    let pre = c.requires in (
      level-first a.self pre.0 a.buf.now a.size (a.from + a.size) (a.from + 1)
          c.start_levels.ensures (omega arith) pre.2,
      rows_none _ _ _ _ _,
    )

pub loop-t-preserved : goal.loop-t-preserved
loop-t-preserved c =
    let a = c.args in
    let s = a.self.sweep in
    let pre = c.requires in
    let at = c.loop-t in
    let end = a.from + a.size in
    let rows = on-more a.self pre.0 (beyond a.self a.buf.now a.size end) at.invariant.1 at.invariant.0
    c.meet_row_by.ensures (omega arith) (omega (arith, pre.2)) in (
      level-next a.self pre.0 a.size end (a.from + 1) at.t (at.t + a.size) rows at.invariant.0 c.take_row.ensures
          (omega arith) (omega (arith, pre.1)) (omega arith) (omega (arith, pre.2)) pre.2,
      rows,
    )

pub returns : goal.returns
returns c =
    let a = c.args in
    let s = a.self.sweep in
    let pre = c.requires in
    let at = c.loop-t in
    let last : at.t ≡ a.from + a.size - 1 = omega (arith, pre.1) in
    rows_end
    (on-more a.self pre.0 (beyond a.self a.buf.now a.size (a.from + a.size)) at.invariant.1 at.invariant.0
    (rw (sym last) at c.meet_row_by-2.ensures) (omega arith) (omega (arith, pre.2)))
    (omega (arith, last, pre.1))
