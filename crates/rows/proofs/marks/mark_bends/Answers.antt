-- No marks where there is no surplus; else a mark for each column.
use native.Mathlib.Omega.{arith}
use lib.ListN.{length}
use Rattle.rows.proofs.Bends.{bends_none}
use Rattle.rows.proofs.marks.mark_bends.Goals as goal

pub returns-then-surplus-eq0 : goal.returns-then-surplus-eq0
returns-then-surplus-eq0 c =
    let a = c.args in
    let p = c.requires in
    bends_none a.run a.rise a.e a.step (length a.bends.now) p.0 p.4 (omega (arith, c.if-surplus-eq0.true))
