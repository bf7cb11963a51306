-- The brighter of 0 and a pixel is the pixel.
use native.Mathlib.Omega.{arith}
use Rattle.rows.proofs.Blocks.{lines_few, levels_started}
use Rattle.rows.proofs.order.Descent.start_levels.Goals as goal

pub overflow_add-s : goal.overflow_add-s
overflow_add-s c = omega (arith, lines_few c.requires.0)

pub returns : goal.returns
returns c =
    let a = c.args in
    let pre = c.requires in
    rw c.row.ensures.0 at (levels_started a.self pre.0 a.buf.now c.row.result c.blacken.ensures c.meet_levels.ensures (omega (arith, lines_few pre.0)))
