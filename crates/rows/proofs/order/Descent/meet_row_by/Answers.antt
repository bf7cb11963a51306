-- The levels of its lines stand side by side.
use mathlib.Core.Path.{◌∙◌}
use native.Mathlib.Omega.{arith}
use Rattle.frame.proofs.Spans.{shift_le}
use Rattle.rows.proofs.Blocks.{down-row, down-shift, lines_few}
use Rattle.rows.proofs.order.Descent.meet_row_by.Goals as goal

pub returns : goal.returns
returns c =
    let s = c.args.self.sweep in
    let pre = c.requires in
    let row = c.row-i.ensures in
    let there = c.shift_at.ensures ∙ down-shift pre.0 _ row.1 in
    rw (there, row.0) at
    (c.meet_by.ensures.done (omega (arith, there, lines_few pre.0, shift_le s pre.0.sane _ row.1)) (down-row pre.0 _ row.1))
