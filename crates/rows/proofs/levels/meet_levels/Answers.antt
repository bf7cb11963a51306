-- Lines before the row, of the row, and behind it.
use mathlib.Core.Path.{◌∙◌}
use native.Mathlib.Omega.{arith}
use Rattle.frame.proofs.Spans.{shift_le}
use Rattle.rows.specs.Down.{descent}
use Rattle.rows.proofs.Blocks.{down-row, down-shift, lines_few, levels-met}
use Rattle.rows.proofs.levels.meet_levels.Goals as goal

pub overflow_add-a : goal.overflow_add-a
overflow_add-a c =
    let a = c.args in
    let pre = c.requires in
    omega (arith, c.shift_at-a.ensures, down-shift pre.0 a.i pre.1, shift_le a.s pre.0.sane a.i pre.1, lines_few pre.0)

pub overflow_sub-s : goal.overflow_sub-s
overflow_sub-s c =
    let a = c.args in
    let pre = c.requires in
    omega (arith, c.shift_at-a.ensures, down-shift pre.0 a.i pre.1, shift_le a.s pre.0.sane a.i pre.1)

pub returns : goal.returns
returns c =
    let a = c.args in
    let s = a.s in
    let pre = c.requires in
    let there = c.shift_at-a.ensures ∙ down-shift pre.0 a.i pre.1 in
    let before = c.fade.ensures in
    let row = c.meet_by.ensures in
    let beyond = c.fade-2.ensures in
    levels-met (descent s a.darker) pre.0 a.i (rw there at before) (rw there at row) (rw there at beyond) (omega (arith, lines_few pre.0))
    (shift_le s pre.0.sane a.i pre.1) (down-row pre.0 a.i pre.1)
