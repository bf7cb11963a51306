-- Where the lines go on to the right or to the left, the part of the row that they stay in the frame for; the rest meets 0.
use mathlib.Core.Logic.{inl, inr, ⊎_elim}
use native.Mathlib.Omega.{arith}
use Rattle.lists.proofs.Cases.{less_or_not}
use Rattle.rows.proofs.Sides.{gone, row-gone, row-right, row-left}
use Rattle.rows.proofs.row.meet_row.Goals as goal

pub returns-then-n-aside : goal.returns-then-n-aside
returns-then-n-aside c =
    let a = c.args in
    let p = c.requires in
    row-gone a.at a.n a.other a.a a.b p.0 (gone a.buf.now a.other a.n a.a a.b (⊎_elim (λ right. inl (omega (arith, right, c.abs_diff-aside.ensures))) (λ left. inr (omega (arith, left, c.abs_diff-aside.ensures))) (less_or_not a.b a.a))) c.fade.ensures

pub returns-then-b-a : goal.returns-then-b-a
returns-then-b-a c =
    let a = c.args in
    let p = c.requires in
    row-right a.at a.n a.other a.a a.b p.0 c.abs_diff-aside.result p.1 (omega (arith, c.abs_diff-aside.ensures)) (omega arith) c.meet.ensures c.fade-then-b-a.ensures

pub returns-else-b-a : goal.returns-else-b-a
returns-else-b-a c =
    let a = c.args in
    let p = c.requires in
    row-left a.at a.n a.other a.a a.b p.0 c.abs_diff-aside.result p.1 (omega (arith, c.abs_diff-aside.ensures)) (omega arith) c.meet-else-b-a.ensures c.fade-else-b-a.ensures
