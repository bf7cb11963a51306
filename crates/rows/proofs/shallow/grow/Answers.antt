-- The marks, and the pass over all rows by them.
use mathlib.Core.Path.{ap, ◌∙◌}
use native.Mathlib.Omega.{arith}
use Prim.Native.Nat.{ℕ, ◌-◌, ◌≤◌}
use lib.ListN.{length}
use lib.Seq.{length-take-le}
use Rattle.rows.specs.Slants.{marks_in}
use Rattle.rows.proofs.Bends.{marks_if}
use Rattle.rows.proofs.Slants.{met-lines}
use Rattle.rows.proofs.shallow.grow.Goals as goal

pub returns : goal.returns
returns c =
    let args = c.args in
    let s = args.s in
    let e = args.e in
    let pre = c.requires in
    let edge = c.first_dark-light in
    let first = c.first_met-here.ensures in
    let made = c.mark_bends-bent in
    let fits : edge.result - (e - c.first_met-here.result) ≤ length args.bends.now = omega (arith, pre.0.sane.majors, edge.ensures.2) in
    let whole = length-take-le _ args.bends.now fits ∙ ap (λ (x : ℕ). edge.result - x) first.1 in
    let marks = ap marks_in c.then_some.ensures ∙ marks_if made.result _ in
    met-lines s pre.0.sane pre.0.next args.buf.now (marks_in c.then_some.result) e _ args.darker edge.result
    (λ i k from. pre.4 i k (omega (arith, edge.ensures.0)))
    (rw marks (rw whole at made.ensures)) (rw (first.1, first.0) at c.run.ensures)
