-- Why what Invariants.antt says lasts, and gives what the function promises.
use mathlib.Core.Path.{sym, ap, ◌∙◌}
use mathlib.Core.Bool.{cond}
use Prim.Native.Nat.{ℕ, ◌+◌, ◌*◌}
use native.Mathlib.Omega.{arith}
use lib.Dec.{eqb, ltb}
use Rattle.frame.specs.Lines.{r}
use Rattle.rows.proofs.Bends.{rest-start, bend_marked, bends_more}
use Rattle.rows.proofs.marks.mark_columns.Goals as goal

pub loop-bend-init : goal.loop-bend-init
loop-bend-init c =
    let a = c.args in
    (rest-start a.run a.rise c.requires.0, λ e step surplus y h. absurd (omega arith))

pub loop-bend-preserved : goal.loop-bend-preserved
loop-bend-preserved c =
    let a = c.args in
    let p = c.requires in
    let at = c.loop-bend in
    let made = c.mark in (
      c.next_rest-rest.ensures at.bend-index at.invariant.0,
      λ e step surplus.
          bends_more a.run a.rise e step at.bend-index made.result at.bend-items (at.invariant.1 e step surplus) (omega arith)
          (bend_marked a.run a.rise e step p.0 surplus.0 at.invariant.0
          ∙ ap (λ (o : ℕ). r a.run a.rise at.bend-index + cond (eqb (cond (ltb (at.rest + o) (2 * a.run)) 0 1) 0) step (step + 1)) (sym surplus.1)
          ∙ ap (λ (m : ℕ). r a.run a.rise at.bend-index + cond (eqb m 0) step (step + 1)) (sym made.ensures)),
    )
