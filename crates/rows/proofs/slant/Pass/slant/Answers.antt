-- The pixels that have a partner in the light meet it, and those beside them meet 0.
use native.Mathlib.Omega.{arith}
use Prim.Native.Nat.{◌-◌}
use Rattle.rows.specs.Slants.{forth_of, marks_of}
use Rattle.rows.proofs.Slants.{slant_room, slanted-row}
use Rattle.rows.proofs.slant.Pass.slant.Goals as goal

pub overflow_add-start : goal.overflow_add-start
overflow_add-start c =
    let pre = c.requires in
    omega (arith, slant_room pre.0.slanted (forth_of c.args.self.now) c.args.t pre.1, c.start.ensures, pre.0.some, pre.0.inside)

pub returns : goal.returns
returns c =
    let p = c.args.self.now in
    let pre = c.requires in
    slanted-row p.sweep (forth_of p) (marks_of p) p.here p.there p.step c.args.t (p.light - p.there) p.light c.meet_partners.ensures
    (rw c.start.ensures at c.fade.ensures) (omega (arith, pre.0.some)) pre.0.inside pre.0.onward pre.2 pre.1 (slant_room pre.0.slanted (forth_of p) c.args.t pre.1)
