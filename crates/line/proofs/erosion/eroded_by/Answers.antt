-- The copy of the source is eroded where it stands, and its first values are the erosion.
use mathlib.Core.Path.{refl}
use native.Mathlib.Omega.{arith}
use Rattle.line.proofs.Passes.{eroded-passes}
use Rattle.line.proofs.erosion.eroded_by.Goals as goal

pub returns : goal.returns
returns c =
    let src = c.args.src.now in
    let pre = c.requires in
    let copy = c.copy.ensures.done (omega arith) (omega arith) in
    let eroded = c.erode_in_place in
    eroded-passes src copy eroded.ensures
    (c.copy-2.ensures.done (omega arith) (omega arith)) refl pre.2 refl (omega arith)
