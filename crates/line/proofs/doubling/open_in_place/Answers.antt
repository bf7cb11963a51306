-- Windows of no pixels change nothing; all is dark where they are too long for the line; else the erosion, zeros past its values, and the dilation of that.
use mathlib.Core.Path.{refl, ◌∙◌}
use Prim.Native.Nat.{◌≤◌}
use native.Mathlib.Omega.{arith}
use lib.ListN
use borrow.Author.Tests.{lt-ltb, le-ltb}
use Rattle.line.proofs.Parts.{cleared_by}
use Rattle.line.proofs.Passes.{opened-short, opened-passes}
use Rattle.line.proofs.doubling.open_in_place.Goals as goal

pub returns-then-length-eq0 : goal.returns-then-length-eq0
returns-then-length-eq0 c = rw (lt-ltb c.args.length 1 (omega arith))

pub returns-then-n-length : goal.returns-then-n-length
returns-then-n-length c =
    let args = c.args in
    rw (le-ltb args.length 1 (omega arith))
    (opened-short args.line.now args.length refl c.if-n-length.true (cleared_by _ _ c.blacken.ensures (omega arith) (omega arith)))

pub returns : goal.returns
returns c =
    let args = c.args in
    let eroded = c.erode_in_place in
    let cleared = cleared_by _ _ {hi = lib.ListN.length eroded.new.line} c.blacken-2.ensures (omega (arith, eroded.auto.line)) (omega arith) in
    let some : 1 ≤ args.length = omega arith in
    let fit = c.if-n-length.false in
    rw (le-ltb args.length 1 some)
    (opened-passes args.line.now args.length eroded.ensures cleared c.dilate_in_place.ensures some fit eroded.auto.line
    (c.dilate_in_place.auto.line ∙ cleared.same ∙ eroded.auto.line))
