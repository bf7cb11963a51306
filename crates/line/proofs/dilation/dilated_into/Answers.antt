-- The values with zeros behind them grow where they stand.
use mathlib.Core.Path.{refl, sym, ◌∙◌}
use native.Mathlib.Omega.{arith}
use lib.ListN
use Rattle.line.proofs.Passes.{dilated-passes}
use Rattle.line.proofs.Parts.{cleared_by}
use Rattle.line.proofs.dilation.dilated_into.Goals as goal

pub returns : goal.returns
returns c =
    let args = c.args in
    let src = args.src.now in
    let length = args.length in
    let copy = c.copy.ensures.done (omega arith) (omega arith) in
    let clear = cleared_by _ _ {hi = lib.ListN.length args.dst.now} c.blacken.ensures (omega arith) (omega (arith, copy.same)) in
    let grown = c.dilate_in_place in
    dilated-passes src copy clear grown.ensures refl (sym copy.same) (omega arith)
    (copy.same ∙ c.requires.2)
    (grown.auto.line ∙ clear.same)
