-- A line shorter than the window has no values, so that the destination stays as it was.
use mathlib.Core.Path.{refl, ◌∙◌}
use native.Mathlib.Omega.{arith}
use Rattle.answer.specs.Rules.{done}
use Rattle.answer.proofs.Rules.{front-none}
use Rattle.line.specs.Windows.{eroded}
use Rattle.line.proofs.Windows.{eroded-length}
use Rattle.line.proofs.erosion.erode.Goals as goal

pub returns-else-length-src : goal.returns-else-length-src
returns-else-length-src c =
    let src = c.args.src.now in
    let L = c.args.length in
    record {
      answers = c.in_ok-count.ensures;
      written = front-none (done c.in_ok-count.count) (eroded src L) c.args.dst.now refl (eroded-length src L ∙ omega arith);
    }
