-- Some run is open already, or the line is at its end, or the pixel opens the first run.
use mathlib.Core.Path.{refl}
use lib.ListN.{get_or}
use Rattle.bright.proofs.Steps.{begins-first}
use Rattle.bright.specs.Generator.{run8}
use Rattle.stretch.proofs.generator.open_first.Goals as goal

pub returns : goal.returns
returns c =
    let stored = c.put in
    let a = c.args in
    begins-first run8 a.line.now a.scratch.now a.at c.requires stored.new.scratch (get_or a.line.now a.at.read 0)
    c.if-at-ne0.false c.if-at-line.false refl stored.auto.scratch stored.ensures
