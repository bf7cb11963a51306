-- The run below holds the pixel; or the run that ends is the first, or outshines the one below once it is at the pixel's level, and so goes on.
use Rattle.bright.specs.Generator.{run8}
use Rattle.bright.proofs.Steps.{falls-first, falls-low, falls_pop}
use Rattle.stretch.proofs.generator.fall.Goals.{else-last-ne0-via-then-last-ne0+else-v-under, else-last-ne0-via-else-last-ne0}
use Rattle.stretch.proofs.generator.fall.Goals as goal

pub returns-then-v-under : goal.returns-then-v-under
returns-then-v-under c =
    let a = c.args in
    falls_pop run8 a.line.now a.scratch.now a.at a.start a.under c.requires.0 c.if-last-ne0.true c.if-v-under.true

pub returns : goal.returns
returns c =
    let a = c.args in
    elim c.else-last-ne0.branch [
      | else-last-ne0-via-then-last-ne0+else-v-under w ↦
          falls-low run8 a.line.now a.scratch.now a.at a.start a.under c.requires.0 c.put.new.scratch w.if-v-under.false c.put.ensures
      | else-last-ne0-via-else-last-ne0 w ↦
          falls-first run8 a.line.now a.scratch.now a.at a.start a.under c.requires.0 c.put.new.scratch w.if-last-ne0.false c.put.ensures
    ]
