-- The line is at its end with no run open, or the climb comes to a run that ends there.
use mathlib.Core.Path.{◌∙◌}
use Rattle.bright.proofs.Steps.{follows-none, follows-found}
use Rattle.bright.specs.Generator.{run8}
use Rattle.stretch.proofs.generator.find.Goals as goal

pub returns-then-first-eq0 : goal.returns-then-first-eq0
returns-then-first-eq0 c =
    let none = c.open_first-first.ensures.none c.if-first-eq0.true in
    let a = c.args in
    follows-none run8 a.line.now a.scratch.now a.at c.open_first-first.new.scratch c.requires none.0 none.1 none.2

pub returns : goal.returns
returns c =
    let first = c.open_first-first in
    let climbed = c.climb-here in
    let closed = c.close in
    let a = c.args in
    follows-found run8 a.line.now a.scratch.now a.at c.requires climbed.new.scratch closed.new.scratch climbed.result closed.result
    (first.ensures.same ∙ climbed.ensures.same) closed.ensures (closed.auto.scratch ∙ climbed.auto.scratch ∙ first.auto.scratch)
