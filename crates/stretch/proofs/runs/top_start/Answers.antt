-- The topmost run is the last of the stack.
use mathlib.Core.Path.{sym, ap, ◌∙◌}
use native.Mathlib.Omega.{arith}
use Rattle.bright.specs.Reading.{top_start}
use Rattle.bright.specs.Generator.{run8, stack_of}
use Rattle.bright.proofs.Stack.{stack_top}
use borrow.Author.Rules.{rules}
use Rattle.stretch.proofs.runs.top_start.Goals as goal

pub returns-then-depth-eq0 : goal.returns-then-depth-eq0
unfolding stack_of
returns-then-depth-eq0 c = search rules

pub returns : goal.returns
returns c =
    let a = c.args in
    c.pair_at.ensures ∙ sym (ap top_start (stack_top run8 a.scratch.now a.depth (omega arith)))
