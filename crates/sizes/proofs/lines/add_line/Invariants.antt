-- Each turn the next stretch goes to its entry, until none is to come.
use lib.ListN.{length}
use Rattle.bright.specs.Generator.{run8, coming}
use Rattle.sizes.proofs.Lights.{Adding}
use Rattle.sizes.proofs.lines.add_line.Given as goal

abbrev pub invariant-loop-step : goal.invariant-loop-step
invariant-loop-step l = Adding l.line l.fn.sums (coming run8 l.line l.scratch l.at) l.sums

abbrev pub decreases-loop-step : goal.decreases-loop-step
decreases-loop-step l = length (coming run8 l.line l.scratch l.at)
