-- A pixel that the topmost run is not brighter than ends no run, and a brighter one opens one; a darker one stops the climb.
use Rattle.std.proofs.Common.{◌≡◌, ◌+◌}
use Rattle.bright.proofs.Steps.{Climbing}
use Rattle.bright.specs.Generator.{run8}
use Rattle.stretch.proofs.generator.climb.Given as goal

abbrev pub invariant-loop-v : goal.invariant-loop-v
invariant-loop-v l = record { climbing : Climbing run8 l.line l.fn.scratch l.fn.at l.scratch l.read l.depth l.top; place : l.read ≡ l.fn.at.read + l.v-index }
