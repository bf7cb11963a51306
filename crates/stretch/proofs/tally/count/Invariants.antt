-- Each turn of the inner loop pops one level, which counts; each of the outer one reads a pixel.
use Rattle.bright.proofs.Counting.{Going}
use Rattle.bright.specs.Reading.{levels8}
use Rattle.stretch.proofs.tally.count.Given as goal

abbrev pub invariant-loop-v : goal.invariant-loop-v
invariant-loop-v l = Going levels8 l.line l.levels l.depth l.total l.v-index

abbrev pub invariant-loop-depth : goal.invariant-loop-depth
invariant-loop-depth l = Going levels8 l.line l.levels l.depth l.total l.v-index

abbrev pub decreases-loop-depth : goal.decreases-loop-depth
decreases-loop-depth l = l.depth
