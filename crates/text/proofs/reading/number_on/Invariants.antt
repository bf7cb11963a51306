-- The number whose value so far is `value` goes on at `rest`.
use Rattle.std.proofs.Common.{◌≡◌, length}
use Rattle.text.specs.Reading.{number_on}
use Rattle.text.proofs.reading.number_on.Given as goal

abbrev pub invariant-loop-c : goal.invariant-loop-c
invariant-loop-c l = number_on l.first l.text ≡ number_on l.value l.rest

abbrev pub decreases-loop-c : goal.decreases-loop-c
decreases-loop-c l = length l.rest
