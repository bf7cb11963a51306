-- The first pass leaves in the places where the encloser of each stretch starts; from the last one down each is linked to its encloser's place.
use Rattle.bright.proofs.Links.{Linking}
use Rattle.stretch.proofs.nesting.enclosers.Given as goal

abbrev pub invariant-loop-k : goal.invariant-loop-k
invariant-loop-k l = Linking l.line l.starts l.initial.places l.initial.scratch l.count l.places l.scratch l.k
