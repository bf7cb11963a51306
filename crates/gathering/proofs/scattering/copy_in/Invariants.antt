-- The first i values are at their pixels.
use mathlib.Core.Path.{◌≡◌}
use Rattle.gathering.specs.Scattering.{stored}
use Rattle.gathering.proofs.Walks.{places}
use Rattle.gathering.proofs.scattering.copy_in.Given as goal

abbrev pub invariant-loop-i : goal.invariant-loop-i
invariant-loop-i l = (l.dst ≡ stored (places l.walk.sweep l.walk.track.index l.walk.track.from l.i) l.src l.initial.dst)
