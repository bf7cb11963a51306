-- The first i values have claimed their pixels.
use mathlib.Core.Path.{◌≡◌}
use Rattle.gathering.specs.Claiming.{raised, held}
use Rattle.gathering.proofs.Walks.{places}
use Rattle.gathering.proofs.claiming.claim_in.Given as goal

abbrev pub invariant-loop-i : goal.invariant-loop-i
invariant-loop-i l =
    (l.best ≡ raised (places l.walk.sweep l.walk.track.index l.walk.track.from l.i) l.values l.initial.best)
    × (l.holders ≡ held l.number (places l.walk.sweep l.walk.track.index l.walk.track.from l.i) l.values l.initial.best l.initial.holders)
