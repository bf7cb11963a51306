-- The first i pixels of the line are at the front of the destination.
use Prim.Native.Nat.{ℕ, ◌+◌}
use lib.ListN.{get_or}
use Rattle.lists.specs.Stores.{Filled}
use Rattle.frame.specs.Sweep.{cell}
use Rattle.gathering.proofs.gathering.copy_out.Given as goal

abbrev pub invariant-loop-i : goal.invariant-loop-i
invariant-loop-i l = Filled l.initial.dst l.dst 0 l.i (λ (k : ℕ). get_or l.src (cell l.walk.sweep l.walk.track.index (l.walk.track.from + k)) 0)
