-- The line holds its dilation by windows of w pixels.
use mathlib.Core.Path.{◌≡◌}
use Prim.Native.Nat.{◌-◌, ◌≤◌}
use lib.ListN
use Rattle.line.specs.Passes.{DilatedFront}
use Rattle.line.proofs.doubling.dilate_in_place.Given as goal

abbrev pub invariant-loop-w : goal.invariant-loop-w
invariant-loop-w l = (lib.ListN.length l.line ≡ lib.ListN.length l.initial.line) × (1 ≤ l.w) × (l.w ≤ l.length) × DilatedFront l.initial.line l.w l.line

abbrev pub decreases-loop-w : goal.decreases-loop-w
decreases-loop-w l = l.length - l.w
