-- The frame holds what windows of w columns make of its lines, and the columns past the edge are dark.
use mathlib.Core.Path.{◌≡◌}
use Prim.Native.Nat.{◌-◌, ◌≤◌}
use lib.ListN
use Rattle.rows.specs.Slants.{Grows, Dark, edge}
use Rattle.rows.proofs.shallow.grow_along.Given as goal

abbrev pub invariant-loop-w : goal.invariant-loop-w
invariant-loop-w l =
    (lib.ListN.length l.buf ≡ lib.ListN.length l.initial.buf) × (1 ≤ l.w) × (l.w ≤ l.length)
    × Grows l.darker l.s l.length l.w l.initial.buf l.buf × Dark l.s (edge l.darker l.s.majors l.length l.w) l.buf

abbrev pub decreases-loop-w : goal.decreases-loop-w
decreases-loop-w l = l.length - l.w
