-- The lines of a shallow direction.
--   shallow-slanted   they go along the rows
-- Assumes nothing.
use mathlib.Core.Path.{◌≡◌, refl}
use mathlib.Core.Bool.{true}
use mathlib.Core.List.{List}
use Prim.Native.Nat.{ℕ, ◌≤◌}
use lib.ListN.{length}
use Rattle.frame.specs.declared.direction.Direction.{Direction}
use Rattle.frame.specs.declared.shape.Shape.{Shape}
use Rattle.frame.specs.Direction.{shallow}
use Rattle.frame.specs.Shape.{needed}
use Rattle.frame.specs.Sweep as sweep
use Rattle.frame.specs.Sweep.{sweep_of, Accepted}
use Rattle.frame.proofs.Shapes.{framed, sweep_sane}
use Rattle.rows.specs.Slants.{Slanted}

pub shallow-slanted : {sh : Shape} {d : Direction} → Accepted sh d → shallow d ≡ true → (g : List ℕ) → needed sh ≤ length g → Slanted (sweep_of sh d) g
unfolding sweep.sweep_of
shallow-slanted {sh} a flat g room =
    record { sane = sweep_sane a; next = rw flat refl; apart = rw flat (framed sh a.frame).past; room = rw flat room }
