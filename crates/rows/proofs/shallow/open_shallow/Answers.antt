-- What is accepted goes along the rows, and is opened.
use mathlib.Core.Path.{◌≡◌, sym, ◌∙◌}
use mathlib.Core.Bool.{true}
use Prim.Native.Nat.{◌≤◌}
use lib.ListN.{length}
use Rattle.frame.specs.Direction.{shallow}
use Rattle.frame.specs.Shape.{needed}
use Rattle.frame.specs.Sweep.{Accepted}
use Rattle.frame.proofs.Shapes.{sweep_accepted}
use Rattle.rows.proofs.Acceptance.{can_open_is}
use Rattle.rows.proofs.Shallows.{shallow-slanted}
use Rattle.rows.proofs.shallow.open_shallow.Goals.{Then-is_shallow}
use Rattle.rows.proofs.shallow.open_shallow.Goals as goal

-- the rules accept what is given
accepted : (c : Then-is_shallow) → (let a = c.args in Accepted a.shape a.d × (1 ≤ a.length) × (needed a.shape ≤ length a.buf.now))
accepted c =
    let a = c.args in
    can_open_is a.shape a.d a.length (length a.buf.now) (sym c.can_open.ensures ∙ c.if-can_open.true)

flat : (c : Then-is_shallow) → shallow c.args.d ≡ true
flat c = sym c.is_shallow.ensures ∙ c.if-is_shallow.true

pub open_along-requires : goal.open_along-requires
open_along-requires c =
    let ok = accepted (goal.at.open_along-requires c).Then-is_shallow in
    (rw (c.sweep_of.ensures ∙ sweep_accepted ok.0) (shallow-slanted ok.0 (flat (goal.at.open_along-requires c).Then-is_shallow) _ ok.2), ok.1)
