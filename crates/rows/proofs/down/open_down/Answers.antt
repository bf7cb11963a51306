-- What is accepted goes down the rows, and is opened.
use mathlib.Core.Path.{◌≡◌, sym, ◌∙◌}
use mathlib.Core.Bool.{true}
use Prim.Native.Nat.{◌≤◌}
use lib.ListN.{length}
use Rattle.frame.specs.Direction.{goes_down}
use Rattle.frame.specs.Shape.{needed}
use Rattle.frame.specs.Sweep.{Accepted}
use Rattle.rows.proofs.Acceptance.{can_open_is, opens-all, opens-done}
use Rattle.rows.proofs.Downs.{down_goes, down-opens}
use Rattle.rows.proofs.down.open_down.Goals.{Then-goes_down}
use Rattle.rows.proofs.down.open_down.Goals as goal

-- the rules accept what is given
accepted : (c : Then-goes_down) → (let a = c.args in Accepted a.shape a.d × (1 ≤ a.length) × (needed a.shape ≤ length a.buf.now))
accepted c =
    let a = c.args in
    can_open_is a.shape a.d a.length (length a.buf.now) (sym c.can_open.ensures ∙ c.if-can_open.true)

falls : (c : Then-goes_down) → goes_down c.args.d ≡ true
falls c = sym c.goes_down.ensures ∙ c.if-goes_down.true

pub open_lines-requires : goal.open_lines-requires
open_lines-requires c =
    let ok = accepted (goal.at.open_lines-requires c).Then-goes_down in
    (rw c.sweep_down.ensures (down_goes ok.0 (falls (goal.at.open_lines-requires c).Then-goes_down) _ ok.2), ok.1)

pub returns-then-goes_down : goal.returns-then-goes_down
returns-then-goes_down c =
    let L = c.args.length in
    let ok = accepted (goal.at.returns-then-goes_down c).Then-goes_down in
    let steep = falls (goal.at.returns-then-goes_down c).Then-goes_down in
    let opened = rw c.sweep_down.ensures at c.open_lines.ensures in
    opens-done (opens-all ok.0 steep L _ ok.1 ok.2) (down-opens ok.0 steep L ok.1 opened)
