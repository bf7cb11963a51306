-- The index of the number, and then the track of that line; nowhere where there is no such line.
use mathlib.Core.Path.{◌≡◌, sym, ◌∙◌}
use native.Mathlib.Omega.{arith}
use lib.IntN.{sub_ℕ}
use mir.Facts.{to_z-of_z}
use Rattle.frame.specs.Sweep.{sweep_for, low}
use Rattle.frame.proofs.Numbers.{sub_inj}
use Rattle.frame.proofs.Shapes.{sweep_accepted}
use Rattle.frame.proofs.Tracks.{track_nowhere, track_found}
use Rattle.frame.proofs.track.track_of.Goals.{After-low, In-Some-index_of}
use Rattle.frame.proofs.track.track_of.Goals as goal

-- the sweep, as `sweep_of` hands it back
swept : (c : After-low) → (let a = c.args in c.in-Some.s ≡ sweep_for a.shape a.d)
swept c = c.in-Some.ensures.1 ∙ sym (sweep_accepted c.in-Some.ensures.0)

-- the line's index, where there is one
found : (c : In-Some-index_of) → (let a = c.args in sub_ℕ c.in-Some-index_of.u (low (sweep_for a.shape a.d)) ≡ a.line)
found c =
    let at = (goal.at.In-Some-index_of c).After-low in
    rw (to_z-of_z c.ranges.line, c.low.ensures, swept at) at c.in-Some-index_of.ensures

pub returns-in-Some-index_of : goal.returns-in-Some-index_of
returns-in-Some-index_of c =
    let a = c.args in
    let at = goal.at.returns-in-Some-index_of c in
    let s = swept at.After-low in
    c.track.ensures
    ∙ rw s (track_found a.shape a.d a.line c.in-Some-index_of.u (found at.In-Some-index_of) (rw (c.lines.ensures, s) at c.if-u-lines.true))

pub returns-in_default-index_of : goal.returns-in_default-index_of
returns-in_default-index_of c =
    let a = c.args in
    let at = goal.at.returns-in_default-index_of c in
    let number = found at.In-Some-index_of in
    let past = rw (c.lines.ensures, swept at.After-low) at c.if-u-lines.false in
    track_nowhere a.shape a.d a.line (λ v e. omega (arith, past, sub_inj v c.in-Some-index_of.u (low (sweep_for a.shape a.d)) (e ∙ sym number)))

pub returns-in_default-index_of-2 : goal.returns-in_default-index_of-2
returns-in_default-index_of-2 c =
    let a = c.args in
    let at = goal.at.returns-in_default-index_of-2 c in
    let missing = rw (to_z-of_z c.ranges.line, c.low.ensures, swept at.After-low) at c.in_default-index_of.ensures in
    track_nowhere a.shape a.d a.line (λ v e. absurd (missing v e))
