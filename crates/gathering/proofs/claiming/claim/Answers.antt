-- The tests, and then the walk along the line.
use mathlib.Core.Path.{◌≡◌, sym, ap, ◌∙◌}
use mathlib.Core.Bool.{false}
use mathlib.Core.Logic.{inl, inr}
use mathlib.Core.List.{List}
use Prim.Native.Nat.{ℕ}
use mir.Facts.{to_z-of_z}
use Rattle.frame.specs.declared.track.Track.{Track}
use Rattle.frame.specs.Shape.{needed}
use Rattle.frame.specs.Lines.{no_line}
use Rattle.frame.specs.Span.{track_of}
use Rattle.frame.specs.Sweep.{Accepted}
use Rattle.frame.proofs.Shapes.{needed-by}
use Rattle.frame.proofs.Tracks.{track_some}
use Rattle.gathering.specs.Claiming.{raised, held}
use Rattle.gathering.proofs.Claimings.{claim_refused, claim_made}
use Rattle.gathering.proofs.Walks.{Walking, walking}
use Rattle.gathering.proofs.claiming.claim.Goals.{After-sweep_of, After-track_of-track, then-track-eq0-via-then-track-eq0, then-track-eq0-via-else-track-eq0+then-values-track, then-track-eq0-via-else-track-eq0+else-values-track+then-best-needed, then-track-eq0-via-else-track-eq0+else-values-track+else-best-needed+then-holders-needed}
use Rattle.gathering.proofs.claiming.claim.Goals as goal

-- the track of the line's own number
track-is : (c : After-track_of-track) → (let a = c.args in c.track_of-track.result ≡ track_of a.shape a.d a.line)
track-is c = rw (to_z-of_z c.ranges.line) at c.track_of-track.ensures

pub returns-then-track-eq0 : goal.returns-then-track-eq0
returns-then-track-eq0 c =
    let a = c.args in
    let track = track-is (goal.at.returns-then-track-eq0 c).After-track_of-track in
    let bytes = c.bytes-needed.ensures in
    claim_refused a.values.now a.number a.shape a.d a.line a.best.now a.holders.now _ _ track bytes
    (elim c.then-track-eq0.branch [
      | then-track-eq0-via-then-track-eq0 w ↦ inl w.if-track-eq0.true
      | then-track-eq0-via-else-track-eq0+then-values-track w ↦ inr (inl w.if-values-track.true)
      | then-track-eq0-via-else-track-eq0+else-values-track+then-best-needed w ↦ inr (inr (inl w.if-best-needed.true))
      | then-track-eq0-via-else-track-eq0+else-values-track+else-best-needed+then-holders-needed w ↦ inr (inr (inr w.if-holders-needed.true))
    ])

-- the frame has the line
found : (c : After-sweep_of) → (let a = c.args in Accepted a.shape a.d × (no_line a.shape a.d a.line ≡ false))
found c =
    let a = c.args in
    track_some a.shape a.d a.line (λ z. c.if-track-eq0.false (ap (λ (t : Track). t.count) {y = track_of a.shape a.d a.line} (track-is (goal.at.After-sweep_of c).After-track_of-track) ∙ z))

walk : (c : After-sweep_of) → (let a = c.args in Walking a.shape a.d a.line c.sweep_of.result c.track_of-track.result)
walk c =
    let a = c.args in
    let there = found c in
    walking a.shape a.d a.line c.sweep_of.result c.track_of-track.result there.0 there.1 c.sweep_of.ensures (track-is (goal.at.After-sweep_of c).After-track_of-track)

bytes-are : (c : After-sweep_of) → c.bytes-needed.result ≡ needed c.args.shape
bytes-are c = c.bytes-needed.ensures ∙ needed-by c.args.shape (found c).0.frame

pub invariant_of-walk : goal.invariant_of-walk
invariant_of-walk c =
    let w = walk (goal.at.invariant_of-walk c).After-sweep_of in
    record { sane = w.sane; spans = w.spans }

pub claim_in-requires : goal.claim_in-requires
claim_in-requires c =
    let w = walk (goal.at.claim_in-requires c).After-sweep_of in
    let bytes = bytes-are (goal.at.claim_in-requires c).After-sweep_of in
    (w.apart, w.reach _ (rw bytes at c.if-best-needed.false), w.reach _ (rw bytes at c.if-holders-needed.false), c.if-values-track.false)

pub returns : goal.returns
returns c =
    let a = c.args in
    let w = walk (goal.at.returns c).After-sweep_of in
    let bytes = bytes-are (goal.at.returns c).After-sweep_of in
    let places = sym w.placed in
    let there = (found (goal.at.returns c).After-sweep_of).0 in
    claim_made a.values.now a.number a.shape a.d a.line a.best.now a.holders.now there (rw w.counted at c.if-values-track.false) (rw bytes at c.if-best-needed.false) (rw bytes at c.if-holders-needed.false)
    _ _
    (c.claim_in.ensures.0 ∙ ap (λ (cs : List ℕ). raised cs a.values.now a.best.now) places)
    (c.claim_in.ensures.1 ∙ ap (λ (cs : List ℕ). held a.number cs a.values.now a.best.now a.holders.now) places)
