-- The rules, and then the walk along the line; the places it stores at are the line's.
use mathlib.Core.Path.{◌≡◌, refl, sym, ap, ◌∙◌}
use mathlib.Core.List.{List}
use Prim.Native.Nat.{ℕ}
use lib.ListN.{length}
use Rattle.std.proofs.Common.{rules}
use mir.Facts.{to_z-of_z}
use Rattle.frame.specs.Span.{track_of}
use Rattle.gathering.specs.Scattering.{stored}
use Rattle.gathering.proofs.Calls.{Fits, scatter-says, scatter_fits}
use Rattle.gathering.proofs.Walks.{Walking, walking}
use Rattle.gathering.proofs.scattering.scatter.Goals.{After-sweep_of, After-track_of-track}
use Rattle.gathering.proofs.scattering.scatter.Goals as goal

-- the track of the line's own number
track-is : (c : After-track_of-track) → (let a = c.args in c.track_of-track.result ≡ track_of a.shape a.d a.line)
track-is c = rw (to_z-of_z c.ranges.line) at c.track_of-track.ensures

pub returns-in_err-count : goal.returns-in_err-count
returns-in_err-count c =
    let a = c.args in
    let track = track-is (goal.at.returns-in_err-count c).After-track_of-track in
    let says = scatter-says a.shape a.d a.line (length a.src.now) (length a.dst.now) c.track_of-track.result c.is_frame.result c.bytes.result track c.is_frame.ensures c.bytes.ensures c.in_err-count.ensures in
    search rules

fits : (c : After-sweep_of) → (let a = c.args in Fits a.shape a.d a.line (length a.dst.now) (length a.src.now))
fits c =
    let a = c.args in
    let track = track-is (goal.at.After-sweep_of c).After-track_of-track in
    let says = scatter-says a.shape a.d a.line (length a.src.now) (length a.dst.now) c.track_of-track.result c.is_frame.result c.bytes.result track c.is_frame.ensures c.bytes.ensures c.in_ok-count.ensures in
    scatter_fits a.shape a.d a.line (length a.src.now) (length a.dst.now) says refl

walk : (c : After-sweep_of) → (let a = c.args in Walking a.shape a.d a.line c.sweep_of.result c.track_of-track.result)
walk c =
    let a = c.args in
    let there = fits c in
    walking a.shape a.d a.line c.sweep_of.result c.track_of-track.result there.ok there.there c.sweep_of.ensures (track-is (goal.at.After-sweep_of c).After-track_of-track)

pub invariant_of-walk : goal.invariant_of-walk
invariant_of-walk c =
    let w = walk (goal.at.invariant_of-walk c).After-sweep_of in
    record { sane = w.sane; spans = w.spans }

pub copy_in-requires : goal.copy_in-requires
copy_in-requires c =
    let w = walk (goal.at.copy_in-requires c).After-sweep_of in
    let there = fits (goal.at.copy_in-requires c).After-sweep_of in
    (w.reach _ there.whole, rw w.counted there.room)

pub returns : goal.returns
returns c =
    let a = c.args in
    let track = track-is (goal.at.returns c).After-track_of-track in
    let says = scatter-says a.shape a.d a.line (length a.src.now) (length a.dst.now) c.track_of-track.result c.is_frame.result c.bytes.result track c.is_frame.ensures c.bytes.ensures c.in_ok-count.ensures in
    let places = sym (walk (goal.at.returns c).After-sweep_of).placed in
    record { answers = says; written = c.copy_in.ensures ∙ ap (λ (cs : List ℕ). stored cs a.src.now a.dst.now) places }
