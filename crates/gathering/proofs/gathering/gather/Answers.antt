-- The rules, and then the walk along the line; what it copies is the line as read.
use mathlib.Core.Path.{◌≡◌, refl, ap, ◌∙◌}
use mathlib.Core.List.{List}
use Prim.Native.Nat.{ℕ}
use lib.ListN.{length}
use Rattle.std.proofs.Common.{rules}
use mir.Facts.{to_z-of_z}
use Rattle.lists.specs.Stores.{front}
use Rattle.frame.specs.Span.{track_of}
use Rattle.gathering.proofs.Calls.{Fits, gather-says, gather_fits}
use Rattle.gathering.proofs.Walks.{Walking, walking}
use Rattle.gathering.proofs.gathering.gather.Goals.{After-sweep_of, After-track_of-track}
use Rattle.gathering.proofs.gathering.gather.Goals as goal

-- the track of the line's own number
track-is : (c : After-track_of-track) → (let a = c.args in c.track_of-track.result ≡ track_of a.shape a.d a.line)
track-is c = rw (to_z-of_z c.ranges.line) at c.track_of-track.ensures

pub returns-in_err-count : goal.returns-in_err-count
returns-in_err-count c =
    let a = c.args in
    let track = track-is (goal.at.returns-in_err-count c).After-track_of-track in
    let says = gather-says a.shape a.d a.line (length a.src.now) (length a.dst.now) c.track_of-track.result c.is_frame.result c.bytes.result track c.is_frame.ensures c.bytes.ensures c.in_err-count.ensures in
    search rules

fits : (c : After-sweep_of) → (let a = c.args in Fits a.shape a.d a.line (length a.src.now) (length a.dst.now))
fits c =
    let a = c.args in
    let track = track-is (goal.at.After-sweep_of c).After-track_of-track in
    let says = gather-says a.shape a.d a.line (length a.src.now) (length a.dst.now) c.track_of-track.result c.is_frame.result c.bytes.result track c.is_frame.ensures c.bytes.ensures c.in_ok-count.ensures in
    gather_fits a.shape a.d a.line (length a.src.now) (length a.dst.now) says refl

walk : (c : After-sweep_of) → (let a = c.args in Walking a.shape a.d a.line c.sweep_of.result c.track_of-track.result)
walk c =
    let a = c.args in
    let there = fits c in
    walking a.shape a.d a.line c.sweep_of.result c.track_of-track.result there.ok there.there c.sweep_of.ensures (track-is (goal.at.After-sweep_of c).After-track_of-track)

pub invariant_of-walk : goal.invariant_of-walk
invariant_of-walk c =
    let w = walk (goal.at.invariant_of-walk c).After-sweep_of in
    record { sane = w.sane; spans = w.spans }

pub copy_out-requires : goal.copy_out-requires
copy_out-requires c =
    let w = walk (goal.at.copy_out-requires c).After-sweep_of in
    let there = fits (goal.at.copy_out-requires c).After-sweep_of in
    (w.reach _ there.whole, rw w.counted there.room)

pub returns : goal.returns
returns c =
    let a = c.args in
    let track = track-is (goal.at.returns c).After-track_of-track in
    let says = gather-says a.shape a.d a.line (length a.src.now) (length a.dst.now) c.track_of-track.result c.is_frame.result c.bytes.result track c.is_frame.ensures c.bytes.ensures c.in_ok-count.ensures in
    let values = (walk (goal.at.returns c).After-sweep_of).read a.src.now in
    record { answers = says; written = c.copy_out.ensures ∙ ap (λ (vs : List ℕ). front vs a.dst.now) values }
