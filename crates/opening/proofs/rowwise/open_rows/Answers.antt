-- Why what Invariants.antt says lasts, and gives what the function promises.
use mathlib.Core.Path.{◌≡◌, ap, ◌∙◌}
use mathlib.Core.List.{List}
use Prim.Native.Nat.{ℕ, ◌+◌, ◌*◌, ◌≤◌}
use native.Mathlib.Omega.{arith}
use borrow.Author.Tests.{le-ltb}
use lib.ListN.{length, get_or}
use Rattle.lists.proofs.Stores.{filled_copy}
use Rattle.line.specs.Windows.{opened}
use Rattle.frame.specs.Shape.{shape}
use Rattle.frame.proofs.Alongs.{row_ends}
use Rattle.gathering.proofs.LentRows.{row-length}
use Rattle.opening.proofs.Bands.{part_length, rows-put, rows_end}
use Rattle.opening.proofs.rowwise.open_rows.Goals as goal

pub loop-y-preserved : goal.loop-y-preserved
loop-y-preserved c =
    let a = c.args in
    let pre = c.requires in
    let loop = c.loop-y in
    let from = loop.y * a.stride in
    let taken = c.loop-y-test.true in
    let fits = row_ends (shape a.frame.width a.frame.height a.stride) loop.y (omega (arith, taken)) in
    let room : from + a.frame.width ≤ length loop.dst = omega (arith, loop.invariant.same, fits, pre.4) in
    let part = part_length from a.frame.width loop.dst room in
    let line = c.row-line.result.now in
    let long : length line ≡ a.frame.width = ap length c.row-line.ensures.contents ∙ row-length a.src.now a.frame loop.y pre.0 pre.3 (omega (arith, taken)) in
    let copied = filled_copy line (c.copy.ensures.done (omega (arith, long)) (omega (arith, part))) (omega (arith, long)) (omega (arith, part, long)) in
    let vals = c.open_in_place.ensures ∙ rw (le-ltb a.length 1 pre.2) (ap (λ (l : List ℕ). opened l a.length) (copied ∙ c.row-line.ensures.contents)) in
    rows-put a.frame.width a.stride _ c.open_in_place.new.line loop.y pre.1
    room loop.invariant
    (c.open_in_place.auto.line ∙ c.copy.auto.dst ∙ part) (λ x h. ap (λ (l : List ℕ). get_or l x 0) vals)

pub returns : goal.returns
returns c =
    let end = c.loop-y.auto.y-end in
    rows_end _ _ _ _ _ c.loop-y.invariant (omega arith)
