-- The figure is below 2^32, so that the number does not touch it.
use mathlib.Core.Path.{sym, ap, ap₂, ◌∙◌, subst}
use Prim.Native.Nat.{ℕ, ◌+◌, ◌*◌, ◌<◌, ◌^◌}
use native.Mathlib.Nat.{mod-eq_of_lt}
use lib.ListN.{length as size}
use mir.Facts.{to_z-of_z}
use Rattle.answer.specs.declared.Answer.{Answer}
use Rattle.answer.specs.Refusals.{finished}
use Rattle.frame.specs.declared.direction.Direction.{Direction}
use Rattle.frame.specs.Direction.{dir}
use Rattle.frame.specs.Shape.{shape}
use Rattle.opening.specs.Frames.{OpensFrame}
use Rattle.opening.proofs.Calls.{open_figure}
use Rattle.opening.proofs.host.fibre_open_frame.Goals as goal

pub returns : goal.returns
returns c =
    let a = c.args in
    let fits = c.ranges in
    let frame = shape a.width a.height a.stride in
    let opened = c.open_frame in
    let dst = opened.new.dst in
    let scratch = opened.new.scratch in
    let answer = finished opened.result in
    let opens : OpensFrame a.src.now frame (dir a.p a.q) a.length a.dst.now dst a.scratch.now scratch answer =
    subst (λ (d : Direction). OpensFrame a.src.now frame d a.length a.dst.now dst a.scratch.now scratch answer)
    (ap₂ dir (to_z-of_z fits.p) (to_z-of_z fits.q)) opened.ensures in
    let small = open_figure frame a.length (size a.src.now) (size a.dst.now) (size a.scratch.now) (dir a.p a.q) in
    let fitting = mod-eq_of_lt (subst (λ (z : Answer). z.figure < 2 ^ 32) (sym opens.answers) small) in
    record { a = answer; opens = opens; gives = c.one_number.ensures ∙ ap (λ (n : ℕ). answer.number * 2 ^ 32 + n) fitting }
