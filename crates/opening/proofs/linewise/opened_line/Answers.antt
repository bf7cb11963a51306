-- The line is there, so that gathering is not refused, and stands at the front of the values.
use mathlib.Core.Path.{sym, ◌∙◌, subst}
use mathlib.Core.Bool.{false}
use lib.IntN.{ℤ}
use lib.Seq.{length-take-le}
use Rattle.answer.specs.Refusals.{counted}
use Rattle.frame.specs.Lines.{first_line, no_line}
use Rattle.std.specs.Prelude.{◌≡◌, pos, ◌+ℤ◌}
use Rattle.std.proofs.Common.{rules}
use Rattle.frame.proofs.Firsts.{number_is}
use Rattle.gathering.specs.Gathering.{Gathers}
use Rattle.opening.proofs.Lines.{line-there, line-back, line-given, line-room, line-opened}
use Rattle.opening.proofs.linewise.opened_line.Goals.{After-gather}
use Rattle.opening.proofs.linewise.opened_line.Goals as goal

there : (c : After-gather) → (let a = c.args in no_line a.shape a.d (first_line a.shape a.d +ℤ pos a.u) ≡ false)
there c = line-there c.args.shape c.args.d c.requires.0 c.args.u c.requires.1

gathered : (c : After-gather) → (let a = c.args in Gathers a.src.now a.shape a.d (first_line a.shape a.d +ℤ pos a.u) a.values.now c.gather.new.dst (counted c.gather.result))
gathered c =
    let a = c.args in
    let pre = c.requires in
    let back = line-back a.shape a.d pre.0 a.u pre.1 (c.line_number-line.ensures ∙ number_is a.shape a.d pre.0 a.u pre.1) in
    subst (λ (k : ℤ). Gathers a.src.now a.shape a.d k a.values.now c.gather.new.dst (counted c.gather.result)) back c.gather.ensures

pub unwrap-count-requires : goal.unwrap-count-requires
unwrap-count-requires c =
    let pre = c.requires in
    let is = line-given c.gather.result pre.0 (there (goal.at.unwrap-count-requires c).After-gather) pre.3 pre.4 (gathered (goal.at.unwrap-count-requires c).After-gather) in
    search rules

pub slice_bounds-open_in_place-end-2 : goal.slice_bounds-open_in_place-end-2
slice_bounds-open_in_place-end-2 c =
    let pre = c.requires in
    let at = (goal.at.slice_bounds-open_in_place-end-2 c).After-gather in
    sym (length-take-le _ _ (line-room c.gather.result pre.0 (there at) pre.3 pre.4 (gathered at) c.unwrap-count.ensures))

pub returns : goal.returns
returns c =
    let a = c.args in
    let pre = c.requires in
    let back = line-back a.shape a.d pre.0 a.u pre.1 (c.line_number-line.ensures ∙ number_is a.shape a.d pre.0 a.u pre.1) in
    let at = (goal.at.returns c).After-gather in
    (back, line-opened c.gather.result pre.0 (there at) pre.3 pre.4 (gathered at) c.unwrap-count.ensures pre.2 c.open_in_place.ensures)
