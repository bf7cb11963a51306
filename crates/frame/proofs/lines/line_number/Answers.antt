-- Where there is line u the frame and the direction are accepted, and the sum fits.
use mathlib.Core.Path.{◌≡◌, sym, ap, ◌∙◌}
use Prim.Native.Nat.{◌*◌, ◌≤◌, ◌<◌}
use native.Mathlib.Omega.{arith}
use lib.IntN.{pos}
use mir.Syntax.{w64}
use mir.Val.{to_z, of_z}
use mir.Facts.{to_z-of_z}
use Rattle.answer.specs.Limits.{longest}
use Rattle.frame.specs.declared.lines.Lines.{Lines}
use Rattle.frame.specs.Lines.{first_line, line_count}
use Rattle.frame.specs.Sweep.{Accepted}
use Rattle.frame.proofs.Firsts.{lines-some, lines-accepted, count_most, first-near, first_fits, number_is}
use Rattle.frame.proofs.Signs.{back, sum_fits}
use Rattle.frame.proofs.lines.line_number.Goals.{Then-u-lines}
use Rattle.frame.proofs.lines.line_number.Goals as goal

accepted : (c : Then-u-lines) → (let a = c.args in Accepted a.shape a.d)
accepted c =
    let a = c.args in
    lines-some a.shape a.d a.u (rw c.lines_of-lines.ensures at c.if-u-lines.true)

counted : (c : Then-u-lines) → (let a = c.args in a.u < line_count a.shape a.d)
counted c =
    let a = c.args in
    rw (c.lines_of-lines.ensures, lines-accepted a.shape a.d (accepted c)) at c.if-u-lines.true

-- the first line's number, through its bits
first : (c : Then-u-lines) → (let a = c.args in to_z w64 (of_z w64 c.lines_of-lines.result.first) ≡ first_line a.shape a.d)
first c =
    let a = c.args in
    let ok = accepted c in
    ap (λ (l : Lines). to_z w64 (of_z w64 l.first)) (c.lines_of-lines.ensures ∙ lines-accepted a.shape a.d ok) ∙ to_z-of_z (first_fits a.shape a.d ok)

small : (c : Then-u-lines) → c.args.u ≤ 2 * longest
small c = let a = c.args in omega (arith, count_most a.shape a.d (accepted c), counted c)

pub overflow_cast-result : goal.overflow_cast-result
overflow_cast-result c = record { sfits = omega (arith, small c) }

pub overflow_add-result : goal.overflow_add-result
overflow_add-result c =
    let a = c.args in
    let at = (goal.at.overflow_add-result c).Then-u-lines in
    rw (first at, back (pos a.u) (omega (arith, small at))) (sum_fits (first_line a.shape a.d) a.u (first-near a.shape a.d (accepted at)) (small at))

pub returns-then-u-lines : goal.returns-then-u-lines
returns-then-u-lines c =
    let a = c.args in
    let at = (goal.at.returns-then-u-lines c).Then-u-lines in
    let fits = sum_fits (first_line a.shape a.d) a.u (first-near a.shape a.d (accepted at)) (small at) in
    rw (first at, back (pos a.u) (omega (arith, small at)), to_z-of_z fits) (sym (number_is a.shape a.d (accepted at) a.u (counted at)))
