-- Along rows and columns a length is its own number of pixels.
use mathlib.Core.Path.{sym, ◌∙◌}
use Rattle.frame.proofs.Lengths.{measured-direction, measured_range, pixels-straight}
use Rattle.frame.proofs.direction.Direction.pixels_for.Goals as goal

pub returns-then-is_straight : goal.returns-then-is_straight
returns-then-is_straight c =
    let d = c.args.self in
    let L = c.args.length in
    let measured = sym c.measures.ensures ∙ c.if-not-measures.false in
    let range = measured_range d L measured in
    rw measured (sym (pixels-straight d (measured-direction d L measured) (sym c.is_straight.ensures ∙ c.if-is_straight.true) L range.2))
