-- Why what Invariants.antt says lasts.
use mathlib.Core.Path.{sym, ◌∙◌}
use native.Mathlib.Omega.{arith}
use Rattle.frame.proofs.Lengths.{count-some, count_most, count-below, count-above}
use Rattle.frame.proofs.length.Steps.count_for.Goals as goal

pub loop-low-init : goal.loop-low-init
loop-low-init c =
    let s = c.args.self in
    let L = c.args.length in
    (count-some s.columns s.rows L, count_most s.columns s.rows L c.requires.0, omega arith)

pub loop-low-preserved-then-is_long : goal.loop-low-preserved-then-is_long
loop-low-preserved-then-is_long c =
    let s = c.args.self in
    let at = c.loop-low in
    let on = c.loop-low-test.true in
    let long = sym c.is_long.ensures ∙ c.if-is_long.true in
    (at.invariant.0, count-below s.columns s.rows c.args.length _ (omega (arith, on)) long, omega (arith, at.invariant.2))

pub loop-low-preserved : goal.loop-low-preserved
loop-low-preserved c =
    let s = c.args.self in
    let at = c.loop-low in
    let short = sym c.is_long.ensures ∙ c.if-is_long.false in
    (count-above s.columns s.rows c.args.length _ short, at.invariant.1, at.invariant.2)
