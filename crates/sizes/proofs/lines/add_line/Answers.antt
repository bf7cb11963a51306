-- Why what Invariants.antt says lasts, and gives what the function promises.
use mathlib.Core.Path.{ap}
use mathlib.Core.List.{◌∷◌}
use native.Mathlib.Omega.{arith}
use lib.ListN.{length}
use Rattle.bright.specs.Generator.{run8}
use Rattle.bright.proofs.Steps.{coming-beginning, coming-next, coming-none}
use Rattle.sizes.proofs.Lights.{Adding, adding_start, adding_sound, adding_more, adding_end, adding_modest}
use Rattle.sizes.proofs.lines.add_line.Goals as goal

pub loop-step-init : goal.loop-step-init
loop-step-init c =
    let f = c.args.line.now in
    let s₀ = c.args.sums.now in
    let pre = c.requires in
    rw (c.begin-at.ensures, coming-beginning run8 f c.args.scratch.now pre.0 pre.1) (adding_start f s₀ pre.0)

pub add_light-requires : goal.add_light-requires
add_light-requires c =
    let line = c.args.line.now in
    let sums = c.args.sums.now in
    let pre = c.requires in
    let pixel = c.type_inv.line in
    let at = c.loop-step in
    let comes = coming-next c.in-Some.ensures in
    let adding : Adding line sums (c.in-Some.step.stretch ∷ _) at.sums = rw comes at at.invariant in
    let modest = adding_modest line sums _ at.sums pre.0 (λ i. omega (arith, pixel i)) pre.3 at.invariant in
    (adding_sound line sums _ _ at.sums adding, omega (arith, at.invariant.same, pre.2), modest)

pub loop-step-smaller : goal.loop-step-smaller
loop-step-smaller c = omega (arith, ap length (coming-next c.in-Some.ensures))

pub loop-step-preserved : goal.loop-step-preserved
loop-step-preserved c =
    let line = c.args.line.now in
    let sums = c.args.sums.now in
    let at = c.loop-step in
    adding_more line sums c.requires.2 c.in-Some.step.stretch _ at.sums _ (rw (coming-next c.in-Some.ensures) at at.invariant) c.add_light.ensures

pub returns : goal.returns
returns c =
    let line = c.args.line.now in
    let sums = c.args.sums.now in
    let at = c.loop-step in
    let none = coming-none c.in_default.ensures in
    adding_end line sums c.requires.2 at.sums (rw none at at.invariant)
