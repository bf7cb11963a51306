-- Why what Invariants.antt says lasts, and gives what the function promises.
use mathlib.Core.Path.{◌≡◌, sym, ◌∙◌, ap}
use Prim.Native.Nat.{ℕ, ◌≤◌}
use native.Mathlib.Omega.{arith}
use lib.ListN.{get_or, replicate}
use Rattle.frame.specs.Lines.{line_count}
use Rattle.sizes.proofs.Gathered.{count-is-lines, summing_start, summing_more, summing_modest, summing_end}
use Rattle.sizes.proofs.frames.View.set_by_pixels.Goals as goal

pub loop-u-init : goal.loop-u-init
loop-u-init c =
    let view = c.args.self.now in
    summing_start view.src.now view.shape view.d _ _ (c.fill.ensures.after (λ y e. e) ∙ ap (λ (n : ℕ). replicate n 0) (sym c.fill.ensures.len))

pub add_line_of-requires : goal.add_line_of-requires
add_line_of-requires c =
    let view = c.args.self.now in
    let lines = count-is-lines view.shape view.d view.whole.ok c.lines_of-u-end.ensures in
    let at = c.loop-u in
    let dim : (i : ℕ) → get_or view.src.now i 0 ≤ 255 = λ i. omega (arith, view.bytes i) in
    (omega arith, omega arith, omega arith, summing_modest view.src.now view.shape view.d _ view.whole.ok dim at.u at.sums (omega arith) at.invariant)

pub loop-u-preserved : goal.loop-u-preserved
loop-u-preserved c =
    let at = c.loop-u in
    summing_more _ _ _ _ at.u at.sums _ at.auto.sums at.invariant c.add_line_of.ensures

pub returns : goal.returns
returns c =
    let view = c.args.self.now in
    let lines = count-is-lines view.shape view.d view.whole.ok c.lines_of-u-end.ensures in
    let at = c.loop-u in
    let past : at.u ≡ line_count view.shape view.d = omega arith in
    summing_end view.src.now view.shape view.d _ at.sums c.requires.1 (omega arith) (rw (past, c.fill.ensures.len) at at.invariant)
