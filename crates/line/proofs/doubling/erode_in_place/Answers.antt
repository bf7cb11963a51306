-- Why what Invariants.antt says lasts, and gives what the function promises.
use mathlib.Core.Path.{subst}
use Prim.Native.Nat.{ℕ}
use native.Mathlib.Omega.{arith}
use Rattle.line.specs.Passes.{ErodedFront}
use Rattle.line.proofs.Parts.{narrowed-by}
use Rattle.line.proofs.Passes.{eroded-front-one, eroded-front-more}
use borrow.Author.Rules.{rules}
use Rattle.line.proofs.doubling.erode_in_place.Goals as goal

pub loop-w-init : goal.loop-w-init
loop-w-init c = (search rules, search rules, search rules, eroded-front-one _)

pub loop-w-preserved : goal.loop-w-preserved
loop-w-preserved c =
    let at = c.loop-w in
    let grown = c.growth-s in
    let pass = c.meet in
    let pre = c.requires in (
      omega (arith, pass.auto.buf, at.invariant.0),
      omega (arith, at.invariant),
      omega (arith, grown.ensures, at.invariant),
      eroded-front-more at.invariant.3 (narrowed-by _ _ pass.ensures (omega (arith, grown.ensures, at.invariant, pre))) (omega (arith, at.invariant)) (omega (arith, grown.ensures)) (omega (arith, grown.ensures, at.invariant, pre)),
    )

pub returns : goal.returns
returns c =
    let line₀ = c.args.line.now in
    let at = c.loop-w in
    subst (λ (w : ℕ). ErodedFront line₀ w at.line) (omega arith) at.invariant.3
