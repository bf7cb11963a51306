-- Why what Invariants.antt says lasts, and gives what the function promises.
use mathlib.Core.Path.{subst}
use Prim.Native.Nat.{ℕ}
use native.Mathlib.Omega.{arith}
use lib.ListN
use Rattle.line.specs.Passes.{DilatedFront}
use Rattle.line.proofs.Parts.{widened-by}
use Rattle.line.proofs.Passes.{dilated-front-one, dilated-front-more}
use borrow.Author.Rules.{rules}
use Rattle.line.proofs.doubling.dilate_in_place.Goals as goal

pub loop-w-init : goal.loop-w-init
loop-w-init c = (search rules, search rules, search rules, dilated-front-one _)

pub loop-w-preserved : goal.loop-w-preserved
loop-w-preserved c =
    let at = c.loop-w in
    let grown = c.growth-s in
    let pass = c.meet in
    let pre = c.requires in (
      omega (arith, pass.auto.buf, at.invariant.0),
      omega (arith, at.invariant),
      omega (arith, grown.ensures, at.invariant),
      dilated-front-more at.invariant.3 (widened-by _ _ {hi = lib.ListN.length at.line} pass.ensures (omega (arith, grown.ensures, at.invariant, pre)) (omega arith)) (omega (arith, grown.ensures)) (omega (arith, at.invariant)),
    )

pub returns : goal.returns
returns c =
    let line₀ = c.args.line.now in
    let at = c.loop-w in
    subst (λ (w : ℕ). DilatedFront line₀ w at.line) (omega arith) at.invariant.3
