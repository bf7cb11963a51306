-- Why what Invariants.antt says lasts, and gives what the function promises.
use mathlib.Core.Path.{refl}
use Prim.Native.Nat.{ℕ}
use native.Mathlib.Omega.{arith}
use Rattle.frame.proofs.Alongs.{row_ends}
use Rattle.frame.proofs.Shapes.{framed}
use Rattle.opening.proofs.Bands.{rows-by, rows_end}
use Rattle.opening.proofs.rowwise.blacken.Goals as goal

pub loop-y-preserved : goal.loop-y-preserved
loop-y-preserved c =
    let a = c.args in
    let loop = c.loop-y in
    let ends = row_ends a.frame loop.y c.loop-y-test.true in
    rows-by a.frame.width a.frame.stride (λ (x y old : ℕ). 0) loop.y (framed a.frame c.requires.0).past loop.invariant
    (c.blacken.ensures.done (omega (arith, ends, c.requires.1, loop.invariant.same))) (λ x h. refl)

pub returns : goal.returns
returns c =
    let end = c.loop-y.auto.y-end in
    rows_end _ _ _ _ _ c.loop-y.invariant (omega arith)
