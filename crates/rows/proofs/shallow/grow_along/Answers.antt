-- Why what Invariants.antt says lasts, and gives what the function promises.
use mathlib.Core.Path.{subst, ◌∙◌}
use Prim.Native.Nat.{ℕ}
use native.Mathlib.Omega.{arith}
use Rattle.rows.specs.Slants.{Dark, edge}
use Rattle.rows.proofs.Growths.{grown-step, grown-dark, grows_end}
use Rattle.rows.proofs.shallow.grow_along.Goals as goal

pub loop-w-preserved : goal.loop-w-preserved
loop-w-preserved c =
    let args = c.args in
    let s = args.s in
    let at = c.loop-w in
    let grown = c.growth-e in
    let pass = c.grow in (
      pass.auto.buf ∙ at.invariant.0,
      omega (arith, at.invariant.1),
      omega (arith, at.invariant.2, grown.ensures),
      record {
        lines = λ f b q.
            grown-step s f args.darker args.length at.w grown.result (at.invariant.3.lines f b q) pass.ensures (omega (arith, at.invariant.1)) at.invariant.2
            (omega (arith, grown.ensures));
      },
      grown-dark args.darker s args.length at.w grown.result at.invariant.4 pass.ensures,
    )

pub returns : goal.returns
returns c =
    let args = c.args in
    let s = args.s in
    let end = c.loop-w in
    (grows_end end.invariant.3 (omega arith), subst (λ (v : ℕ). Dark s (edge args.darker s.majors args.length v) end.buf) (omega arith) end.invariant.4)
