-- Why what Invariants.antt says lasts, and gives what the function promises.
use mathlib.Core.Path.{◌∙◌, subst}
use native.Mathlib.Omega.{arith}
use lib.IntN.{ℤ}
use Rattle.gathering.specs.Claiming.{ClaimsLine}
use Rattle.opening.proofs.Lines.{lines-counted, line-back, lines_claimed, all_claimed}
use Rattle.opening.proofs.claiming.claim_lines.Goals as goal

pub loop-u-preserved : goal.loop-u-preserved
loop-u-preserved c =
    let a = c.args in
    let loop = c.loop-u in
    let opened = c.opened_line-line in
    let claimed = c.claim in
    let count = lines-counted c.requires.ok c.lines_of-lines.ensures in
    let here = rw count at c.loop-u-test.true in
    let back = line-back a.shape a.d c.requires.ok loop.u here opened.ensures.0 in
    let claims =
    subst
    (λ (k : ℤ).
    ClaimsLine opened.new.values a.number a.shape a.d k loop.dst claimed.new.best loop.directions
    claimed.new.holders)
    back claimed.ensures in (
      opened.auto.values ∙ loop.invariant.0,
      lines_claimed c.requires.ok loop.invariant.1 here (omega (arith, c.requires.target, loop.invariant.1.raised.same))
          (omega (arith, c.requires.target, loop.invariant.1.holders.same)) opened.ensures.1 claims,
    )

pub returns : goal.returns
returns c =
    let count = lines-counted c.requires.ok c.lines_of-lines.ensures in
    all_claimed c.requires.ok c.loop-u.invariant.1 (omega (arith, count, c.loop-u.auto.u-end, c.loop-u-test.false))
