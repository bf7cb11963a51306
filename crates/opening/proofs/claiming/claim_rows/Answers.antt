-- Why what Invariants.antt says lasts, and gives what the function promises.
use mathlib.Core.Path.{◌≡◌, ap, ap₂}
use Prim.Native.Nat.{ℕ, ◌+◌, ◌-◌, ◌*◌, ◌≤◌, max}
use native.Mathlib.Omega.{arith}
use lib.ListN.{length, get_or}
use Rattle.frame.proofs.Alongs.{row_ends}
use Rattle.frame.proofs.Shapes.{framed}
use Rattle.gathering.specs.Claiming.{claims}
use Rattle.opening.proofs.Bands.{gapless-row, rows_left, rows-by, rows_end}
use Rattle.opening.proofs.claiming.claim_rows.Goals as goal

pub loop-y-preserved : goal.loop-y-preserved
loop-y-preserved c =
    let a = c.args in
    let pre = c.requires in
    let loop = c.loop-y in
    let y = loop.y in
    let taken = c.loop-y-test.true in
    let claim = c.claim.ensures in
    let W = a.shape.width in
    let S = a.shape.stride in
    let past = (framed a.shape pre.0).past in
    let new : ℕ → ℕ → ℕ = λ (x n : ℕ). get_or a.new.now (n * W + x) 0 in
    let from : y * W + W ≤ length a.new.now = omega (arith, gapless-row a.shape y taken, pre.1) in
    let room : y * S + W ≤ length loop.dst = omega (arith, row_ends a.shape y taken, pre.2, loop.invariant.0.same) in
    let second : y * S + W ≤ length loop.directions = omega (arith, row_ends a.shape y taken, pre.3, loop.invariant.1.same) in (
      rows-by W S (λ (x n old : ℕ). max old (new x n)) y past loop.invariant.0 (claim.raised from room second)
          (λ x h.
          let e : y * S + x - y * S ≡ x = omega arith in
          ap (λ (k : ℕ). max (get_or loop.dst (y * S + x) 0) (new k y)) e),
      rows-by W S (λ (x n old : ℕ). claims (get_or a.dst.now (n * S + x) 0) a.number (new x n) old) y past loop.invariant.1 (claim.held from room second)
          (λ x h.
          let e : y * S + x - y * S ≡ x = omega arith in
          ap₂ (λ (m k : ℕ). claims m a.number (new k y) (get_or loop.directions (y * S + x) 0))
          (rows_left W S (λ (x n old : ℕ). max old (new x n)) y past loop.invariant.0 (y * S + x) (omega arith)) e),
    )

pub returns : goal.returns
returns c =
    let end = c.loop-y.auto.y-end in
    record { raised = rows_end _ _ _ _ _ c.loop-y.invariant.0 (omega arith); holders = rows_end _ _ _ _ _ c.loop-y.invariant.1 (omega arith) }
