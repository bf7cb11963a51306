-- The last two blocks overlap.
use Prim.Native.Nat.{◌-◌, ◌/◌}
use native.Mathlib.Omega.{arith}
use Rattle.passes.specs.Passes.{op}
use Rattle.passes.proofs.Blocks.{last-at, met-ends}
use Rattle.passes.proofs.pass.run.Goals as goal

pub returns : goal.returns
returns g c =
    let a = c.args in
    let start = c.block_at-i in
    let end = c.block_at in
    let next = c.made-next in
    let last = c.made-last in
    met-ends (op a.darker) (g.P.Partner.of a.partner) a.at a.n a.up c.requires.keeps next.result last.result ((a.n - 65) / 64) start.result (a.n - 64 - end.result)
    start.ensures.0 (last-at a.n end.result a.up end.ensures.0 (omega arith)) c.run_blocks.ensures (omega arith) (omega arith)
    next.ensures last.ensures c.store-2.ensures c.store-3.ensures
