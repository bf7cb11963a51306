-- One block more is done.
use borrow.Author.Rules.{rules}
use Rattle.passes.specs.Passes.{op}
use Rattle.passes.proofs.Blocks.{met-more}
use Rattle.passes.proofs.pass.run_blocks.Goals as goal

pub loop-k-preserved : goal.loop-k-preserved
loop-k-preserved g c =
    let a = c.args in
    let i = c.block_at-i in
    let block = c.made-block in
    met-more (op a.darker) (g.P.Partner.of a.partner) a.at a.n a.up c.requires.keeps block.result c.loop-k.k i.result i.ensures.0 c.loop-k.invariant (search rules) block.ensures
    c.store.ensures
