-- A block that ends with the frame, or whose windows have one row; and one that goes on behind.
use mathlib.Core.Logic.{inl, inr, ⊎_elim}
use native.Mathlib.Omega.{arith}
use Rattle.rows.proofs.Blocks.{block_alone, block_joined}
use Rattle.rows.proofs.order.Descent.meet_block.Goals as goal

pub returns-then-end-self : goal.returns-then-end-self
returns-then-end-self c =
    let a = c.args in
    let end = c.min-end in
    let more = c.if-end-self.true in
    block_joined a.self c.requires.0 a.size a.from end.result c.run_back.ensures c.run_on.ensures
    (omega (arith, end.ensures, more)) (omega (arith, end.ensures, more)) (omega (arith, c.if-size-gt1.true))

pub returns-else-size-gt1 : goal.returns-else-size-gt1
returns-else-size-gt1 c =
    let a = c.args in
    let end = c.min-end in
    block_alone a.self c.requires.0 a.size a.from end.result c.run_back.ensures end.ensures
    (⊎_elim (λ all. inr (omega (arith, all))) (λ one. inl (omega (arith, one, c.requires.1))) c.else-size-gt1.either)
