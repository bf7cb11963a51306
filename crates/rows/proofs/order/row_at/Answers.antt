-- Rows as they come, or from the last back.
use native.Mathlib.Omega.{arith}
use Rattle.rows.specs.Rows as rows
use borrow.Author.Rules.{rules}
use Rattle.rows.proofs.order.row_at.Goals as goal

pub returns-then-forth : goal.returns-then-forth
unfolding rows.row_at
returns-then-forth c = (rw c.if-forth.true, search rules)

pub returns-else-forth : goal.returns-else-forth
unfolding rows.row_at
returns-else-forth c = (rw c.if-forth.false, omega arith)
