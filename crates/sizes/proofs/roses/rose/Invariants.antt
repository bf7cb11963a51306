-- The rules, and then one row after the other, each under its own number.
use Rattle.sizes.proofs.Rows.{Filling}
use Rattle.sizes.proofs.roses.rose.Given as goal

abbrev pub invariant-loop-number : goal.invariant-loop-number
invariant-loop-number l = Filling l.src l.shape l.number l.row-items
