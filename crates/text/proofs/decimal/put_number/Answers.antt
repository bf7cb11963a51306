-- Where no bytes are lent, the digits are counted.
use borrow.Author.Rules.{rules}
use native.Mathlib.Omega.{arith}
use Rattle.text.specs.Decimal.{decimal}
use Rattle.text.proofs.Runs.{puts_past}
use Rattle.text.proofs.decimal.put_number.Goals as goal

pub returns-then-is_empty : goal.returns-then-is_empty
returns-then-is_empty c = puts_past _ _ (decimal c.args.v) _ (search rules) (omega (arith, c.digit_count.ensures))
