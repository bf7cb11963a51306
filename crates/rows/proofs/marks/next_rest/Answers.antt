-- By whether another row is reached.
use native.Mathlib.Omega.{arith}
use Rattle.rows.proofs.Bends.{rest_stay, rest-step}
use Rattle.rows.proofs.marks.next_rest.Goals as goal

pub returns-then-next-d : goal.returns-then-next-d
returns-then-next-d c = λ x p. rest_stay p c.if-next-d.true

pub returns-else-next-d : goal.returns-else-next-d
returns-else-next-d c = λ x p. rest-step p (omega arith) (omega (arith, c.if-next-d.false))
