-- The rows from `from` up to i are 0.
use Prim.Native.Nat.{ℕ}
use Rattle.rows.specs.Rows.{rows_by, RowsAre}
use Rattle.rows.proofs.clear.clear_rows.Given as goal

abbrev pub invariant-loop-i : goal.invariant-loop-i
invariant-loop-i l = RowsAre (rows_by l.stride) l.n l.from l.i (λ (i k : ℕ). 0) l.initial.buf l.buf
