-- The rows up to t are done, and those past it are as they were.
use Rattle.rows.specs.Rows.{RowsAre}
use Rattle.rows.specs.Slants.{start_of, becomes}
use Rattle.rows.proofs.slant.Pass.run.Given as goal

abbrev pub invariant-loop-t : goal.invariant-loop-t
invariant-loop-t l = RowsAre (start_of l.self) l.self.sweep.majors 0 l.t (becomes l.self l.initial.buf) l.initial.buf l.buf
