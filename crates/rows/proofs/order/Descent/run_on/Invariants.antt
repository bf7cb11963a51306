-- The levels are those of the rows behind the block that belong to the window of row t; the rows before it have met theirs.
use Prim.Native.Nat.{ℕ, ◌+◌}
use lib.ListN.{get_or}
use Rattle.passes.specs.Passes.{op}
use Rattle.rows.specs.Rows.{RowsAre}
use Rattle.rows.specs.Down.{LevelsAre, start_at, shifts, beyond}
use Rattle.rows.proofs.order.Descent.run_on.Given as goal

abbrev pub invariant-loop-t : goal.invariant-loop-t
invariant-loop-t l =
    LevelsAre l.self.sweep (beyond l.self l.initial.buf l.size l.end l.t) l.levels
    × RowsAre (start_at l.self) l.self.sweep.minors (l.from + 1) l.t (λ (t k : ℕ). op l.self.darker (get_or l.initial.buf (start_at l.self t + k) 0) (beyond l.self l.initial.buf l.size l.end t (k + shifts l.self t))) l.initial.buf l.buf
