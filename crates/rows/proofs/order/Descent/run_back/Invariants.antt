-- Rows from t on have met those that come next in the block.
use Prim.Native.Nat.{ℕ, ◌+◌, ◌-◌, ◌≤◌, ◌<◌}
use Rattle.rows.specs.Rows.{RowsAre}
use Rattle.rows.specs.Down.{start_at, shifts, extreme_of}
use Rattle.rows.proofs.order.Descent.run_back.Given as goal

abbrev pub invariant-loop-t : goal.invariant-loop-t
invariant-loop-t l =
    (l.from ≤ l.t) × (l.t < l.end) × RowsAre (start_at l.self) l.self.sweep.minors l.t l.end (λ (t k : ℕ). extreme_of l.self l.initial.buf (k + shifts l.self t) t (l.end - 1 - t)) l.initial.buf l.buf
