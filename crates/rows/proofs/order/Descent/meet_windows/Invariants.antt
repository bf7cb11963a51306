-- The rows before `from` are done; those behind are as they were.
use Prim.Native.Nat.{◌-◌, min}
use Rattle.rows.specs.Down.{WindowsMet}
use Rattle.rows.proofs.order.Descent.meet_windows.Given as goal

abbrev pub invariant-loop-from : goal.invariant-loop-from
invariant-loop-from l =
    WindowsMet l.self l.size 0 (min l.from l.self.sweep.majors) l.initial.buf l.buf

abbrev pub decreases-loop-from : goal.decreases-loop-from
decreases-loop-from l = l.self.sweep.majors - l.from
