-- The first y rows are painted.
use Prim.Native.Nat.{ℕ}
use lib.ListN.{get_or}
use Rattle.line.specs.Windows.{opened}
use Rattle.frame.specs.Shape.{shape}
use Rattle.gathering.specs.Rows.{row_of}
use Rattle.frame.specs.Painted.{Painted}
use Rattle.opening.proofs.rowwise.open_rows.Given as goal

abbrev pub invariant-loop-y : goal.invariant-loop-y
invariant-loop-y l =
    Painted (shape l.frame.width l.y l.stride) (λ (x n : ℕ). get_or (opened (row_of l.src l.frame n) l.length) x 0) l.initial.dst l.dst
