-- The first y rows are 0.
use Prim.Native.Nat.{ℕ}
use Rattle.frame.specs.Shape.{shape}
use Rattle.frame.specs.Painted.{Painted}
use Rattle.opening.proofs.rowwise.blacken.Given as goal

abbrev pub invariant-loop-y : goal.invariant-loop-y
invariant-loop-y l = Painted (shape l.frame.width l.y l.frame.stride) (λ (x n : ℕ). 0) l.initial.dst l.dst
