-- The pixels before pixel i are copied, and those from it on are as they were.
use Prim.Native.Nat.{ℕ}
use lib.ListN.{get_or}
use Rattle.lists.specs.Stores.{Filled}
use Rattle.passes.proofs.fill.copy_row.Given as goal

abbrev pub invariant-loop-i : goal.invariant-loop-i
invariant-loop-i l = Filled l.initial.row l.row 0 l.i (λ (k : ℕ). get_or l.src k 0)
