-- The pixels before pixel i are done, and those from it on are as they were.
use mathlib.Core.Bool.{cond}
use Prim.Native.Nat.{ℕ}
use lib.Dec.{eqb}
use lib.ListN.{get_or}
use Rattle.lists.specs.Stores.{Filled}
use Rattle.passes.proofs.fill.blacken_marked.Given as goal

abbrev pub invariant-loop-i : goal.invariant-loop-i
invariant-loop-i l = Filled l.initial.row l.row 0 l.i (λ (k : ℕ). cond (eqb (get_or l.marks k 0) 0) (get_or l.initial.row k 0) 0)
