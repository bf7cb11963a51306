-- The pixels before pixel i have met their partners, and those from it on are as they were.
use Prim.Native.Nat.{ℕ}
use lib.ListN.{get_or}
use Rattle.lists.specs.Stores.{Filled}
use Rattle.passes.specs.Passes.{op}
use Rattle.passes.proofs.between.meet_row.Given as goal

abbrev pub invariant-loop-i : goal.invariant-loop-i
invariant-loop-i l = Filled l.initial.row l.row 0 l.i (λ (k : ℕ). op l.darker (get_or l.initial.row k 0) (get_or l.partners k 0))
