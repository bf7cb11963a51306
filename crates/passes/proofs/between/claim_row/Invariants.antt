-- The pixels before pixel i are claimed, and those from it on are as they were.
use mathlib.Core.Bool.{cond}
use Prim.Native.Nat.{ℕ, max}
use lib.Dec.{ltb}
use lib.ListN.{get_or}
use Rattle.lists.specs.Stores.{Filled}
use Rattle.passes.proofs.between.claim_row.Given as goal

abbrev pub invariant-loop-i : goal.invariant-loop-i
invariant-loop-i l =
    record {
      best : Filled l.initial.best l.best 0 l.i (λ (k : ℕ). max (get_or l.initial.best k 0) (get_or l.new k 0));
      holders : Filled l.initial.holders l.holders 0 l.i (λ (k : ℕ). cond (ltb (get_or l.initial.best k 0) (get_or l.new k 0)) l.number (get_or l.initial.holders k 0));
    }
