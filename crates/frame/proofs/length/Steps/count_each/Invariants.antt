-- The counts of the lengths to i stand at the front.
use mathlib.Core.Path.{◌≡◌}
use Prim.Native.Nat.{ℕ, suc}
use Rattle.lists.specs.Stores.{Filled}
use Rattle.frame.specs.Length.{count_for}
use Rattle.frame.proofs.length.Steps.count_each.Given as goal

abbrev pub invariant-loop-i : goal.invariant-loop-i
invariant-loop-i l =
    (l.count ≡ count_for l.self.columns l.self.rows l.i) × Filled l.initial.counts l.counts 0 l.i (λ (k : ℕ). count_for l.self.columns l.self.rows (suc k))
