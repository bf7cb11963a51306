-- The loop: the total is that of the entries passed, and at most 2^53.
use mathlib.Core.Path.{◌≡◌}
use Prim.Native.Nat.{ℕ, ◌≤◌}
use lib.ListN.{take}
use Rattle.sizes.specs.Summary.{exactest}
use Rattle.sizes.specs.Steps.{weighed}
use Rattle.sizes.proofs.summary.total_by.Given as goal

abbrev pub invariant-loop-i : goal.invariant-loop-i
invariant-loop-i g l =
    (l.total ≤ exactest)
    × ((w : ℕ → ℕ) → ((i r : ℕ) → goal.W-post g l.weight i r → r ≡ w i) → l.total ≡ weighed w (take l.i l.sums))
