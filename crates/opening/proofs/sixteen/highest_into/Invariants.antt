-- At each pixel stands the greatest over the first n directions, and beside it the first of them that reaches it.
use mathlib.Core.Path.{◌≡◌}
use Prim.Native.Nat.{ℕ}
use lib.ListN.{length as size}
use Rattle.lists.specs.Tables.{table}
use Rattle.lists.specs.Extremes.{greatest}
use Rattle.frame.specs.Painted.{Painted}
use Rattle.opening.specs.Pixels.{in_direction, first_greatest}
use Rattle.opening.proofs.sixteen.highest_into.Given as goal

abbrev pub invariant-loop-n : goal.invariant-loop-n
invariant-loop-n l =
    (size l.scratch ≡ size l.initial.scratch)
    × Painted l.shape (λ (x y : ℕ). greatest (table (in_direction l.src l.shape l.length x y) l.n)) l.initial.dst l.dst
    × Painted l.shape (λ (x y : ℕ). first_greatest (in_direction l.src l.shape l.length x y) l.n) l.initial.directions l.directions
