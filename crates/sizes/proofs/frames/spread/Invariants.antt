-- The entries from i on are those of the lengths; those before it still are by pixels.
use mathlib.Core.Path.{◌≡◌}
use lib.ListN.{length, get_or}
use Rattle.lists.specs.Stores.{Filled}
use Rattle.sizes.specs.Steps.{spread_to}
use Rattle.sizes.proofs.frames.spread.Given as goal

abbrev pub invariant-loop-i : goal.invariant-loop-i
invariant-loop-i l =
    (l.taken ≡ get_or l.counts l.i 0)
    × Filled l.initial.sums l.sums l.i (length l.initial.sums) (spread_to l.counts l.initial.sums)
