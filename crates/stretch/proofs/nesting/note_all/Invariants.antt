-- The stretches found so far are noted as the list has them, the others are to come.
use mathlib.Core.Path.{◌≡◌}
use Prim.Native.Nat.{ℕ, ◌-◌}
use lib.ListN.{length}
use Rattle.lists.specs.Stores.{Filled}
use Rattle.bright.specs.Stretches.{stretches}
use Rattle.bright.specs.Generator.{run8}
use Rattle.bright.specs.Nesting.{stretch_at}
use Rattle.bright.specs.Steps.{outer_of}
use Rattle.bright.proofs.Links.{Finding}
use Rattle.stretch.proofs.nesting.note_all.Given as goal

abbrev pub invariant-loop-nested : goal.invariant-loop-nested
invariant-loop-nested l =
    record {
      finding : Finding run8 l.line l.scratch l.at l.count;
      starting : Filled l.fn.starts l.starts 0 l.count (λ (i : ℕ). (stretch_at (stretches l.line) i).start);
      outer : Filled l.fn.outers l.outers 0 l.count (outer_of (stretches l.line));
      kept : length l.scratch ≡ length l.fn.scratch;
    }

abbrev pub decreases-loop-nested : goal.decreases-loop-nested
decreases-loop-nested l = length (stretches l.line) - l.count
