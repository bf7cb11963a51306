-- The pixels before pixel k of the block are made.
use Prim.Native.Nat.{ℕ, ◌+◌}
use lib.ListN.{get_or}
use Rattle.lists.specs.Stores.{Filled}
use Rattle.passes.specs.Passes.{op}
use Rattle.passes.proofs.pass.made.Given as goal

abbrev pub invariant-loop-k : goal.invariant-loop-k
invariant-loop-k g l = Filled l.initial.pixel-items l.pixel-items 0 l.k (λ (k : ℕ). op l.darker (get_or l.buf (l.at + (l.i + k)) 0) (g.P.Partner.of l.partner l.buf (l.i + k)))
