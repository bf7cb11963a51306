-- The pixels before pixel k of the block are stored.
use Prim.Native.Nat.{ℕ, ◌+◌, ◌-◌}
use lib.ListN.{get_or}
use Rattle.lists.specs.Stores.{Filled}
use Rattle.passes.proofs.pass.store.Given as goal

abbrev pub invariant-loop-k : goal.invariant-loop-k
invariant-loop-k l = Filled l.initial.buf l.buf l.at (l.at + l.k) (λ (x : ℕ). get_or l.block (x - l.at) 0)
