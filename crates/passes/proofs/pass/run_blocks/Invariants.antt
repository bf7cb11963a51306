-- Block by block: what is still to be read is as it was.
use Prim.Native.Nat.{◌+◌}
use Rattle.lists.specs.Stores.{Filled}
use Rattle.passes.specs.Passes.{op, met, treated_from, treated_to}
use Rattle.passes.proofs.pass.run_blocks.Given as goal

abbrev pub invariant-loop-k : goal.invariant-loop-k
invariant-loop-k g l = Filled l.initial.buf l.buf (l.at + treated_from l.n l.k l.up) (l.at + treated_to l.n l.k l.up) (met (op l.darker) (g.P.Partner.of l.partner) l.at l.initial.buf)
