-- A write that was interrupted left nothing.
use Rattle.std.specs.Io.KnownBytes.{Keeps}
use Rattle.console.proofs.write_once.Given as goal

abbrev pub invariant-loop : goal.invariant-loop
invariant-loop g l = Keeps (g.W.Write.contents l.initial.stream) (g.W.Write.contents l.stream)
