-- Each turn leaves a byte less to read.
use lib.ListN.{length}
use Rattle.vectors.proofs.input.Reader.number.Given as goal

abbrev pub decreases-loop-self : goal.decreases-loop-self
decreases-loop-self l = length l.self.rest.now
