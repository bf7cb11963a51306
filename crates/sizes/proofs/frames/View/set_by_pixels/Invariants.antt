-- The lines below u are added up in the slice.
use lib.ListN.{length}
use Rattle.sizes.proofs.Gathered.{Summing}
use Rattle.sizes.proofs.frames.View.set_by_pixels.Given as goal

abbrev pub invariant-loop-u : goal.invariant-loop-u
invariant-loop-u l = Summing l.self.src.now l.self.shape l.self.d (length l.initial.sums) l.u l.sums
