-- The literal 0.0 is 0 as a float.
use lib.Ieee.{of_bits, of_int}
use Rattle.sizes.proofs.summary.refused.Goals as goal

pub returns : goal.returns
unfolding of_bits of_int
returns c = rw c.number.ensures
