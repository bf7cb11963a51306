-- A table of an entry a pixel has room for every stretch.
use native.Mathlib.Omega.{arith}
use Rattle.bright.proofs.Counting.{stretches-few}
use Rattle.stretch.proofs.listing.tested.Goals as goal

pub returns-else-room-n : goal.returns-else-room-n
returns-else-room-n c =
    let few = stretches-few c.args.line.now in
    grind (arith, few)
