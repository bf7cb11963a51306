-- What no rule refuses can be seen in its direction.
use mathlib.Core.Path.{refl}
use lib.ListN.{length}
use Rattle.sizes.proofs.Calls.{frame-viewed}
use Rattle.sizes.proofs.frames.sums_of_frame.Goals as goal

pub invariant_of-view : goal.invariant_of-view
invariant_of-view c =
    let a = c.args in
    record {
      whole = frame-viewed a.shape a.d (length a.sums.now) (length a.src.now) (length a.scratch.now) c.in_ok-tested.ensures refl;
      bytes = λ i. (c.type_inv.src i).fits;
    }
