-- A done answer says that all fits.
use mathlib.Core.Path.{refl}
use lib.ListN.{length as size}
use Rattle.opening.specs.Steps.{Ready}
use Rattle.opening.proofs.Calls.{open_ready, pixels-ready, ready-pixels}
use Rattle.opening.proofs.frames.open_frame.Goals.{After-pixels_for}
use Rattle.opening.proofs.frames.open_frame.Goals as goal

-- what a done answer says
ready : (c : After-pixels_for) → (let a = c.args in Ready a.shape a.d a.length (size a.src.now) (size a.dst.now))
ready c =
    let a = c.args in
    open_ready a.shape a.length (size a.src.now) (size a.dst.now) a.d (size a.scratch.now) c.in_ok-tested.ensures refl

pub opened_into-requires : goal.opened_into-requires
opened_into-requires c =
    let fits = ready-pixels _ _ _ _ _ c.pixels_for.ensures (ready (goal.at.opened_into-requires c).After-pixels_for) in
    (fits.ok.frame, fits.ok, fits.some, fits.source, fits.target)

pub returns : goal.returns
returns c =
    let count = pixels-ready _ _ _ _ _ c.pixels_for.ensures (ready (goal.at.returns c).After-pixels_for) in
    record {
      answers = c.in_ok-tested.ensures;
      done = λ z. rw count at c.opened_into.ensures;
      refused = λ z. absurd (z refl);
      scratch_length = refl;
    }
