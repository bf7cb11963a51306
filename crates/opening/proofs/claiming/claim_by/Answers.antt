-- By the frame that is opened in scratch.
use mathlib.Core.Path.{ap}
use Prim.Native.Nat.{ℕ, max}
use lib.ListN.{get_or}
use Rattle.frame.specs.Lines.{at, place}
use Rattle.frame.proofs.Paintings.{painted_as}
use Rattle.gathering.specs.Claiming.{claims}
use Rattle.opening.proofs.claiming.claim_by.Goals as goal

pub returns-else-scratch-shape : goal.returns-else-scratch-shape
returns-else-scratch-shape c =
    let a = c.args in
    let best : ℕ → ℕ → ℕ = λ x y. get_or a.dst.now (place a.shape (at x y)) 0 in
    let opened = c.opened_into.ensures in
    let claimed = c.claim_rows.ensures in
    record {
      raised = painted_as _ claimed.raised (λ x y h l. ap (max (best x y)) (opened.pixels x y h l));
      holders =
          painted_as _ claimed.holders
          (λ x y h l. ap (λ (v : ℕ). claims (best x y) a.number v (get_or a.directions.now (place a.shape (at x y)) 0)) (opened.pixels x y h l));
    }
