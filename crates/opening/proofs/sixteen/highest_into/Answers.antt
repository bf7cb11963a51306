-- Why what Invariants.antt says lasts, and gives what the function promises.
use mathlib.Core.Path.{◌≡◌, refl, sym, ap, ap₂, ◌∙◌}
use Prim.Native.Nat.{ℕ, min, max}
use native.Mathlib.Omega.{arith}
use lib.ListN.{length as size}
use Rattle.lists.specs.Tables.{table}
use Rattle.lists.specs.Extremes.{greatest}
use Rattle.frame.specs.declared.direction.Direction.{Direction}
use Rattle.frame.specs.Direction.{numbered_of}
use Rattle.frame.specs.Length.{pixels_for}
use Rattle.frame.proofs.Paintings.{painted_as, painted_again, painted_stays}
use Rattle.gathering.specs.Claiming.{claims}
use Rattle.opening.specs.Pixels.{opened_pixel, in_direction, first_greatest}
use Rattle.opening.specs.Steps.{Ready}
use Rattle.opening.proofs.Along.{numbered-along}
use Rattle.opening.proofs.Calls.{ready-numbered, pixels-ready, ready-pixels}
use Rattle.opening.proofs.Leaders.{greatest-one, greatest-more, first_one, first_more}
use Rattle.opening.proofs.sixteen.highest_into.Goals.{After-pixels_for-pixels}
use Rattle.opening.proofs.sixteen.highest_into.Goals as goal

pub loop-n-init : goal.loop-n-init
loop-n-init c =
    let a = c.args in
    let pre = c.requires in
    let v : ℕ → ℕ → ℕ → ℕ = in_direction a.src.now a.shape a.length in (
      refl,
      painted_as _ (painted_stays c.open_rows.ensures)
          (λ x y h l. sym (greatest-one (v x y) ∙ numbered-along a.src.now a.shape pre.ok pre.source a.length pre.some x y h l)),
      painted_as _ (painted_stays c.blacken.ensures) (λ x y h l. sym (first_one (v x y))),
    )

-- the direction that is next, ready for the length
ready : (c : After-pixels_for-pixels)
    → Ready c.args.shape c.numbered-d.result c.args.length (size c.args.src.now) (min (size c.loop-n.dst) (size c.loop-n.directions))
ready c =
    let loop = c.loop-n in
    ready-numbered c.args.shape c.args.length _ _ loop.n (omega (arith, c.loop-n-test.true)) (c.numbered-d.ensures ∙ ap numbered_of c.from.ensures)
    (ap₂ min (loop.invariant.1.same ∙ c.open_rows.auto.dst) (loop.invariant.2.same ∙ c.blacken.auto.dst)) c.requires

pub claim_by-requires : goal.claim_by-requires
claim_by-requires c = ready-pixels _ _ _ _ _ c.pixels_for-pixels.ensures (ready (goal.at.claim_by-requires c).After-pixels_for-pixels)

pub loop-n-preserved : goal.loop-n-preserved
loop-n-preserved c =
    let a = c.args in
    let loop = c.loop-n in
    let n = loop.n in
    let d = c.numbered-d.result in
    let claim = c.claim_by.ensures in
    let is = c.numbered-d.ensures ∙ ap numbered_of c.from.ensures in
    let count = pixels-ready _ _ _ _ _ c.pixels_for-pixels.ensures (ready (goal.at.loop-n-preserved c).After-pixels_for-pixels) in
    let v : ℕ → ℕ → ℕ → ℕ = in_direction a.src.now a.shape a.length in
    let new : Direction → ℕ → ℕ → ℕ → ℕ = λ d k x y. opened_pixel a.src.now a.shape d k x y in (
      c.claim_by.auto.scratch ∙ loop.invariant.0,
      painted_as _ (painted_again loop.invariant.1 claim.raised)
          (λ x y h l.
          ap (λ (m : ℕ). max m (new d c.pixels_for-pixels.result x y)) (loop.invariant.1.pixels x y h l)
          ∙ ap (λ (k : ℕ). max (greatest (table (v x y) n)) (new d k x y)) count
          ∙ ap (λ (e : Direction). max (greatest (table (v x y) n)) (new e (pixels_for e a.length) x y)) is
          ∙ sym (greatest-more (v x y) n)),
      painted_as _ (painted_again loop.invariant.2 claim.holders)
          (λ x y h l.
          ap₂ (λ (m k : ℕ). claims m n (new d c.pixels_for-pixels.result x y) k) (loop.invariant.1.pixels x y h l) (loop.invariant.2.pixels x y h l)
          ∙ ap (λ (k : ℕ). claims (greatest (table (v x y) n)) n (new d k x y) (first_greatest (v x y) n)) count
          ∙ ap (λ (e : Direction). claims (greatest (table (v x y) n)) n (new e (pixels_for e a.length) x y) (first_greatest (v x y) n)) is
          ∙ sym (first_more (v x y) n c.loop-n.auto.n)),
    )

pub returns : goal.returns
returns c =
    let a = c.args in
    let loop = c.loop-n in
    let v : ℕ → ℕ → ℕ → ℕ = in_direction a.src.now a.shape a.length in
    let all : loop.n ≡ 16 = omega (arith, loop.auto.n-end, c.loop-n-test.false) in (
      painted_again c.open_rows.ensures (painted_as _ loop.invariant.1 (λ x y h l. ap (λ (n : ℕ). greatest (table (v x y) n)) all)),
      painted_again c.blacken.ensures (painted_as _ loop.invariant.2 (λ x y h l. ap (first_greatest (v x y)) all)),
    )
