-- Bins and rest by pixels stand at the front when they are spread.
use mathlib.Core.Path.{◌≡◌, sym, ◌∙◌}
use mathlib.Core.List.{List}
use Prim.Native.Nat.{ℕ, ◌≤◌}
use native.Mathlib.Omega.{arith}
use lib.ListN.{length, length-append, length-take, length-drop}
use lib.Seq.{length-take-le}
use Rattle.frame.specs.Length.{counts_to}
use Rattle.sizes.specs.Sums.{pixel_sum}
use Rattle.sizes.specs.Steps.{Measured}
use Rattle.sizes.proofs.Spreads.{counts-measured, counts-fit, counts-part, spread_front}
use Rattle.sizes.proofs.frames.View.set_slanted.Goals.{After-from-most}
use Rattle.sizes.proofs.frames.View.set_slanted.Goals as goal

counted : (c : After-from-most) → c.count_lengths.new.counts ≡ counts_to c.args.self.now.d (length c.args.sums.now)
counted c =
    let view = c.args.self.now in
    counts-part view.d _ _ _ view.whole.ok.direction c.requires.1 c.requires.2 c.requires.2 c.count_lengths.ensures

fit : (c : After-from-most) → (1 ≤ c.from-most.result) × (c.from-most.result ≤ length c.args.sums.now)
fit c = counts-fit c.args.self.now.d c.args.sums.now c.count_lengths.new.counts _ (counted c) c.requires.1 c.from-most.ensures

pub slice_bounds-set_by_pixels-end : goal.slice_bounds-set_by_pixels-end
slice_bounds-set_by_pixels-end c = (fit (goal.at.slice_bounds-set_by_pixels-end c).After-from-most).1

pub slice_bounds-set_by_pixels-end-2 : goal.slice_bounds-set_by_pixels-end-2
slice_bounds-set_by_pixels-end-2 c = sym (length-take-le _ _ (fit (goal.at.slice_bounds-set_by_pixels-end-2 c).After-from-most).1)

pub set_by_pixels-requires : goal.set_by_pixels-requires
set_by_pixels-requires c =
    let some = fit (goal.at.set_by_pixels-requires c).After-from-most in
    (c.requires.0, simp length-take (omega arith))

measured-as : {c : List ℕ} {n : ℕ} (m : ℕ) → Measured c n → m ≡ n → Measured c m
measured-as m measured e = rw e measured

pub spread-requires : goal.spread-requires
spread-requires c =
    let f = (goal.at.spread-requires c).After-from-most in
    let some = fit f in
    let measured = counts-measured c.args.self.now.d _ c.count_lengths.new.counts (counted f) in
    measured-as _ measured (simp (length-append, length-drop) (omega (arith, simp length-take at c.set_by_pixels.auto.sums)))

pub returns : goal.returns
returns c =
    let view = c.args.self.now in
    let is = counted (goal.at.returns c).After-from-most in
    c.spread.ensures
    ∙ spread_front view.d c.args.sums.now c.count_lengths.new.counts _ is c.requires.1 c.from-most.ensures (pixel_sum view.src.now view.shape view.d) _ c.set_by_pixels.ensures
