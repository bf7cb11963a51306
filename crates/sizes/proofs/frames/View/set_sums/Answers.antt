-- Where a length counts pixels, bins and rest by pixels are those by length. Elsewhere the entries that can have no light are cleared.
use mathlib.Core.Path.{sym, ◌∙◌}
use Prim.Native.Nat.{◌-◌}
use lib.ListN.{length}
use Rattle.sizes.specs.Sums.{pixel_sum}
use Rattle.sizes.proofs.Spreads.{sums-straight}
use Rattle.sizes.proofs.Gathered.{frame_cleared}
use Rattle.sizes.proofs.frames.View.set_sums.Goals as goal

pub returns-then-is_straight : goal.returns-then-is_straight
returns-then-is_straight c =
    let v = c.args.self.now in
    let straight = sym c.is_straight.ensures ∙ c.if-is_straight.true in
    c.set_by_pixels.ensures ∙ sums-straight v.d v.whole.ok.direction straight (pixel_sum v.src.now v.shape v.d) (length c.args.sums.now - 1)

pub returns : goal.returns
returns c =
    let v = c.args.self.now in
    let cleared = c.fill.ensures.after (λ y e. e) in
    frame_cleared v.src.now v.shape v.d v.whole.ok c.args.sums.now _ c.requires.1 c.entries_with_light-n.ensures _ _ c.set_slanted.ensures cleared
