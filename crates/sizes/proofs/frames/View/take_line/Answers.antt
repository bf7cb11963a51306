-- The frame has the line, and an array of 4,096 bytes has room for it.
use mathlib.Core.Path.{◌≡◌, refl, ap, ◌∙◌}
use native.Mathlib.Omega.{arith}
use lib.IntN.{ℤ}
use lib.ListN.{length}
use lib.Seq.{take_at}
use mir.Syntax.{w64}
use mir.Val.{to_z, of_z}
use Rattle.std.specs.Prelude.{Ok}
use Rattle.frame.proofs.Firsts.{number-back}
use Rattle.lists.specs.Stores.{front}
use Rattle.sizes.specs.Sums.{line_at}
use Rattle.sizes.proofs.Gathered.{gathered-line, line-room}
use Rattle.sizes.proofs.frames.View.take_line.Goals.{After-gather}
use Rattle.sizes.proofs.frames.View.take_line.Goals as goal

gathered : (c : After-gather) → (let v = c.args.self.now in let line = line_at v.src.now v.shape v.d c.args.u in
    (c.gather.result ≡ Ok (length line)) × (c.gather.new.dst ≡ front line c.args.pixels.now))
gathered c =
    let view = c.args.self.now in
    let u = c.args.u in
    let pre = c.requires in
    let number = ap (λ (z : ℤ). to_z w64 (of_z w64 z)) c.line_number-line.ensures ∙ number-back view.shape view.d view.whole.ok u pre.0 in
    gathered-line view.src.now view.shape view.d view.whole u pre.0 c.args.pixels.now _ pre.1 _ _ number c.gather.ensures

pub unwrap-requires : goal.unwrap-requires
unwrap-requires c = rw (gathered (goal.at.unwrap-requires c).After-gather).0

pub returns : goal.returns
returns c =
    let v = c.args.self.now in
    let line = line_at v.src.now v.shape v.d c.args.u in
    let taken = gathered (goal.at.returns c).After-gather in
    let count : c.unwrap.result ≡ length line = cc in
    (omega (arith, line-room v.src.now v.shape v.d v.whole.ok c.args.u), rw (count, taken.1) (take_at line _ (length line) refl))
