-- Along, the row that is lent on is the line.
use mathlib.Core.Path.{◌≡◌, sym, ◌∙◌}
use Prim.Native.Nat.{◌<◌}
use native.Mathlib.Omega.{arith}
use Rattle.frame.proofs.Alongs.{along-count}
use Rattle.gathering.proofs.LentRows.{along-row}
use Rattle.sizes.proofs.Gathered.{flat}
use Rattle.sizes.proofs.frames.View.add_line_of.Goals.{After-row}
use Rattle.sizes.specs.Sums.{line_at}
use Rattle.sizes.proofs.frames.View.add_line_of.Goals as goal

row-is : (c : After-row) → (let v = c.args.self.now in c.row.result.now ≡ line_at v.src.now v.shape v.d c.args.u)
row-is c =
    let view = c.args.self.now in
    let ok = view.whole.ok in
    let level = flat view.d ok.direction c.if-self-eq0.true in
    let there : c.args.u < view.shape.height = omega (arith, along-count view.shape view.d ok level, c.requires.0) in
    c.row.ensures.contents ∙ sym (along-row view.shape view.d ok level view.src.now view.whole.source c.args.u there)

pub returns-then-self-eq0 : goal.returns-then-self-eq0
returns-then-self-eq0 c = rw (row-is (goal.at.returns-then-self-eq0 c).After-row) at c.add_line.ensures
