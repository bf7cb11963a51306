-- What is added is the line.
use mathlib.Core.Path.{ap}
use native.Mathlib.Omega.{arith}
use lib.ListN.{length}
use Rattle.sizes.proofs.Gathered.{line-room}
use Rattle.sizes.proofs.frames.View.add_gathered.Goals as goal

pub add_line-requires : goal.add_line-requires
add_line-requires c =
    let view = c.args.self.now in
    let pre = c.requires in
    let part = ap length c.take_line-n.ensures.1 in
    let room = line-room view.src.now view.shape view.d view.whole.ok c.args.u in
    (omega arith, omega arith, pre.2, pre.3)
