-- The line has a pixel there, and every pixel of the frame is before the end of what holds the last.
use Prim.Native.Nat.{◌+◌}
use native.Mathlib.Omega.{arith}
use Rattle.frame.proofs.Walks.{cell_reach}
use Rattle.gathering.proofs.walk.Walk.byte.Goals as goal

pub returns-clause-within : goal.returns-clause-within
returns-clause-within c n reach =
    let w = c.args.self in
    let i = w.track.from + c.args.i in
    rw c.byte_of.ensures
    (cell_reach w.sweep w.track.index i n (omega (arith, c.requires, w.spans.fits)) (w.spans.inside i (omega arith) (omega (arith, c.requires))) reach)
