-- Why what Invariants.antt says lasts, and gives what the function promises.
use native.Mathlib.Omega.{arith}
use lib.ListN.{length}
use mathlib.Core.Path.{refl}
use Rattle.rows.proofs.Rowwise.{parted-rows, rows_more, rows_end, row_room}
use Rattle.rows.proofs.clear.clear_rows.Goals as goal

pub loop-i-preserved : goal.loop-i-preserved
loop-i-preserved c =
    let args = c.args in
    let pre = c.requires in
    let at = c.loop-i in
    let room = row_room args.stride args.n args.to (length args.buf.now) at.i (omega arith) pre.2 in
    let done = at.invariant in
    rows_more (parted-rows args.stride args.n args.to pre.0) done
    (c.blacken.ensures.done (omega (arith, done.same))) (λ k h. refl) (omega arith) (omega arith)

pub returns : goal.returns
returns c = rows_end c.loop-i.invariant (omega arith)
