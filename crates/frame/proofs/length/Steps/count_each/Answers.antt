-- The table begins and ends with what Invariants.antt says, and no count is longer than its length.
use mathlib.Core.Path.{refl, sym}
use Prim.Native.Nat.{suc}
use native.Mathlib.Omega.{arith}
use Rattle.lists.proofs.Stores.{filled_none, filled_end, filled-whole}
use Rattle.frame.proofs.Lengths.{count_none, count-within}
use Rattle.frame.proofs.length.Steps.count_each.Goals as goal

pub loop-i-init : goal.loop-i-init
loop-i-init c =
    let s = c.args.self in
    (sym (count_none s.columns s.rows), filled_none _ _ _)

pub overflow_cast-entry : goal.overflow_cast-entry
overflow_cast-entry c =
    let s = c.args.self in
    omega (arith, c.next_count-count.ensures, count-within s.columns s.rows (suc c.loop-i.i), c.requires, c.loop-i.invariant.1.same)

pub returns : goal.returns
returns c = filled-whole (filled_end c.loop-i.invariant.1 (omega arith)) refl
