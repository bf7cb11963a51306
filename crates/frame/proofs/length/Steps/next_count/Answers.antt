-- One test says which.
use mathlib.Core.Path.{sym, ◌∙◌}
use native.Mathlib.Numerals.{add-one}
use native.Mathlib.Omega.{arith}
use Rattle.frame.proofs.Lengths.{count-some, count-within, count_stays, count_grows}
use Rattle.frame.proofs.length.Steps.next_count.Goals as goal

pub is_long-requires : goal.is_long-requires
is_long-requires c =
    let s = c.args.self in
    let L = c.args.length in
    let pre = c.requires in
    (omega arith, omega (arith, pre.0), omega (arith, pre.1, count-some s.columns s.rows L), omega (arith, pre.1, count-within s.columns s.rows L))

pub returns-then-is_long : goal.returns-then-is_long
returns-then-is_long c =
    let s = c.args.self in
    let count = c.requires.1 in
    let long = sym c.is_long.ensures ∙ c.if-is_long.true in
    count ∙ sym (count_stays s.columns s.rows c.args.length (rw (count, add-one) at long))

pub returns-else-is_long : goal.returns-else-is_long
returns-else-is_long c =
    let s = c.args.self in
    let count = c.requires.1 in
    let short = sym c.is_long.ensures ∙ c.if-is_long.false in
    omega (arith, count, count_grows s.columns s.rows c.args.length (rw (count, add-one) at short))
