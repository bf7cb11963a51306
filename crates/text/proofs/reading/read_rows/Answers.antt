-- A row that is there has two bytes a pixel at least; its pixels go behind those so far.
use Rattle.std.proofs.Common.{rules, ap, length, arith}
use Rattle.text.specs.Reading.{Values, line_of}
use Rattle.text.proofs.Inputs.{line_shorter}
use Rattle.text.proofs.Goings.{going_part, going_broken, going_end, line-many, row_next, row-broken, rows-past, rows_more}
use Rattle.text.proofs.reading.read_rows.Goals as goal

pub returns-in_err-rest : goal.returns-in_err-rest
returns-in_err-rest c =
    let turn = c.loop-row in
    rw c.from_residual.ensures (going_broken turn.invariant.1 (row-broken c.args.height turn.row c.args.width turn.rest.now c.loop-row-test.true c.in_err-rest.ensures))

pub loop-row-preserved : goal.loop-row-preserved
loop-row-preserved c =
    let turn = c.loop-row in
    let width = c.args.width in
    let rest = turn.rest.now in
    let row = c.in_ok-rest.ensures.0 in
    let xs = (line_of 82 255 width rest).values in
    let there = ap (λ (m : Values). m.found) row in
    let many = line-many 82 255 width rest there in
    let shorter = line_shorter 82 255 width rest there in
    let follows = ap (λ (m : Values). length m.rest) row in
    let next = row_next c.args.height turn.row width rest c.loop-row-test.true xs c.in_ok-rest.rest.now row in
    (omega (arith, many, shorter, follows), going_part xs turn.invariant.1 next c.in_ok-rest.ensures.1 (omega (arith, many)))

pub returns-then-is_empty : goal.returns-then-is_empty
returns-then-is_empty c =
    let turn = c.loop-row in
    let rest = turn.rest.now in
    let past = rows-past c.args.height turn.row c.args.width rest c.loop-row-test.false (search rules) in
    let end = going_end rest turn.invariant.1 past in
    (ap (λ (m : Values). m.found) end.0, end.1)

pub returns-else-is_empty : goal.returns-else-is_empty
returns-else-is_empty c =
    let turn = c.loop-row in
    going_broken turn.invariant.1 (rows_more c.args.height turn.row c.args.width turn.rest.now c.loop-row-test.false (search rules))
