-- A field that is there has two bytes at least; its pixel goes behind those so far.
use Rattle.std.proofs.Common.{ap, length, arith}
use Rattle.text.specs.Reading.{Numeral}
use Rattle.text.proofs.Readings.{field_bound}
use Rattle.text.proofs.Inputs.{field_shorter}
use Rattle.text.proofs.Goings.{going_one, going_broken, going_end, fields_next, fields_broken, fields_past}
use Rattle.text.proofs.reading.read_fields.Goals as goal

pub returns-in_err-field : goal.returns-in_err-field
returns-in_err-field c =
    let turn = c.loop-i in
    rw c.from_residual.ensures (going_broken turn.invariant.1 (fields_broken 255 c.args.width turn.i turn.rest.now c.loop-i-test.true c.in_err-field.ensures))

pub overflow_cast-pixels : goal.overflow_cast-pixels
overflow_cast-pixels c =
    let field = c.in_ok-field.ensures in
    let there = ap (λ (m : Numeral). m.found) field in
    omega (arith, field_bound 255 c.loop-i.rest.now there, ap (λ (m : Numeral). m.value) field)

pub bounds-pixels-i : goal.bounds-pixels-i
bounds-pixels-i c =
    let field = c.in_ok-field.ensures in
    let there = ap (λ (m : Numeral). m.found) field in
    omega (arith, field_shorter 255 c.loop-i.rest.now there)

pub loop-i-preserved : goal.loop-i-preserved
loop-i-preserved c =
    let turn = c.loop-i in
    let rest = turn.rest.now in
    let field = c.in_ok-field.field in
    let there = ap (λ (m : Numeral). m.found) c.in_ok-field.ensures in
    let shorter = field_shorter 255 rest there in
    let follows = ap (λ (m : Numeral). length m.rest) c.in_ok-field.ensures in
    let next = fields_next 255 c.args.width turn.i rest c.loop-i-test.true field.value field.rest.now c.in_ok-field.ensures in
    (omega (arith, shorter, follows), going_one field.value turn.invariant.1 next (omega (arith, shorter)))

pub returns : goal.returns
returns c =
    let turn = c.loop-i in
    going_end turn.rest.now turn.invariant.1 (fields_past 255 c.args.width turn.i turn.rest.now c.loop-i-test.false)
