-- Why what Invariants.antt says lasts, and gives what the function promises.
use Rattle.std.proofs.Common.{[], ◌∷◌, get_or, arith}
use Rattle.text.specs.Decimal.{decimal}
use Rattle.text.specs.Lines.{tab, feed}
use Rattle.text.proofs.Runs.{left-more, left_end, left-room, puts_join, fields_cons, fields_end}
use Rattle.text.proofs.lines.put_line.Goals as goal

pub put_field-next-requires : goal.put_field-next-requires
put_field-next-requires c =
    let turn = c.loop-field in
    let fields = c.args.fields.now in
    let room = left-room (tab ∷ decimal (get_or fields turn.field-index 0)) _ (rw (fields_cons fields turn.field-index (feed ∷ []) c.loop-field-test.true) at turn.invariant) in
    omega (arith, room)

pub loop-field-preserved : goal.loop-field-preserved
loop-field-preserved c =
    let turn = c.loop-field in
    left-more (rw (fields_cons c.args.fields.now turn.field-index (feed ∷ []) c.loop-field-test.true) at turn.invariant) c.put_field-next.ensures

pub put_byte-requires : goal.put_byte-requires
put_byte-requires c =
    let turn = c.loop-field in
    let left = rw (fields_end c.args.fields.now turn.field-index (feed ∷ []) (omega arith)) at turn.invariant in
    omega (arith, left.next)

pub returns : goal.returns
returns c =
    let turn = c.loop-field in
    let left = rw (fields_end c.args.fields.now turn.field-index (feed ∷ []) (omega arith)) at turn.invariant in
    puts_join c.put_byte-next.ensures (left_end left c.put_byte.ensures)
