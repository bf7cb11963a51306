-- The pixels are few enough and have room, and go to the front.
use Rattle.std.proofs.Common.{◌*◌, sym, ◌∙◌, length, arith}
use Rattle.std.proofs.lemmas.List.{length-take-le}
use Rattle.std.proofs.lemmas.Result.{err_from_is_err_and}
use Rattle.std.specs.Prelude.{Err}
use Rattle.answer.proofs.Rules.{after-refused}
use Rattle.answer.proofs.Refusals.{refused_number}
use Rattle.text.specs.Inputs.{width_in, height_in, outcome}
use Rattle.text.proofs.Frames.{input_short, input_room, input_copied, input_refused, input_done}
use Rattle.text.proofs.input.read_input.Goals as goal

pub slice_bounds-values-end : goal.slice_bounds-values-end
slice_bounds-values-end c =
    let read = c.in_ok-input.ensures in
    rw (read.reads.1, read.reads.2) (omega (arith, input_short c.args.text.now (length c.args.pixels.now) read.answers, c.tested.auto.values))

pub slice_bounds-copy_from_slice-end-3 : goal.slice_bounds-copy_from_slice-end-3
slice_bounds-copy_from_slice-end-3 c =
    let text = c.args.text.now in
    let read = c.in_ok-input.ensures in
    let short = input_short text (length c.args.pixels.now) read.answers in
    rw (read.reads.1, read.reads.2) (sym (length-take-le (width_in text * height_in text) c.tested.new.values (omega (arith, short, c.tested.auto.values))))

pub copy_from_slice-requires : goal.copy_from_slice-requires
copy_from_slice-requires c =
    let text = c.args.text.now in
    let dst = c.args.pixels.now in
    let read = c.in_ok-input.ensures in
    let n = width_in text * height_in text in
    let short = input_short text (length dst) read.answers in
    rw (read.reads.1, read.reads.2) (length-take-le n dst (input_room text (length dst) read.answers) ∙ sym (length-take-le n c.tested.new.values (omega (arith, short, c.tested.auto.values))))

pub returns : goal.returns
returns c =
    let text = c.args.text.now in
    let dst = c.args.pixels.now in
    let read = c.in_ok-input.ensures in
    record {
      reads = input_done text (length dst) c.in_ok-input.input read.answers read.reads.0 read.reads.1 read.reads.2;
      written = rw (c.copy_from_slice.ensures.after, read.reads.1, read.reads.2) (input_copied text (length dst) read.answers _ c.tested.new.values dst read.reads.3);
    }

pub returns-in_err-input : goal.returns-in_err-input
returns-in_err-input c =
    let text = c.args.text.now in
    let dst = c.args.pixels.now in
    let refused = c.in_err-input.ensures in
    let p = err_from_is_err_and c.from_residual.result c.from_residual.ensures.1 in
    rw (p.1, p.2) (record {
      reads = input_refused text (length dst) c.in_err-input.field-0.0 refused.answers;
      written = sym (after-refused (outcome (Err c.in_err-input.field-0.0)).answer _ dst (refused_number c.in_err-input.field-0.0));
    })
