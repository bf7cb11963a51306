-- What follows the first two lines is no longer than the text.
use Rattle.std.proofs.Common.{ap, length, arith}
use borrow.Author.Tests.{ltb-false}
use Rattle.text.specs.Inputs.{longest_input}
use Rattle.text.specs.Reading.{Values}
use Rattle.text.proofs.Frames.{head_shorter}
use Rattle.text.proofs.input.tested.Goals as goal

pub read_rows-requires : goal.read_rows-requires
read_rows-requires c =
    let text = c.args.text.now in
    let head = rw c.in_ok-input.ensures.ok_part at c.read_head.ensures in
    let there = ap (λ (m : Values). m.found) head in
    omega (arith, head_shorter text there, ap (λ (m : Values). length m.rest) head, ltb-false longest_input (length text) c.in_ok-when.ensures, c.requires)
