-- The line, where it has room.
use Rattle.std.proofs.Common.{◌≤◌, ◌<◌, [], ◌∷◌, length, arith}
use borrow.Author.Tests.{lt-leb, le-leb}
use Rattle.text.specs.Stretches.{refusal_text}
use Rattle.text.proofs.Runs.{line_most}
use Rattle.text.proofs.Reports.{prints_done, prints_none}
use Rattle.text.proofs.stretches.refusal_text.Goals as goal

pub put_line-requires : goal.put_line-requires
put_line-requires c = omega (arith, line_most 69 (c.args.number ∷ []))

pub returns-then-dst-put_line : goal.returns-then-dst-put_line
returns-then-dst-put_line c =
    let text = refusal_text c.args.number in
    let dst = c.args.dst.now in
    let short : length dst < length text = omega (arith, c.put_line.ensures.next) in
    record { text = prints_none text dst (lt-leb (length text) (length dst) short) }

pub returns : goal.returns
returns c =
    let text = refusal_text c.args.number in
    let dst = c.args.dst.now in
    let fit : length text ≤ length dst = omega (arith, c.put_line.ensures.next) in
    record { text = prints_done (le-leb (length text) (length dst) fit) c.put_line-2.ensures fit }
