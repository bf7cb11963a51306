-- The enclosers are found, and the bytes counted; where they have room, the `L` line, and the `Z` lines behind it.
use Prim.Native.Nat.{◌≤◌, ◌<◌}
use native.Mathlib.Omega.{arith}
use lib.ListN.{length}
use mir.Facts.{to_z-of_z}
use Rattle.text.specs.Stretches.{line_report}
use Rattle.text.proofs.Reports.{title_most, stretches-most, report_length, report_put, prints_done, prints_none, printable, no_room}
use Rattle.text.proofs.Printings.{places-there}
use borrow.Author.Rules.{rules}
use Rattle.text.proofs.stretches.line_text.Goals as goal

pub put_title-title-requires : goal.put_title-title-requires
put_title-title-requires c = rw (to_z-of_z c.ranges.z) (omega (arith, title_most c.args.z (length c.args.line.now)))

pub put_stretches-bytes-requires : goal.put_stretches-bytes-requires
put_stretches-bytes-requires c =
    let short = c.if-line-gt-LONGEST.false in
    let line = c.args.line.now in
    let title = rw (to_z-of_z c.ranges.z) at c.put_title-title.ensures in
    (short, search rules, places-there c.enclosers.ensures short (search rules) (search rules), omega (arith, title.next, title_most c.args.z (length line), stretches-most line))

pub returns-then-short : goal.returns-then-short
returns-then-short c =
    let z = c.args.z in
    let line = c.args.line.now in
    let dst = c.args.dst.now in
    let title = rw (to_z-of_z c.ranges.z) at c.put_title-title.ensures in
    let small : length dst < length (line_report z line) = omega (arith, title.next, c.put_stretches-bytes.ensures.next, report_length z line, c.if-short.true) in
    record { text = prints_none (line_report z line) dst (no_room z line (length dst) small) }

pub put_title-end-requires : goal.put_title-end-requires
put_title-end-requires c =
    let title = rw (to_z-of_z c.ranges.z) at c.put_title-title.ensures in
    rw (to_z-of_z c.ranges.z) (omega (arith, title.next, title_most c.args.z (length c.args.line.now)))

pub put_stretches-requires : goal.put_stretches-requires
put_stretches-requires c =
    let short = c.if-line-gt-LONGEST.false in
    let line = c.args.line.now in
    let bits = to_z-of_z c.ranges.z in
    let title = rw bits at c.put_title-title.ensures in
    let put = rw bits at c.put_title-end.ensures in (
      short,
      search rules,
      places-there c.enclosers.ensures short (search rules) (search rules),
      omega (arith, title.next, put.next, title_most c.args.z (length line), stretches-most line),
    )

pub returns : goal.returns
returns c =
    let z = c.args.z in
    let line = c.args.line.now in
    let dst = c.args.dst.now in
    let bits = to_z-of_z c.ranges.z in
    let title = rw bits at c.put_title-title.ensures in
    let put = rw bits at c.put_title-end.ensures in
    let fit : length (line_report z line) ≤ length dst = omega (arith, title.next, c.put_stretches-bytes.ensures.next, report_length z line, c.if-short.false) in
    let short = c.if-line-gt-LONGEST.false in
    record { text = prints_done (printable z line (length dst) short fit) (report_put z line put c.put_stretches.ensures) fit }
