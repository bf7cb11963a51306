-- No window fits, or the erosion and then the dilation of that.
use Rattle.frame.specs.Sweep.{shift}
use Rattle.rows.specs.Rows.{byte_of}
use Rattle.rows.proofs.Lines.{opened-none}
use Rattle.rows.proofs.Growths.{grown-start, grown-turn, grown-opened}
use Rattle.rows.proofs.Slants.{cleared_lines}
use Rattle.rows.proofs.shallow.open_along.Goals as goal

pub returns-then-s-length : goal.returns-then-s-length
returns-then-s-length c =
    let args = c.args in
    let s = args.s in
    opened-none (shift s) (byte_of s) s.minors s.majors _ args.length c.if-s-length.true
    (cleared_lines s c.requires.0.next c.clear_rows.ensures)

pub returns : goal.returns
returns c =
    let s = c.args.s in
    let L = c.args.length in
    let buf = c.args.buf.now in
    let eroded = c.grow_along.ensures.0.lines buf buf (grown-start s buf L) in
    grown-opened s buf L c.requires.1 (c.grow_along-2.ensures.0.lines buf buf (grown-turn s buf L eroded))
