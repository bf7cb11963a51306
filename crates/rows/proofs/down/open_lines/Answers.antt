-- No window fits, or the erosion and then the dilation of that.
use Rattle.rows.proofs.Opened.{windows_opened, windows_short}
use Rattle.rows.proofs.down.open_lines.Goals as goal

pub returns-then-s-length : goal.returns-then-s-length
returns-then-s-length c =
    let a = c.args in
    let pre = c.requires in
    windows_short a.s a.length pre.1 pre.0 c.clear_rows.ensures c.if-s-length.true

pub returns : goal.returns
returns c =
    let a = c.args in
    let pre = c.requires in
    let eroded = c.meet_windows.ensures in
    let cleared = c.clear_rows-2.ensures in
    let dilated = c.meet_windows-2.ensures in
    windows_opened a.s a.length pre.1 pre.0 eroded cleared dilated
    c.if-s-length.false
