-- The pixels of the first rows stand in the buffer, those of the others are still to come, and the text behind them has room.
use Rattle.std.proofs.Common.{◌+◌, ◌-◌, ◌*◌, ◌≤◌, length}
use Rattle.text.specs.Reading.{rows_of}
use Rattle.text.proofs.Goings.{Going}
use Rattle.text.proofs.reading.read_rows.Given as goal

abbrev pub invariant-loop-row : goal.invariant-loop-row
invariant-loop-row l =
    (length l.rest + 2 * (l.row * l.width) ≤ length l.text)
    × Going (rows_of l.height l.width l.text) (rows_of (l.height - l.row) l.width l.rest) l.initial.pixels l.pixels (l.row * l.width)
