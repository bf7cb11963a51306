-- The first i pixels stand in the buffer, the others are still to come, and the text behind them has room.
use Rattle.std.proofs.Common.{◌+◌, ◌-◌, ◌*◌, ◌≤◌, length}
use Rattle.text.specs.Reading.{fields_of}
use Rattle.text.proofs.Goings.{Going}
use Rattle.text.proofs.reading.read_fields.Given as goal

abbrev pub invariant-loop-i : goal.invariant-loop-i
invariant-loop-i l =
    (length l.rest + 2 * l.i ≤ length l.text) × Going (fields_of 255 l.width l.text) (fields_of 255 (l.width - l.i) l.rest) l.initial.pixels l.pixels l.i
