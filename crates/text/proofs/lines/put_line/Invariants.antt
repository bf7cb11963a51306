-- The letter, then one field a turn, and the line feed.
use Rattle.std.proofs.Common.{[], ◌∷◌, ◌++◌, drop}
use Rattle.text.specs.Lines.{feed, fields_text}
use Rattle.text.proofs.Runs.{Left}
use Rattle.text.proofs.lines.put_line.Given as goal

abbrev pub invariant-loop-field : goal.invariant-loop-field
invariant-loop-field l =
    Left l.initial.dst l.initial.next (fields_text l.fields ++ (feed ∷ [])) l.dst l.next (fields_text (drop l.field-index l.fields) ++ (feed ∷ []))
