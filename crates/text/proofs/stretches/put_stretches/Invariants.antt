-- The lines of the stretches found so far stand there, those of the others are left to put.
use Rattle.bright.specs.Stretches.{stretches}
use Rattle.bright.specs.Nesting.{records}
use Rattle.text.specs.Stretches.{stretches_text}
use Rattle.text.proofs.Runs.{Left}
use Rattle.text.proofs.Printings.{lines_from, Printing}
use Rattle.text.proofs.stretches.put_stretches.Given as goal

abbrev pub invariant-loop-encloser : goal.invariant-loop-encloser
invariant-loop-encloser l =
    Printing l.line l.places l.runs l.bookmark l.encloser-index
    × Left l.initial.dst l.at (stretches_text (records (stretches l.line))) l.dst l.end (lines_from l.line l.encloser-index)
