-- Each turn puts one bin's line behind the others.
use Rattle.text.specs.Lines.{Puts}
use Rattle.text.specs.Sums.{bins_text}
use Rattle.text.proofs.sums.put_sums.Given as goal

abbrev pub invariant-loop-i : goal.invariant-loop-i
invariant-loop-i l = Puts l.initial.dst l.initial.next (bins_text l.sums l.i) l.dst l.next
