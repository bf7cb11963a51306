-- Each turn of the first loop stores the record found in the table; each turn of the second reads a record, and stores the encloser's place in it.
-- What the loops keep to is `Laying` and `Placing`.
use Rattle.std.proofs.Common.{◌≡◌, length, ◌-◌}
use Rattle.bright.specs.Stretches.{stretches}
use Rattle.bright.specs.Generator.{run8}
use Rattle.bright.proofs.Laying.{laid, Laying, placed, Placing}
use Rattle.stretch.proofs.listing.list.Given as goal

-- the records of the stretches found so far are laid at the front of the table
abbrev pub invariant-loop-nested : goal.invariant-loop-nested
invariant-loop-nested l =
    record {
      laying : Laying run8 l.line l.fn.table l.fn.scratch l.count l.scratch l.at;
      table : l.table ≡ laid l.line l.fn.table l.count;
    }

abbrev pub decreases-loop-nested : goal.decreases-loop-nested
decreases-loop-nested l = length (stretches l.line) - l.count

-- those from k on have their enclosers
abbrev pub invariant-loop-k : goal.invariant-loop-k
invariant-loop-k l =
    record {
      placing : Placing l.line l.fn.table l.fn.scratch l.count l.scratch l.k;
      table : l.table ≡ placed l.line l.fn.table l.count l.k;
    }
