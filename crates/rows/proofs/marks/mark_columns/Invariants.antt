-- The marks of the columns before this one are made, and its rest is known.
use Prim.Native.Nat.{ℕ}
use Rattle.rows.specs.Slants.{Bends, Rest, Surplus}
use Rattle.rows.proofs.marks.mark_columns.Given as goal

abbrev pub invariant-loop-bend : goal.invariant-loop-bend
invariant-loop-bend l =
    Rest l.run l.rise l.bend-index l.rest × ((e step : ℕ) → Surplus l.run l.rise e step l.surplus → Bends l.run l.rise e step l.bend-index l.bend-items)
