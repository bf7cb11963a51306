-- The count lies above `low`, and not above `high`.
use Prim.Native.Nat.{◌-◌, ◌≤◌, ◌<◌}
use Rattle.frame.specs.Length.{count_for}
use Rattle.frame.proofs.length.Steps.count_for.Given as goal

abbrev pub invariant-loop-low : goal.invariant-loop-low
invariant-loop-low l =
    (l.low < count_for l.self.columns l.self.rows l.length) × (count_for l.self.columns l.self.rows l.length ≤ l.high) × (l.high ≤ l.length)

abbrev pub decreases-loop-low : goal.decreases-loop-low
decreases-loop-low l = l.high - l.low
