-- A start and a level side by side are a run, and leave those before it.
use native.Mathlib.Omega.{arith}
use Rattle.bright.proofs.Stack.{stack_put8}
use Rattle.stretch.proofs.runs.put.Goals as goal

pub returns : goal.returns
returns c =
    let a = c.args in
    rw c.put_pair.ensures (stack_put8 a.scratch.now a.i a.start a.level (omega arith))
