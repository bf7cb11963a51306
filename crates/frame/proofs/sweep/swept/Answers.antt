-- The sizes decide which coordinate ascends; the number that its last one is rounded to is the sweep's top.
use mathlib.Core.Path.{◌≡◌}
use mathlib.Core.Bool.{Bool, true, false}
use Prim.Native.Nat.{ℕ, ◌-◌, ◌≤◌, ◌<◌}
use native.Mathlib.Omega.{arith}
use borrow.Author.Tests.{le-leb, lt-leb}
use lib.IntN.{nat_abs}
use Rattle.frame.specs.declared.direction.Direction.{Direction}
use Rattle.frame.specs.declared.shape.Shape.{Shape}
use Rattle.frame.specs.Direction.{opposite, shallow}
use Rattle.frame.specs.Lines.{r}
use Rattle.frame.specs.Sweep.{sweep_of}
use Rattle.frame.proofs.sweep.swept.Goals.{then-steps, else-steps}
use Rattle.frame.proofs.sweep.swept.Goals as goal

module _ (sh : Shape) (d : Direction) {a b : ℕ} {f : Bool} {t : ℕ} (falls : f ≡ opposite d) where
  is-shallow : a ≡ nat_abs d.p → b ≡ nat_abs d.q → b ≤ a → t ≡ r a b (sh.width - 1)
      → record { majors = sh.width; minors = sh.height; pace = 1; sidestep = sh.stride; run = a; rise = b; falling = f; top = t } ≡ sweep_of sh d
  unfolding sweep_of
  is-shallow run rise h top =
      let e : shallow d ≡ true = le-leb (nat_abs d.q) (nat_abs d.p) (omega arith) in
      rw e (cc)

  is-steep : a ≡ nat_abs d.q → b ≡ nat_abs d.p → b < a → t ≡ r a b (sh.height - 1)
      → record { majors = sh.height; minors = sh.width; pace = sh.stride; sidestep = 1; run = a; rise = b; falling = f; top = t } ≡ sweep_of sh d
  unfolding sweep_of
  is-steep run rise h top =
      let e : shallow d ≡ false = lt-leb (nat_abs d.q) (nat_abs d.p) (omega arith) in
      rw e (cc)

pub returns : goal.returns
returns c =
    let sh = c.args.shape in
    let d = c.args.d in
    let falls = c.is_opposed.ensures in
    elim c.if-steps.branch [
      | then-steps w ↦ rw w.majors-is (is-shallow sh d falls (omega arith) (omega arith) (omega arith) (rw w.majors-is at c.rounded.ensures))
      | else-steps w ↦ rw w.majors-is (is-steep sh d falls (omega arith) (omega arith) (omega arith) (rw w.majors-is at c.rounded.ensures))
    ]
