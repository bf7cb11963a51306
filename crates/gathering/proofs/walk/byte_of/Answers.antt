-- The line has a pixel there, so the minor coordinate is one of the frame's; and its byte is small, as every pixel's.
use mathlib.Core.Path.{◌≡◌, ap, ◌∙◌}
use mathlib.Core.Bool.{true}
use Prim.Native.Nat.{ℕ, ◌+◌, ◌-◌, ◌*◌, ◌≤◌, ◌<◌}
use native.Mathlib.Omega.{arith}
use native.Mathlib.Nat.{mul-le-mul}
use Rattle.answer.specs.Limits.{longest, widest}
use Rattle.frame.specs.declared.sweep.Sweep.{Sweep}
use Rattle.frame.specs.Sweep as sweep
use Rattle.frame.specs.Sweep.{hit, shift_at, Sane}
use Rattle.frame.proofs.Shapes.{shift_is}
use Rattle.frame.proofs.Walks.{hits}
use Rattle.gathering.proofs.walk.byte_of.Goals as goal

small : (n k : ℕ) → n ≤ longest → k ≤ widest → n * k ≤ longest * widest
small n k h l = mul-le-mul {n₁ = n} {m₁ = k} {n₂ = longest} {m₂ = widest} h l

minor : (s : Sweep) (u i : ℕ) → Sane s → i < s.majors → hit s u i ≡ true → (shift_at s i ≤ u) × (u - shift_at s i ≤ longest)
minor s u i sane there on =
    let shift = shift_is s sane i (omega (arith, sane)) in
    (omega (arith, shift, hits s u i on), omega (arith, shift, hits s u i on, sane))

pub overflow_sub-result : goal.overflow_sub-result
overflow_sub-result c =
    let a = c.args in
    let pre = c.requires in
    omega (arith, c.shift_at.ensures, minor a.s a.u a.i pre.0 pre.1 pre.2)

pub overflow_mul-result-2 : goal.overflow_mul-result-2
overflow_mul-result-2 c =
    let a = c.args in
    let pre = c.requires in
    let narrow = minor a.s a.u a.i pre.0 pre.1 pre.2 in
    omega (arith, small (a.u - c.shift_at.result) a.s.sidestep (omega (arith, c.shift_at.ensures, narrow)) pre.0.sidestep)

pub overflow_add-result : goal.overflow_add-result
overflow_add-result c =
    let a = c.args in
    let pre = c.requires in
    let narrow = minor a.s a.u a.i pre.0 pre.1 pre.2 in
    omega (arith, small a.i a.s.pace (omega (arith, pre.0)) pre.0.pace, small (a.u - c.shift_at.result) a.s.sidestep (omega (arith, c.shift_at.ensures, narrow)) pre.0.sidestep)

pub returns : goal.returns
unfolding sweep.cell
returns c =
    let a = c.args in
    let pre = c.requires in
    ap (λ (t : ℕ). a.i * a.s.pace + (a.u - t) * a.s.sidestep) (c.shift_at.ensures ∙ shift_is a.s pre.0 a.i (omega (arith, pre.0)))
