-- By the sign of the slope; each end is found by division, and the first is not behind the last.
use mathlib.Core.Path.{◌≡◌, sym, ap₂, ◌∙◌}
use Prim.Native.Nat.{ℕ, ◌-◌}
use native.Mathlib.Omega.{arith}
use Rattle.frame.specs.Span.{span_from, span_end}
use Rattle.frame.proofs.Spans.{from_falling, end_falling, from-rising, end_rising, span_ordered}
use Rattle.frame.proofs.sweep.Sweep.track.Goals.{Joined-self, then-self, else-self}
use Rattle.frame.proofs.sweep.Sweep.track.Goals as goal

-- the two ends, as the definitions have them
ends : (c : Joined-self) → (let a = c.args in (c.if-self.from.0 ≡ span_from a.self a.u) × (c.if-self.from.1 ≡ span_end a.self a.u))
ends c =
    let s = c.args.self in
    let u = c.args.u in
    elim c.if-self.branch [
      | then-self w ↦
          let falls = w.if-self.true in
          rw w.from-is (w.skip.ensures ∙ sym (from_falling s u falls), w.past.ensures ∙ sym (end_falling s u falls))
      | else-self w ↦
          let rises = w.if-self.false in
          rw w.from-is (w.skip-else-self.ensures ∙ sym (from-rising s u rises), w.past-else-self.ensures ∙ rw w.lines.ensures (sym (end_rising s u rises)))
    ]

pub overflow_sub-result : goal.overflow_sub-result
overflow_sub-result c = omega (arith, ends c, span_ordered c.args.self c.requires.0 c.args.u c.requires.1)

pub returns : goal.returns
returns c =
    let u = c.args.u in
    ap₂ (λ (from end : ℕ). record { index = u; from = from; count = end - from }) (ends c).0 (ends c).1
