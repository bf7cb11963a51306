-- The sweep's own first line and count.
use mathlib.Core.Path.{sym, ap, ap₂, ◌∙◌}
use Prim.Native.Nat.{ℕ}
use native.Mathlib.Omega.{arith}
use lib.IntN.{ℤ, sub_ℕ}
use Rattle.frame.specs.declared.lines.Lines.{Lines}
use Rattle.frame.specs.Sweep.{low, lines}
use Rattle.frame.proofs.Shapes.{sane_of, low_less}
use Rattle.frame.proofs.Signs.{negation_is}
use Rattle.frame.proofs.Pixels.{first-is, count-is}
use Rattle.frame.proofs.lines.lines_of.Goals.{After-low}
use Rattle.frame.proofs.lines.lines_of.Goals as goal

abbrev made : ℤ → ℕ → Lines
made k n = record { first = k; count = n }

pub returns-in-Some : goal.returns-in-Some
returns-in-Some c =
    let a = c.args in
    let ok = c.in-Some.ensures.0 in
    let s = c.in-Some.ensures.1 in
    let first = negation_is c.low.result (omega (arith, c.low.ensures, low_less c.in-Some.s (sane_of ok s))) ∙ ap (sub_ℕ 0) (c.low.ensures ∙ ap low s) ∙ sym (first-is a.shape a.d) in
    let count = c.lines.ensures ∙ ap lines s ∙ sym (count-is a.shape a.d) in
    rw (ok.frame, ok.direction) (ap₂ made first count)
