-- The numbers of a frame's lines, at the machine's edge.
--   lines-some, lines-accepted a frame that has lines is accepted, and which it has
--   count_most                 how many lines there are
--   first-near, first_fits     the first line's number is small, and fits
--   number_is, number-back     a line's number, and that it went through its bits unchanged
-- Assumes nothing.
use mathlib.Core.Path.{◌≡◌, sym, ap, ◌∙◌, subst}
use mathlib.Core.Bool.{false, ◌&&◌}
use mathlib.Core.Logic.{◌⊎◌, inl, inr}
use Prim.Native.Nat.{ℕ, zero, suc, ◌*◌, ◌≤◌, ◌<◌, zero-le}
use native.Mathlib.Omega.{arith}
use borrow.Author.Tests.{lt-ltb}
use lib.IntN.{ℤ, pos, nat_abs, sub_ℕ, ◌+ℤ◌}
use mir.Syntax.{w64}
use mir.Val.{SFits, to_z, of_z}
use mir.Facts.{to_z-of_z}
use Rattle.answer.specs.Limits.{longest}
use Rattle.frame.specs.declared.direction.Direction.{Direction}
use Rattle.frame.specs.declared.shape.Shape.{Shape}
use Rattle.frame.specs.Direction.{is_direction}
use Rattle.frame.specs.Shape.{is_frame}
use Rattle.frame.specs.Lines.{first_line, line_count, lines_of, line_number}
use Rattle.frame.specs.Sweep.{sweep_of, low, Accepted}
use Rattle.frame.proofs.Shapes.{sweep_sane, top_less, low_less, accepted_or_not}
use Rattle.frame.proofs.Signs.{lowest-fits, sum_fits}
use Rattle.frame.proofs.Pixels.{first-is, count-is}

near : (n : ℕ) → n ≤ longest → nat_abs (sub_ℕ 0 n) ≤ longest
near zero h = zero-le
near (suc n) h = rw (lt-ltb 0 (suc n) (omega arith)) (omega arith)

pub lines-some : (sh : Shape) (d : Direction) (u : ℕ) → u < (lines_of sh d).count → Accepted sh d
lines-some sh d u h = go (accepted_or_not sh d)
  where
    go : Accepted sh d ⊎ ((is_frame sh && is_direction d) ≡ false) → Accepted sh d
    go (inl ok) = ok
    go (inr e) = absurd (omega (arith, rw e at h))

module _ (sh : Shape) (d : Direction) (ok : Accepted sh d) where
  low-most : low (sweep_of sh d) ≤ longest
  low-most = omega (arith, low_less (sweep_of sh d) (sweep_sane ok))

  pub lines-accepted : lines_of sh d ≡ record { first = first_line sh d; count = line_count sh d }
  lines-accepted = rw (ok.frame, ok.direction)

  pub count_most : line_count sh d ≤ 2 * longest
  count_most =
      let sane = sweep_sane ok in
      omega (arith, count-is sh d, sane.minors, top_less (sweep_of sh d) sane)

  pub first-near : nat_abs (first_line sh d) ≤ longest
  first-near = rw (first-is sh d) (near (low (sweep_of sh d)) low-most)

  pub first_fits : SFits w64 (first_line sh d)
  first_fits = subst (SFits w64) (sym (first-is sh d)) (lowest-fits (low (sweep_of sh d)) low-most)

  pub number_is : (u : ℕ) → u < line_count sh d → line_number sh d u ≡ first_line sh d +ℤ pos u
  number_is u h = rw (ok.frame, ok.direction, lt-ltb u (line_count sh d) h)

  number_fits : (u : ℕ) → u < line_count sh d → SFits w64 (first_line sh d +ℤ pos u)
  number_fits u h = sum_fits (first_line sh d) u first-near (omega (arith, count_most))

  pub number-back : (u : ℕ) → u < line_count sh d → to_z w64 (of_z w64 (line_number sh d u)) ≡ first_line sh d +ℤ pos u
  number-back u h = ap (λ (z : ℤ). to_z w64 (of_z w64 z)) (number_is u h) ∙ to_z-of_z (number_fits u h)
