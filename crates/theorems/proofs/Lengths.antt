-- Demand 2, lengths in frame calls: how many pixels a length stands for. The facts that a count must meet stand in specs/Equation.
--   stands-is, stands-alone          what `pixels_for` computes meets them; no other count does
--   stands_one, stands-within        a length of 1 is a pixel; no length stands for more pixels than itself
--   stands-along, stands-across      along and across it counts pixels
--   stands-next                      the next length stands for as many pixels, or one more
--   asked_is, asked_none             what `pixels_for` hands back, of a direction and a length of 1 to 4,097, and else
-- Assumes nothing.
use mathlib.Core.Path.{◌≡◌, sym, ◌∙◌}
use mathlib.Core.Bool.{true, false}
use mathlib.Core.Logic.{◌⊎◌}
use Prim.Native.Nat.{ℕ, suc, ◌+◌, ◌-◌, ◌*◌, ◌≤◌, max}
use native.Mathlib.Omega.{arith}
use borrow.Author.Tests.{leb-true, leb-false, le-leb, lt-leb}
use lib.IntN.{nat_abs}
use Rattle.answer.specs.Limits.{longest}
use Rattle.frame.specs.declared.direction.Direction.{Direction}
use Rattle.frame.specs.Direction.{is_direction, along, across}
use Rattle.frame.specs.Length.{square, pixels_for, is_measured, pixels_or_none}
use Rattle.frame.proofs.Lengths.{count-reaches, count-least, count_unique, count-across, pixels-some, pixels-most, pixels-one, pixels-along, pixels-next, pixels_known}
use Rattle.theorems.specs.Equation.{StandsFor}

module _ (d : Direction) where
  abbrev a : ℕ
  a = nat_abs d.p

  abbrev b : ℕ
  b = nat_abs d.q

  -- 'k is the smallest count from 1 up with ..'
  pub stands-is : (L : ℕ) → StandsFor d L (pixels_for d L)
  stands-is L =
      record {
        some = pixels-some d L;
        reaches = leb-true (square (L - 1) * square (max a b)) (square (pixels_for d L - 1) * (square a + square b)) (count-reaches a b L);
        smallest = λ j some h. leb-false (square (L - 1) * square (max a b)) (square (j - 1) * (square a + square b)) (count-least a b L j some h);
      }

  pub stands-alone : (L k : ℕ) → StandsFor d L k → k ≡ pixels_for d L
  stands-alone L k s =
      sym (count_unique a b L k s.some (le-leb (square (L - 1) * square (max a b)) (square (k - 1) * (square a + square b)) s.reaches)
      (λ more. lt-leb (square (L - 1) * square (max a b)) (square (k - 1 - 1) * (square a + square b)) (s.smallest (k - 1) (omega arith) (omega arith))))

  pub stands_one : pixels_for d 1 ≡ 1
  stands_one = pixels-one d

  pub stands-within : (L : ℕ) → 1 ≤ L → pixels_for d L ≤ L
  stands-within L some = pixels-most d L some

  pub stands-next : (L : ℕ) → (pixels_for d (suc L) ≡ pixels_for d L) ⊎ (pixels_for d (suc L) ≡ suc (pixels_for d L))
  stands-next L = pixels-next d L

  -- ---- the call

  pub asked_is : {k : ℕ} (L : ℕ) → k ≡ pixels_or_none d L → is_direction d ≡ true → 1 ≤ L → L ≤ longest + 1 → StandsFor d L k
  asked_is L e ok some fits = rw (e ∙ pixels_known d L ok some fits) (stands-is L)

  pub asked_none : {k : ℕ} (L : ℕ) → k ≡ pixels_or_none d L → is_measured d L ≡ false → k ≡ 0
  asked_none L e none = e ∙ rw none

-- 'L of 21 gives .. 21 along'
pub stands-along : (L : ℕ) → 1 ≤ L → pixels_for along L ≡ L
stands-along L some = pixels-along L some

pub stands-across : (L : ℕ) → 1 ≤ L → pixels_for across L ≡ L
stands-across L some = count-across 1 L (omega arith) some
