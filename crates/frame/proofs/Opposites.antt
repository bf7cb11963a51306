-- '(p, q) and (−p, −q) have the same lines.'
--   opposite-line, opposite-pixels
-- Assumes nothing.
use mathlib.Core.Path.{◌≡◌, refl, sym, ap, ap₂, ◌∙◌}
use mathlib.Core.Bool.{Bool, cond, ◌&&◌, ◌||◌, or_comm}
use mathlib.Core.List.{List}
use Prim.Native.Nat.{ℕ, zero, suc}
use native.Mathlib.Omega.{arith}
use borrow.Author.Tests.{lt-ltb, le-ltb}
use lib.Dec.{leb}
use lib.IntN.{ℤ, pos, negsuc, neg_ℤ, nat_abs, ◌-ℤ◌, ◌*ℤ◌}
use lib.Signed.{lt_z}
use Rattle.lists.specs.Tables.{each, keep}
use Rattle.frame.specs.declared.shape.Shape.{Shape}
use Rattle.frame.specs.Direction.{dir, opposite}
use Rattle.frame.specs.Lines.{r, line_of, eq_z, Pixel, at, pixels}

nat_abs_neg : (z : ℤ) → nat_abs (neg_ℤ z) ≡ nat_abs z
nat_abs_neg (pos zero) = refl
nat_abs_neg (pos (suc n)) = refl
nat_abs_neg (negsuc n) = refl

below_neg : (z : ℤ) → lt_z (neg_ℤ z) (pos 0) ≡ lt_z (pos 0) z
below_neg (pos zero) = refl
below_neg (pos (suc n)) = sym (lt-ltb 0 (suc n) (omega arith))
below_neg (negsuc n) = le-ltb (suc n) 0 (omega arith)

above_neg : (z : ℤ) → lt_z (pos 0) (neg_ℤ z) ≡ lt_z z (pos 0)
above_neg (pos zero) = refl
above_neg (pos (suc n)) = sym (le-ltb (suc n) 0 (omega arith))
above_neg (negsuc n) = lt-ltb 0 (suc n) (omega arith)

opposite_neg : (p q : ℤ) → opposite (dir (neg_ℤ p) (neg_ℤ q)) ≡ opposite (dir p q)
opposite_neg p q =
    ap₂ ◌||◌ (ap₂ ◌&&◌ (below_neg p) (above_neg q)) (ap₂ ◌&&◌ (above_neg p) (below_neg q))
    ∙ or_comm (lt_z (pos 0) p && lt_z q (pos 0)) (lt_z p (pos 0) && lt_z (pos 0) q)

-- a line's number, and a line's pixels, by the two sizes and the sign
number_by : ℕ → ℕ → Bool → ℕ → ℕ → ℤ
number_by a b f x y = cond (leb b a) (pos y -ℤ cond f (negsuc 0) (pos 1) *ℤ pos (r a b x)) (pos x -ℤ cond f (negsuc 0) (pos 1) *ℤ pos (r b a y))

pixels_by : Shape → ℤ → ℕ → ℕ → Bool → List Pixel
pixels_by sh k a b f =
    cond (leb b a)
    (each (λ (x : ℕ). each (λ (y : ℕ). keep (eq_z (number_by a b f x y) k) (at x y)) sh.height) sh.width)
    (each (λ (y : ℕ). each (λ (x : ℕ). keep (eq_z (number_by a b f x y) k) (at x y)) sh.width) sh.height)

module _ {A : Type 0} (F : ℕ → ℕ → Bool → A) (p q : ℤ) where
  alike : F (nat_abs (neg_ℤ p)) (nat_abs (neg_ℤ q)) (opposite (dir (neg_ℤ p) (neg_ℤ q))) ≡ F (nat_abs p) (nat_abs q) (opposite (dir p q))
  alike =
      ap₂ (λ (a b : ℕ). F a b (opposite (dir (neg_ℤ p) (neg_ℤ q)))) (nat_abs_neg p) (nat_abs_neg q)
      ∙ ap (λ (f : Bool). F (nat_abs p) (nat_abs q) f) (opposite_neg p q)

pub opposite-line : (p q : ℤ) (x y : ℕ) → line_of (dir (neg_ℤ p) (neg_ℤ q)) x y ≡ line_of (dir p q) x y
unfolding number_by
opposite-line p q x y = alike (λ (a b : ℕ) (f : Bool). number_by a b f x y) p q

pub opposite-pixels : (sh : Shape) (p q : ℤ) (k : ℤ) → pixels sh (dir (neg_ℤ p) (neg_ℤ q)) k ≡ pixels sh (dir p q) k
unfolding number_by pixels_by
opposite-pixels sh p q k = alike (pixels_by sh k) p q
