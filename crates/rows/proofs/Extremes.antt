-- The darkest, or the brightest, of numbers in a row.
--   zero-op                      the brighter of 0 and a number
--   extreme-one, extreme-back, extreme_join, extreme-on    of one; one more before, two stretches, one more behind
--   extreme-same, extreme-dark   by equal numbers, and by none but 0
--   extreme-darkest              the darkest of a list's numbers is an erosion's
--   extreme_brightest            the brightest, from the last one back, is a dilation's
-- Assumes nothing.
use mathlib.Core.Path.{◌≡◌, refl, sym, ap, ap₂, ◌∙◌}
use mathlib.Core.Bool.{Bool, true, false}
use mathlib.Core.List.{List}
use Prim.Native.Nat.{ℕ, zero, suc, ◌+◌, ◌-◌, ◌≤◌, ◌<◌, min, max}
use native.Mathlib.Nat.{le_refl}
use native.Mathlib.Omega.{arith}
use lib.ListN.{length, get_or}
use Rattle.line.specs.Windows.{dilated_at}
use Rattle.line.specs.Passes.{eroded_to}
use Rattle.line.proofs.Passes.{dilated-at-one, dilated-at_join}
use Rattle.line.proofs.Rims.{eroded-to-one, eroded-to_join}
use Rattle.passes.specs.Passes.{op}
use Rattle.rows.specs.Down as down
use Rattle.rows.specs.Down.{extreme}

op_assoc : (d : Bool) (a b c : ℕ) → op d (op d a b) c ≡ op d a (op d b c)
op_assoc true a b c = omega arith
op_assoc false a b c = omega arith

op-zero : (d : Bool) → op d 0 0 ≡ 0
op-zero true = omega arith
op-zero false = omega arith

pub zero-op : (a : ℕ) → op false 0 a ≡ a
zero-op a = omega arith

module _ (d : Bool) where
  pub extreme-one : (X : ℕ → ℕ) (t : ℕ) → extreme d X t 0 ≡ X t
  unfolding down.extreme
  extreme-one X t = refl

  extreme-suc : (X : ℕ → ℕ) (t w : ℕ) → extreme d X t (suc w) ≡ op d (X t) (extreme d X (t + 1) w)
  unfolding down.extreme
  extreme-suc X t w = refl

  pub extreme-back : (X : ℕ → ℕ) (t w : ℕ) → extreme d X t (w + 1) ≡ op d (X t) (extreme d X (t + 1) w)
  extreme-back X t w =
      let e : w + 1 ≡ suc w = omega arith in
      ap (extreme d X t) e ∙ extreme-suc X t w

  pub extreme-same : (X Y : ℕ → ℕ) (t w : ℕ) → ((j : ℕ) → t ≤ j → j ≤ t + w → X j ≡ Y j) → extreme d X t w ≡ extreme d Y t w
  extreme-same X Y t zero e = extreme-one X t ∙ e t (le_refl t) (omega arith) ∙ sym (extreme-one Y t)
  extreme-same X Y t (suc w) e =
      extreme-suc X t w
      ∙ ap₂ (op d) (e t (le_refl t) (omega arith)) (extreme-same X Y (t + 1) w (λ j l h. e j (omega arith) (omega arith)))
      ∙ sym (extreme-suc Y t w)

  pub extreme-dark : (X : ℕ → ℕ) (t w : ℕ) → ((j : ℕ) → t ≤ j → X j ≡ 0) → extreme d X t w ≡ 0
  extreme-dark X t zero e = extreme-one X t ∙ e t (le_refl t)
  extreme-dark X t (suc w) e =
      extreme-suc X t w ∙ ap₂ (op d) (e t (le_refl t)) (extreme-dark X (t + 1) w (λ j l. e j (omega arith))) ∙ op-zero d

  pub extreme_join : (X : ℕ → ℕ) (v t w : ℕ) → extreme d X t (v + w + 1) ≡ op d (extreme d X t v) (extreme d X (t + v + 1) w)
  extreme_join X zero t w =
      let e : zero + w + 1 ≡ w + 1 = omega arith in
      let q : t + zero + 1 ≡ t + 1 = omega arith in
      ap (extreme d X t) e ∙ extreme-back X t w ∙ ap₂ (op d) (sym (extreme-one X t)) (ap (λ (j : ℕ). extreme d X j w) (sym q))
  extreme_join X (suc v) t w =
      let e : suc v + w + 1 ≡ suc (v + w + 1) = omega arith in
      let q : t + 1 + v + 1 ≡ t + suc v + 1 = omega arith in
      ap (extreme d X t) e
      ∙ extreme-suc X t (v + w + 1)
      ∙ ap (op d (X t)) (extreme_join X v (t + 1) w ∙ ap (λ (j : ℕ). op d (extreme d X (t + 1) v) (extreme d X j w)) q)
      ∙ sym (op_assoc d (X t) (extreme d X (t + 1) v) (extreme d X (t + suc v + 1) w))
      ∙ ap (λ (m : ℕ). op d m (extreme d X (t + suc v + 1) w)) (sym (extreme-suc X t v))

  pub extreme-on : (X : ℕ → ℕ) (t w : ℕ) → extreme d X t (w + 1) ≡ op d (extreme d X t w) (X (t + w + 1))
  extreme-on X t w =
      let e : w + 1 ≡ w + 0 + 1 = omega arith in
      ap (extreme d X t) e ∙ extreme_join X w t 0 ∙ ap (op d (extreme d X t w)) (extreme-one X (t + w + 1))

module _ (l : List ℕ) (X : ℕ → ℕ) (n : ℕ) (long : length l ≡ n) where
  pub extreme-darkest : ((j : ℕ) → j < n → X j ≡ get_or l j 0) → (w t : ℕ) → t + w < n → extreme true X t w ≡ eroded_to l (w + 1) t
  extreme-darkest at zero t in' = extreme-one true X t ∙ at t (omega arith) ∙ sym (eroded-to-one l t (omega arith))
  extreme-darkest at (suc w) t in' =
      let turn : suc w + 1 ≡ 1 + (w + 1) = omega arith in
      extreme-suc true X t w
      ∙ ap₂ min (at t (omega arith) ∙ sym (eroded-to-one l t (omega arith))) (extreme-darkest at w (t + 1) (omega arith))
      ∙ sym (ap (λ (v : ℕ). eroded_to l v t) turn ∙ eroded-to_join l 1 (w + 1) t (omega arith) (omega arith))

  pub extreme_brightest : ((j : ℕ) → j < n → X j ≡ get_or l (n - 1 - j) 0) → (w t : ℕ) → t + w < n → extreme false X t w ≡ dilated_at l (w + 1) (n - 1 - t)
  extreme_brightest at zero t in' = extreme-one false X t ∙ at t (omega arith) ∙ sym (dilated-at-one l (n - 1 - t) (omega arith))
  extreme_brightest at (suc w) t in' =
      let turn : suc w + 1 ≡ 1 + (w + 1) = omega arith in
      let next : n - 1 - (t + 1) ≡ n - 1 - t - 1 = omega arith in
      extreme-suc false X t w
      ∙ ap₂ max (at t (omega arith) ∙ sym (dilated-at-one l (n - 1 - t) (omega arith)))
      (extreme_brightest at w (t + 1) (omega arith) ∙ ap (dilated_at l (w + 1)) next)
      ∙ sym (ap (λ (v : ℕ). dilated_at l v (n - 1 - t)) turn ∙ dilated-at_join l 1 (w + 1) (n - 1 - t) (omega arith))
