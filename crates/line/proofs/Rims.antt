-- A line that is dark beyond its end: erosion and dilation with a value at every pixel, so that the passes need no ends.
--   eroded-to-one, eroded-to-more    the passes
--   eroded-to_join                   a window that two make, one behind the other
--   eroded-to-past, eroded-to_out    0 where the window leaves the line, and past the end
--   eroded-to-over, eroded-to-dark   0 where the line is dark, anywhere in the window or at its first pixel
--   reopened-one, reopened-near, reopened-more    the passes
--   reopened-dark, reopened-whole    0 where the line is dark; with w = L the opening
-- Assumes nothing.
use mathlib.Core.Path.{◌≡◌, sym, ap, ap₂, ◌∙◌}
use mathlib.Core.List.{List}
use mathlib.Core.Logic.{⊎_elim}
use Prim.Native.Nat.{ℕ, ◌+◌, ◌-◌, ◌≤◌, ◌<◌, min, max, zero-le}
use native.Mathlib.Nat.{le_antisymm}
use native.Mathlib.Omega.{arith}
use lib.ListN.{length, get_or, get_or-eq_default}
use borrow.Author.Tests.{le-leb, lt-leb}
use Rattle.lists.specs.Tables.{table}
use Rattle.lists.proofs.Cases.{less_or_not}
use Rattle.lists.proofs.Tables.{length-table, get_d_table}
use Rattle.line.specs.Windows.{darkest, opened_at}
use Rattle.line.specs.Passes.{eroded_to, reopened}
use Rattle.line.proofs.Windows.{darkest_le, dilated-at_le}
use Rattle.line.proofs.Passes.{darkest-one, darkest_cover, dilated-at-one, dilated-at-front, dilated-at-longer, opened-at-eroded}

module _ (f : List ℕ) where
  eroded-to_in : (w i : ℕ) → i + w ≤ length f → eroded_to f w i ≡ darkest f i w
  unfolding eroded_to
  eroded-to_in w i h = rw (le-leb (i + w) (length f) h)

  pub eroded-to-past : (w i : ℕ) → length f < i + w → eroded_to f w i ≡ 0
  unfolding eroded_to
  eroded-to-past w i h = rw (lt-leb (i + w) (length f) h)

  pub eroded-to-one : (i : ℕ) → i < length f → eroded_to f 1 i ≡ get_or f i 0
  eroded-to-one i h = eroded-to_in 1 i (omega arith) ∙ darkest-one f i (omega arith)

  pub eroded-to_out : (w i : ℕ) → 0 < w → length f ≤ i → eroded_to f w i ≡ 0
  eroded-to_out w i some h = eroded-to-past w i (omega arith)

  pub eroded-to-more : (w e i : ℕ) → 0 < w → e ≤ w → eroded_to f (w + e) i ≡ min (eroded_to f w i) (eroded_to f w (i + e))
  eroded-to-more w e i some small =
      ⊎_elim
      (λ past. eroded-to-past (w + e) i past ∙ sym (ap (min (eroded_to f w i)) (eroded-to-past w (i + e) (omega arith)) ∙ omega arith))
      (λ fit.
      eroded-to_in (w + e) i fit
      ∙ darkest_cover f i w (i + e) w (w + e) some some (omega arith) (omega arith) (omega arith) (omega arith) fit
      ∙ sym (ap₂ min (eroded-to_in w i (omega arith)) (eroded-to_in w (i + e) (omega arith))))
      (less_or_not (length f) (i + (w + e)))

  -- two windows, one behind the other
  pub eroded-to_join : (v w i : ℕ) → 0 < v → 0 < w → eroded_to f (v + w) i ≡ min (eroded_to f v i) (eroded_to f w (i + v))
  eroded-to_join v w i some more =
      ⊎_elim
      (λ past. eroded-to-past (v + w) i past ∙ sym (ap (min (eroded_to f v i)) (eroded-to-past w (i + v) (omega arith)) ∙ omega arith))
      (λ fit.
      eroded-to_in (v + w) i fit
      ∙ darkest_cover f i v (i + v) w (v + w) some more (omega arith) (omega arith) (omega arith) (omega arith) fit
      ∙ sym (ap₂ min (eroded-to_in v i (omega arith)) (eroded-to_in w (i + v) (omega arith))))
      (less_or_not (length f) (i + (v + w)))

  -- one dark pixel in the window
  pub eroded-to-over : (w i j : ℕ) → i ≤ j → j < i + w → get_or f j 0 ≡ 0 → eroded_to f w i ≡ 0
  eroded-to-over w i j lo hi dark =
      ⊎_elim
      (eroded-to-past w i)
      (λ fit. eroded-to_in w i fit ∙ le_antisymm (rw dark at (darkest_le f i w j fit lo hi)) zero-le)
      (less_or_not (length f) (i + w))

  pub eroded-to-dark : (w i : ℕ) → 0 < w → get_or f i 0 ≡ 0 → eroded_to f w i ≡ 0
  eroded-to-dark w i some dark = eroded-to-over w i i (omega arith) (omega arith) dark

module _ (f : List ℕ) (L : ℕ) where
  values_length : length (table (eroded_to f L) (length f)) ≡ length f
  values_length = length-table (eroded_to f L) (length f)

  values-at : (i : ℕ) → i < length f → get_or (table (eroded_to f L) (length f)) i 0 ≡ eroded_to f L i
  values-at i h = get_d_table 0 (eroded_to f L) (length f) i h

  pub reopened-one : (x : ℕ) → x < length f → reopened f L 1 x ≡ eroded_to f L x
  unfolding reopened
  reopened-one x h = dilated-at-one (table (eroded_to f L) (length f)) x (omega (arith, values_length)) ∙ values-at x h

  pub reopened-near : (w e x : ℕ) → e ≤ w → x < e → reopened f L (w + e) x ≡ reopened f L w x
  unfolding reopened
  reopened-near w e x small near = dilated-at-front (table (eroded_to f L) (length f)) w e x small near

  pub reopened-more : (w e x : ℕ) → e ≤ w → e ≤ x → reopened f L (w + e) x ≡ max (reopened f L w x) (reopened f L w (x - e))
  unfolding reopened
  reopened-more w e x small far = dilated-at-longer (table (eroded_to f L) (length f)) w e x small far

  pub reopened-dark : (w x : ℕ) → w ≤ L → get_or f x 0 ≡ 0 → reopened f L w x ≡ 0
  unfolding reopened
  reopened-dark w x small dark =
      le_antisymm
      (dilated-at_le (table (eroded_to f L) (length f)) w x 0
      (λ i l lo hi.
      let h : i < length f = omega (arith, values_length) in
      rw (values-at i h) (window i h lo hi)))
      zero-le
    where
      window : (i : ℕ) → i < length f → i ≤ x → x < i + w → eroded_to f L i ≤ 0
      window i h lo hi =
          ⊎_elim
          (λ past. rw (eroded-to-past f L i past) zero-le)
          (λ fit. rw (eroded-to_in f L i fit) (rw dark at (darkest_le f i L x fit lo (omega arith))))
          (less_or_not (length f) (i + L))

  pub reopened-whole : (x : ℕ) → 0 < L → reopened f L L x ≡ opened_at f L x
  unfolding reopened
  reopened-whole x some =
      opened-at-eroded f (table (eroded_to f L) (length f)) L x some
      (λ i fit. omega (arith, values_length))
      (λ i fit. values-at i (omega arith) ∙ eroded-to_in f L i fit)
      (λ i past.
      ⊎_elim
      (λ in'. values-at i in' ∙ eroded-to-past f L i past)
      (λ out. get_or-eq_default (table (eroded_to f L) (length f)) 0 (omega (arith, values_length)))
      (less_or_not i (length f)))
