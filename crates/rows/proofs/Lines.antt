-- A frame's lines, for lines that go any way in a frame whose pixels stand in any way.
--   lane_in, lane-left, lane-right, lane-pixel, lane-dark    line u's pixel at i, or none; 0 where all pixels are
--   rows-pixels, columns-pixels         a pass over rows, where the major coordinate counts the rows, or the columns
--   pixels_as                           pixels known by an equation
--   line-length, line_at, held          a frame's lines by its pixels
--   opening_is, opened-none             the opening, and that of lines shorter than the window
-- Assumes nothing.
use mathlib.Core.Path.{◌≡◌, refl, sym, ap, ◌∙◌, subst}
use mathlib.Core.List.{List}
use mathlib.Core.Logic.{⊎_elim}
use Prim.Native.Nat.{ℕ, ◌+◌, ◌-◌, ◌≤◌, ◌<◌, zero-le}
use native.Mathlib.Omega.{arith}
use lib.ListN.{length, get_or}
use borrow.Author.Tests.{le-leb, lt-leb, lt-ltb, le-ltb}
use Rattle.lists.proofs.Cases.{less_or_not}
use Rattle.lists.proofs.Tables.{length-table, get_d_table}
use Rattle.line.specs.Windows.{opened}
use Rattle.line.specs.Passes.{reopened}
use Rattle.line.proofs.Windows.{opened-at}
use Rattle.line.proofs.Passes.{opened-at-short}
use Rattle.line.proofs.Rims.{reopened-whole}
use Rattle.rows.specs.Rows.{lane_at, lane, PixelsAre, RowsAre}

-- ---- a line's pixels

module _ (h : ℕ → ℕ) (A : ℕ → ℕ → ℕ) (N : ℕ) (g : List ℕ) where
  pub lane_in : (u i : ℕ) → h i ≤ u → u < h i + N → lane_at h A N g u i ≡ get_or g (A i (u - h i)) 0
  unfolding lane_at
  lane_in u i lo hi = rw (le-leb (h i) u lo, lt-ltb u (h i + N) hi)

  pub lane-left : (u i : ℕ) → u < h i → lane_at h A N g u i ≡ 0
  unfolding lane_at
  lane-left u i out = rw (lt-leb (h i) u out)

  pub lane-right : (u i : ℕ) → h i ≤ u → h i + N ≤ u → lane_at h A N g u i ≡ 0
  unfolding lane_at
  lane-right u i lo out = rw (le-leb (h i) u lo, le-ltb u (h i + N) out)

  pub lane-pixel : (i k : ℕ) → k < N → lane_at h A N g (k + h i) i ≡ get_or g (A i k) 0
  lane-pixel i k in' =
      let e : k + h i - h i ≡ k = omega arith in
      lane_in (k + h i) i (omega arith) (omega arith) ∙ ap (λ (m : ℕ). get_or g (A i m) 0) e

-- a property of a line's value at i: of its pixel there, and of 0 where it has none in any frame
lane_cases : (h : ℕ → ℕ) (A : ℕ → ℕ → ℕ) (N : ℕ) (g : List ℕ) (P : ℕ → Type 0) (u i : ℕ) → ((k : ℕ) → k < N → u ≡ k + h i → P (get_or g (A i k) 0))
    → (((f : List ℕ) → lane_at h A N f u i ≡ 0) → P 0) → P (lane_at h A N g u i)
lane_cases h A N g P u i pixel none =
    ⊎_elim
    (λ left. subst P (sym (lane-left h A N g u i left)) (none (λ f. lane-left h A N f u i left)))
    (λ from.
    ⊎_elim
    (λ in'. subst P (sym (lane_in h A N g u i from in')) (pixel (u - h i) (omega arith) (omega arith)))
    (λ right. subst P (sym (lane-right h A N g u i from right)) (none (λ f. lane-right h A N f u i from right)))
    (less_or_not u (h i + N)))
    (less_or_not u (h i))

pub lane-dark : (h : ℕ → ℕ) (A : ℕ → ℕ → ℕ) (N : ℕ) (g : List ℕ) (u i : ℕ) → ((k : ℕ) → k < N → get_or g (A i k) 0 ≡ 0) → lane_at h A N g u i ≡ 0
lane-dark h A N g u i dark = lane_cases h A N g (λ (v : ℕ). v ≡ 0) u i (λ k n e. dark k n) (λ none. refl)

-- ---- a pass over rows, as one over the pixels of lines

pub rows-pixels : {st : ℕ → ℕ} {N M : ℕ} {F : ℕ → ℕ → ℕ} {b a : List ℕ} → RowsAre st N 0 M F b a → (A : ℕ → ℕ → ℕ) → ((i k : ℕ) → A i k ≡ st i + k)
    → PixelsAre A M N F b a
rows-pixels {st} {N} {M} {F} {b} {a} r A e =
    record {
      same = r.same;
      within = λ i k l n. ap (λ (x : ℕ). get_or a x 0) (e i k) ∙ r.within i k zero-le l n;
      other = λ x none. r.other x (λ i k l h n q. none i k h n (q ∙ sym (e i k)));
    }

-- row t holds the pixels k of all columns, where k and t determine each other
pub columns-pixels : {st : ℕ → ℕ} {N M : ℕ} {F : ℕ → ℕ → ℕ} {b a : List ℕ} → RowsAre st M 0 N F b a → (A : ℕ → ℕ → ℕ) (row : ℕ → ℕ)
    → ((k : ℕ) → k < N → row k < N) → ((t : ℕ) → t < N → row (row t) ≡ t) → ((i k : ℕ) → k < N → A i k ≡ st (row k) + i)
    → PixelsAre A M N (λ (i k : ℕ). F (row k) i) b a
columns-pixels {st} {N} {M} {F} {b} {a} r A row in' back e =
    record {
      same = r.same;
      within = λ i k l n. ap (λ (x : ℕ). get_or a x 0) (e i k n) ∙ r.within (row k) i zero-le (in' k n) l;
      other = λ x none.
          r.other x
          (λ t i l h n q. none i (row t) n (in' t h) (q ∙ ap (λ (m : ℕ). st m + i) (sym (back t h)) ∙ sym (e i (row t) (in' t h))));
    }

pub pixels_as : {A : ℕ → ℕ → ℕ} {M N : ℕ} {F : ℕ → ℕ → ℕ} {b a : List ℕ} → PixelsAre A M N F b a → (G : ℕ → ℕ → ℕ)
    → ((i k : ℕ) → i < M → k < N → F i k ≡ G i k) → PixelsAre A M N G b a
pixels_as r G e = record { same = r.same; within = λ i k l n. r.within i k l n ∙ e i k l n; other = r.other }

-- ---- the lines of the frame f

module _ (h : ℕ → ℕ) (A : ℕ → ℕ → ℕ) (N M : ℕ) (f : List ℕ) where
  pub line-length : (u : ℕ) → length (lane h A N M f u) ≡ M
  line-length u = length-table (lane_at h A N f u) M

  pub line_at : (u i : ℕ) → i < M → get_or (lane h A N M f u) i 0 ≡ lane_at h A N f u i
  line_at u i l = get_d_table 0 (lane_at h A N f u) M i l

  -- a frame that holds B u i at line u's pixel at i, where B is 0 off the frame
  pub held : {B : ℕ → ℕ → ℕ} {b g : List ℕ} → PixelsAre A M N (λ (i k : ℕ). B (k + h i) i) b g → ((u i : ℕ) → i < M → get_or (lane h A N M f u) i 0 ≡ 0 → B u i ≡ 0)
      → (u i : ℕ) → i < M → lane_at h A N g u i ≡ B u i
  held {B} {b} {g} r dark u i l =
      lane_cases h A N g (λ (v : ℕ). v ≡ B u i) u i
      (λ k n e. r.within i k l n ∙ ap (λ (m : ℕ). B m i) (sym e))
      (λ none. sym (dark u i l (line_at u i l ∙ none f)))

  pub opening_is : (L i k : ℕ) → 0 < L → i < M → reopened (lane h A N M f (k + h i)) L L i ≡ get_or (opened (lane h A N M f (k + h i)) L) i 0
  opening_is L i k some l =
      reopened-whole (lane h A N M f (k + h i)) L i some ∙ sym (opened-at (lane h A N M f (k + h i)) L i (omega (arith, line-length (k + h i))))

  opened-short : (L i k : ℕ) → M < L → i < M → get_or (opened (lane h A N M f (k + h i)) L) i 0 ≡ 0
  opened-short L i k short l =
      opened-at (lane h A N M f (k + h i)) L i (omega (arith, line-length (k + h i)))
      ∙ opened-at-short (lane h A N M f (k + h i)) L i (omega (arith, line-length (k + h i)))

  pub opened-none : {b g : List ℕ} (L : ℕ) → M < L → PixelsAre A M N (λ (i k : ℕ). 0) b g
      → PixelsAre A M N (λ (i k : ℕ). get_or (opened (lane h A N M f (k + h i)) L) i 0) b g
  opened-none L short r =
      pixels_as r (λ (i k : ℕ). get_or (opened (lane h A N M f (k + h i)) L) i 0) (λ i k l n. sym (opened-short L i k short l))
