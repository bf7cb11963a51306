-- The rows of a frame painted one after the other: the first n rows are a frame of height n.
--   gapless-row                a row of a frame without gaps is in it
--   part_length                how long a row is that is lent as a part
--   rows_more                  one row more
--   rows-put                   one row more, lent as a part and put back
--   rows_end                   the count of rows known by an equation
--   rows_left, rows-by         each pixel made of what stood there: what is left, and one row more
-- Assumes nothing.
use mathlib.Core.Path.{◌≡◌, sym, ap, ◌∙◌, subst}
use mathlib.Core.Logic.{⊎_elim}
use mathlib.Core.List.{List, ◌++◌}
use Prim.Native.Nat.{ℕ, ◌+◌, ◌-◌, ◌*◌, ◌≤◌, ◌<◌}
use native.Mathlib.Nat.{mul-le-mul_right, add-mul, one-mul}
use native.Mathlib.Omega.{arith}
use lib.ListN.{length, get_or, take, drop, length-drop}
use lib.Seq.{length-take-le}
use Rattle.lists.specs.Stores.{Filled}
use Rattle.lists.proofs.Cases.{less_or_not}
use Rattle.lists.proofs.Stores.{filled_as, filled_end}
use Rattle.lists.proofs.Parts.{filled-part}
use Rattle.frame.specs.declared.shape.Shape.{Shape}
use Rattle.frame.specs.Shape.{shape, gapless}
use Rattle.frame.specs.Painted.{Painted}
use Rattle.frame.proofs.Alongs.{row_ends}
use Rattle.frame.proofs.Shapes.{gapless-needed}

pub part_length : (from width : ℕ) (a : List ℕ) → from + width ≤ length a → length (take (from + width - from) (drop from a)) ≡ width
part_length from width a fits = length-take-le (from + width - from) (drop from a) (omega (arith, length-drop from a)) ∙ omega arith

row_before : (width stride y n : ℕ) → width ≤ stride → y < n → y * stride + width ≤ n * stride
row_before width stride y n past h =
    let p : (y + 1) * stride ≤ n * stride = mul-le-mul_right stride (omega arith) in
    omega (arith, add-mul y 1 stride, one-mul stride)

pub gapless-row : (sh : Shape) (y : ℕ) → y < sh.height → y * sh.width + sh.width ≤ sh.width * sh.height
gapless-row sh y h = omega (arith, row_ends (gapless sh) y h, gapless-needed sh (omega arith))

module _ (width stride : ℕ) (G : ℕ → ℕ → ℕ) where
  pub rows_more : {g a b : List ℕ} (n : ℕ) → width ≤ stride → Painted (shape width n stride) G g a
      → Filled a b (n * stride) (n * stride + width) (λ (k : ℕ). G (k - n * stride) n) → Painted (shape width (n + 1) stride) G g b
  rows_more {g} {a} {b} n past p f =
      record {
        same = f.same ∙ p.same;
        pixels = λ x y h l.
            ⊎_elim
            (λ q. f.below (y * stride + x) (omega (arith, row_before width stride y n past (omega arith))) ∙ p.pixels x y h q)
            (λ q. last x y h (omega arith))
            (less_or_not y n);
        gaps = λ k none.
            ⊎_elim
            (λ q. f.below k q)
            (λ q.
            ⊎_elim
            (λ r. absurd (none (k - n * stride) n (omega arith) (omega arith) (omega arith)))
            (λ r. f.above k r)
            (less_or_not k (n * stride + width)))
            (less_or_not k (n * stride))
            ∙ p.gaps k (λ x y h l e. none x y h (omega arith) e);
      }
    where
      last : (x y : ℕ) → x < width → y ≡ n → get_or b (y * stride + x) 0 ≡ G x y
      last x y h e =
          let k : n * stride + x - n * stride ≡ x = omega arith in
          subst (λ (m : ℕ). get_or b (m * stride + x) 0 ≡ G x m) (sym e)
          (f.within (n * stride + x) (omega arith) (omega arith) ∙ ap (λ (m : ℕ). G m n) k)

  -- row n is lent as a part, and comes back as e
  pub rows-put : {g a : List ℕ} (e : List ℕ) (n : ℕ) → width ≤ stride → n * stride + width ≤ length a → Painted (shape width n stride) G g a → length e ≡ width
      → ((x : ℕ) → x < width → get_or e x 0 ≡ G x n)
      → Painted (shape width (n + 1) stride) G g (take (n * stride) a ++ (e ++ drop (n * stride + width - n * stride) (drop (n * stride) a)))
  rows-put {g} {a} e n past fits p long vals =
      rows_more n past p
      (filled_as (filled_end (filled-part (n * stride) (n * stride + width - n * stride) a e (long ∙ omega arith) (omega arith)) (omega arith))
      (λ (m : ℕ). G (m - n * stride) n) (λ m l h. vals (m - n * stride) (omega arith)))

  pub rows_end : {g a : List ℕ} (n m : ℕ) → Painted (shape width n stride) G g a → n ≡ m → Painted (shape width m stride) G g a
  rows_end {g} {a} n m p e = subst (λ (k : ℕ). Painted (shape width k stride) G g a) e p

-- C makes a pixel of what stood there
module _ (width stride : ℕ) (C : ℕ → ℕ → ℕ → ℕ) {g : List ℕ} where
  pub rows_left : {a : List ℕ} (n : ℕ) → width ≤ stride → Painted (shape width n stride) (λ (x y : ℕ). C x y (get_or g (y * stride + x) 0)) g a
      → (k : ℕ) → n * stride ≤ k → get_or a k 0 ≡ get_or g k 0
  rows_left n past p k l = p.gaps k (λ x y h b e. omega (arith, row_before width stride y n past (omega arith)))

  pub rows-by : {a b : List ℕ} {F : ℕ → ℕ} (n : ℕ) → width ≤ stride → Painted (shape width n stride) (λ (x y : ℕ). C x y (get_or g (y * stride + x) 0)) g a
      → Filled a b (n * stride) (n * stride + width) F → ((x : ℕ) → x < width → F (n * stride + x) ≡ C x n (get_or a (n * stride + x) 0))
      → Painted (shape width (n + 1) stride) (λ (x y : ℕ). C x y (get_or g (y * stride + x) 0)) g b
  rows-by {a} {b} {F} n past p f is =
      rows_more width stride (λ (x y : ℕ). C x y (get_or g (y * stride + x) 0)) n past p
      (filled_as f (λ (k : ℕ). C (k - n * stride) n (get_or g (n * stride + (k - n * stride)) 0))
      (λ k l h.
      let x = k - n * stride in
      let e : n * stride + (k - n * stride) ≡ k = omega arith in
      ap F (sym e) ∙ is x (omega arith) ∙ ap (C x n) (rows_left n past p (n * stride + x) (omega arith))))
