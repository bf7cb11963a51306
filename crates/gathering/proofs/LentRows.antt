-- The lent row; and along, a line is a row.
--   row_fits                        a row ends within the slice
--   row_is, row_from_lem            the row that is lent back, and where it begins
--   row-length, row-pixel           its length and its pixels
--   along-row                       in a direction without a slope line u is row u
-- Assumes nothing.
use mathlib.Core.Path.{◌≡◌, sym, ap, ◌∙◌}
use mathlib.Core.Bool.{true}
use mathlib.Core.List.{List}
use Prim.Native.Nat.{ℕ, ◌+◌, ◌*◌, ◌≤◌, ◌<◌}
use native.Mathlib.Omega.{arith}
use borrow.Author.Tests.{le-leb, lt-ltb}
use lib.ListN.{length, get_or, take, drop, length-drop}
use lib.Seq.{length-take-le, get_or-take, get_or-drop}
use lib.IntN.{pos, nat_abs, ◌+ℤ◌}
use Rattle.lists.proofs.Tables.{table-by}
use Rattle.frame.specs.declared.direction.Direction.{Direction}
use Rattle.frame.specs.declared.shape.Shape.{Shape}
use Rattle.frame.specs.Shape.{is_frame, needed}
use Rattle.frame.specs.Lines.{at, place, gathered, first_line}
use Rattle.frame.specs.Sweep.{Accepted}
use Rattle.frame.proofs.Alongs.{row_ends, along-line}
use Rattle.gathering.specs.Rows.{has_row, row_of, row_from}

module _ (f : List ℕ) (sh : Shape) (y : ℕ) (ok : is_frame sh ≡ true) (fits : needed sh ≤ length f) (here : y < sh.height) where
  pub row_fits : y * sh.stride + sh.width ≤ length f
  row_fits = omega (arith, row_ends sh y here)

  has-row : has_row sh y (length f) ≡ true
  has-row = rw (ok, le-leb (needed sh) (length f) fits, lt-ltb y sh.height here)

  pub row_is : row_of f sh y ≡ take sh.width (drop (y * sh.stride) f)
  row_is = rw has-row

  pub row_from_lem : row_from f sh y ≡ y * sh.stride
  row_from_lem = rw has-row

  pub row-length : length (row_of f sh y) ≡ sh.width
  row-length =
      ap length row_is ∙ length-take-le sh.width (drop (y * sh.stride) f) (omega (arith, length-drop (y * sh.stride) f, row_fits))

  pub row-pixel : (x : ℕ) → x < sh.width → get_or (row_of f sh y) x 0 ≡ get_or f (place sh (at x y)) 0
  row-pixel x h =
      ap (λ (l : List ℕ). get_or l x 0) row_is ∙ get_or-take sh.width (drop (y * sh.stride) f) x 0 h ∙ get_or-drop (y * sh.stride) f x 0

pub along-row : (sh : Shape) (d : Direction) → Accepted sh d → nat_abs d.q ≡ 0 → (f : List ℕ) → needed sh ≤ length f → (u : ℕ) → u < sh.height
    → gathered f sh d (first_line sh d +ℤ pos u) ≡ row_of f sh u
along-row sh d ok flat f fits u here =
    along-line sh d ok flat f u here
    ∙ sym (table-by 0 (row_of f sh u) (λ (x : ℕ). get_or f (place sh (at x u)) 0) sh.width (row-length f sh u ok.frame fits here) (row-pixel f sh u ok.frame fits here))
