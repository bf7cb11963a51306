-- The call `row`: the part of the caller's slice that it lends back.
--   has_row sh y n       rules 1 and 5 accept a frame of shape sh in a slice of n bytes, and it has a row y
--   row_of f sh y        the pixels of row y of the frame f; none where there is no such row
--   row_from f sh y      how many bytes into the frame they begin; 0 where there is no such row
--   LendsRow src sh y part    what `row` promises: the part that it lends back of the slice src
-- A lent slice is the memory that it stands in (`ref_ptr.0`), where it begins there (`ref_ptr.1`), and the bytes that it holds (`now`).
-- Laws: gathering/proofs/LentRows.
use Rattle.std.specs.Prelude.{◌≡◌, Bool, cond, ◌&&◌, List, [], ℕ, ◌+◌, ◌*◌, leb, ltb, length, take, drop}
use Rattle.std.specs.Borrow.{Bor}
use Rattle.frame.specs.declared.shape.Shape.{Shape}
use Rattle.frame.specs.Shape.{is_frame, needed}

-- 'A row number of H or more, or a frame that rule 1 or 5 refuses, gives the empty part.'
abbrev pub has_row : Shape → ℕ → ℕ → Bool
has_row sh y n = is_frame sh && leb (needed sh) n && ltb y sh.height

abbrev pub row_of : List ℕ → Shape → ℕ → List ℕ
row_of f sh y = cond (has_row sh y (length f)) (take sh.width (drop (y * sh.stride) f)) []

abbrev pub row_from : List ℕ → Shape → ℕ → ℕ
row_from f sh y = cond (has_row sh y (length f)) (y * sh.stride) 0

-- 'A row of a frame is lent back without its gap, as the W bytes themselves in the caller's slice.' Of rows that look alike it is the one at its own place.
pub record LendsRow (src : Bor (List ℕ)) (sh : Shape) (y : ℕ) (part : Bor (List ℕ)) : Type 0 where
  pub memory : part.ref_ptr.0 ≡ src.ref_ptr.0
  pub begins : part.ref_ptr.1 ≡ src.ref_ptr.1 + row_from src.now sh y
  pub contents : part.now ≡ row_of src.now sh y
