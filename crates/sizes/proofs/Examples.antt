-- The sums of document 01's example: bins 2 4 3, rest 10. Its summary's mean is 19 / 9 and its share 9 / 19, as bit patterns of binary64. And the sums of a slanted frame.
-- Assumes nothing.
use mathlib.Core.Path.{◌≡◌, refl}
use mathlib.Core.List.{List, [], ◌∷◌}
use Prim.Native.Nat.{ℕ}
use lib.IntN.{pos}
use lib.Ieee.{binary64, to_bits, of_int, div}
use Rattle.lists.specs.Tables.{each}
use Rattle.lists.specs.Extremes.{least, greatest, total}
use Rattle.line.specs.Windows.{opened}
use Rattle.frame.specs.Direction.{dir}
use Rattle.frame.specs.Shape.{shape}
use Rattle.frame.specs.Length.{first_from}
use Rattle.frame.specs.Lines.{r}
use Rattle.sizes.specs.Sums.{line_sums, frame_sums}
use Rattle.sizes.specs.Summary.{weighted, refused_by, summary_of}

abbrev sums : List ℕ
sums = 2 ∷ 4 ∷ 3 ∷ 10 ∷ []

pub line : line_sums (3 ∷ 5 ∷ 5 ∷ 2 ∷ 4 ∷ []) 3 ≡ sums
unfolding each least greatest total opened
line = refl

-- A frame of 4 by 4 pixels in the direction (1,1): a line of four pixels of 7, and one of three of 2. There the lengths 4 and 5 share a count of four pixels
-- (frame/proofs/Examples): the four are as long as 5 along a row, so that their light is in bin 5, and bin 4 is 0. With four bins it is the rest.
abbrev slanted : ℕ → List ℕ
slanted K = frame_sums (7 ∷ 2 ∷ 0 ∷ 0 ∷ 0 ∷ 7 ∷ 2 ∷ 0 ∷ 0 ∷ 0 ∷ 7 ∷ 2 ∷ 0 ∷ 0 ∷ 0 ∷ 7 ∷ []) (shape 4 4 4) (dir (pos 1) (pos 1)) K

pub shared : (slanted 5 ≡ 0 ∷ 0 ∷ 6 ∷ 0 ∷ 28 ∷ 0 ∷ []) × (slanted 4 ≡ 0 ∷ 0 ∷ 6 ∷ 0 ∷ 28 ∷ [])
unfolding each least greatest total opened first_from r
shared = (refl, refl)

pub mean : to_bits binary64 (summary_of sums).mean ≡ 4611936218406686265
unfolding summary_of total weighted to_bits of_int div
mean = refl

pub share : to_bits binary64 (summary_of sums).share ≡ 4602204756053976333
unfolding summary_of total weighted to_bits of_int div
share = refl

pub dark : summary_of (0 ∷ 5 ∷ []) ≡ refused_by 10
unfolding summary_of total weighted
dark = refl
