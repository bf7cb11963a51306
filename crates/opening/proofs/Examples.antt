-- A frame of 3 by 3 pixels, its rows 4 bytes apart, with a strand from corner to corner: what the definitions compute.
-- Assumes nothing.
use mathlib.Core.Path.{◌≡◌, refl}
use mathlib.Core.List.{List, [], ◌∷◌}
use Prim.Native.Nat.{ℕ}
use lib.IntN.{pos}
use Rattle.lists.specs.Tables as tables
use Rattle.lists.specs.Tables.{each, table}
use Rattle.lists.specs.Extremes as extremes
use Rattle.answer.specs.Rules.{answer, done, refusal}
use Rattle.line.specs.Windows as windows
use Rattle.frame.specs.declared.shape.Shape.{Shape}
use Rattle.frame.specs.Direction.{dir, along}
use Rattle.frame.specs.Shape.{shape}
use Rattle.frame.specs.Length as measures
use Rattle.frame.specs.Lines as lines
use Rattle.opening.specs.Pixels as pixels
use Rattle.opening.specs.Pixels.{opened_pixel, highest_at, direction_at}
use Rattle.opening.specs.Frames.{open_frame_rules}
use Rattle.opening.specs.Sixteen.{highest_rules}

abbrev small : Shape
small = shape 3 3 4

-- 7 between the rows
abbrev strand : List ℕ
strand =
    9 ∷ 1 ∷ 1 ∷ 7
    ∷ 1 ∷ 9 ∷ 1 ∷ 7
    ∷ 1 ∷ 1 ∷ 9 ∷ []

-- the pixels of the frame, row by row
abbrev picture : (ℕ → ℕ → ℕ) → List ℕ
picture F = each (λ (y : ℕ). table (λ (x : ℕ). F x y) 3) 3

-- no window along is brighter than 1
pub along-dark : picture (opened_pixel strand small along 3) ≡ 1 ∷ 1 ∷ 1 ∷ 1 ∷ 1 ∷ 1 ∷ 1 ∷ 1 ∷ 1 ∷ []
unfolding tables.each extremes.least extremes.greatest windows.opened lines.r lines.index_in pixels.opened_pixel
along-dark = refl

-- on the diagonal the strand stays, and no other line has three pixels
pub diagonal-bright : picture (opened_pixel strand small (dir (pos 1) (pos 1)) 3) ≡ 9 ∷ 0 ∷ 0 ∷ 0 ∷ 9 ∷ 0 ∷ 0 ∷ 0 ∷ 9 ∷ []
unfolding tables.each extremes.least extremes.greatest windows.opened lines.r lines.index_in pixels.opened_pixel
diagonal-bright = refl

pub highest_both : picture (highest_at strand small 3) ≡ 9 ∷ 1 ∷ 1 ∷ 1 ∷ 9 ∷ 1 ∷ 1 ∷ 1 ∷ 9 ∷ []
unfolding tables.each extremes.least extremes.greatest windows.opened measures.first_from lines.r lines.index_in pixels.opened_pixel
highest_both = refl

-- (4, 3), (1, 1) and (3, 4), numbers 3 to 5, all hold the diagonal here: the tie goes to 3; elsewhere along has it
pub lowest-number : picture (direction_at strand small 3) ≡ 3 ∷ 0 ∷ 0 ∷ 0 ∷ 3 ∷ 0 ∷ 0 ∷ 0 ∷ 3 ∷ []
unfolding tables.each extremes.least extremes.greatest windows.opened measures.first_from lines.r lines.index_in pixels.opened_pixel pixels.first_greatest
lowest-number = refl

-- 11 bytes of frame and 24 of scratch are enough
pub answers :
    (answer (open_frame_rules small along 3 11 11 24) 0 ≡ done 0)
    × (answer (open_frame_rules small (dir (pos 0) (pos 0)) 3 11 11 24) 0 ≡ refusal 2 0)
    × (answer (open_frame_rules small along 0 11 11 24) 0 ≡ refusal 3 0)
    × (answer (open_frame_rules small along 3 10 11 24) 0 ≡ refusal 5 11)
    × (answer (open_frame_rules small along 3 11 10 24) 0 ≡ refusal 6 11)
    × (answer (highest_rules small 3 11 11 11 24) 0 ≡ done 0)
    × (answer (highest_rules small 3 11 10 11 24) 0 ≡ refusal 6 11)
    × (answer (highest_rules small 3 11 11 10 24) 0 ≡ refusal 6 11)
    × (answer (highest_rules small 3 11 11 11 23) 0 ≡ refusal 7 24)
    × (answer (highest_rules (shape 3 3 2) 3 11 11 11 24) 0 ≡ refusal 1 0)
answers = (refl, refl, refl, refl, refl, refl, refl, refl, refl, refl)
