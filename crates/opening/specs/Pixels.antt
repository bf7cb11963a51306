-- A frame opened in a direction, the highest of its openings and that one's direction, pixel by pixel (document 01, 'Windows and openings'): everything
-- computes on a frame that is written out.
--   opened_pixel f sh d k x y  pixel (x, y) of the frame f opened in direction d with windows of k pixels
--   in_direction f sh L x y n  pixel (x, y) of the frame f opened in the numbered direction n, with the pixels that the length L stands for there
--   highest_at f sh L x y      the greatest of these over the sixteen
--   first_greatest v n         the lowest number below n at which v is greatest
--   direction_at f sh L x y    the lowest direction number that reaches the highest
-- Laws: opening/proofs/Along, Inplace, Lines, Leaders.
use Rattle.std.specs.Prelude.{List, ℕ, eqb, get_or}
use Rattle.lists.specs.Tables.{table, those}
use Rattle.lists.specs.Extremes.{least, greatest}
use Rattle.line.specs.Windows.{opened}
use Rattle.frame.specs.declared.direction.Direction.{Direction}
use Rattle.frame.specs.declared.shape.Shape.{Shape}
use Rattle.frame.specs.Direction.{numbered_of}
use Rattle.frame.specs.Length.{pixels_for}
use Rattle.frame.specs.Lines.{at, line_of, pixels, line_read, index_in}

-- 'A frame is opened line by line in one direction.'
unfoldable pub opened_pixel : List ℕ → Shape → Direction → ℕ → ℕ → ℕ → ℕ
opened_pixel f sh d k x y =
    get_or (opened (line_read f sh d (line_of d x y)) k) (index_in (at x y) (pixels sh d (line_of d x y))) 0

-- 'Demand 2 reads k for L in frame calls'
abbrev pub in_direction : List ℕ → Shape → ℕ → ℕ → ℕ → ℕ → ℕ
in_direction f sh L x y n = opened_pixel f sh (numbered_of n) (pixels_for (numbered_of n) L) x y

-- 'The highest opening takes, at each pixel, the greatest over the sixteen'
abbrev pub highest_at : List ℕ → Shape → ℕ → ℕ → ℕ → ℕ
highest_at f sh L x y = greatest (table (in_direction f sh L x y) 16)

unfoldable pub first_greatest : (ℕ → ℕ) → ℕ → ℕ
first_greatest v n = least (those (λ (k : ℕ). eqb (v k) (greatest (table v n))) (λ (k : ℕ). k) n)

-- 'the direction frame holds the lowest number that reaches it'
abbrev pub direction_at : List ℕ → Shape → ℕ → ℕ → ℕ → ℕ
direction_at f sh L x y = first_greatest (in_direction f sh L x y) 16
