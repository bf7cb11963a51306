-- Size sums of lines and frames (document 01, 'Stretches and size sums').
--   sums_of sum K            bins and rest, with K bins, where `sum L` is the sum for the length L
--   line_sums f K            bins and rest of a line
--   line_at f sh d u         the line number u of a frame, the lowest line being number 0
--   pixel_sum f sh d k       the total of a frame's pixels, opened in a direction with windows of k pixels
--   frame_sum f sh d L       the sum for a length of a frame in a direction: with the pixels that the length stands for there
--   frame_sums f sh d K      bins and rest of a frame in a direction
-- Laws: sizes/proofs/Bins, Spreads, Lights, Gathered.
use Rattle.std.specs.Prelude.{List, [], ◌∷◌, ◌++◌, ℕ, suc, ◌-◌, pos, ◌+ℤ◌}
use Rattle.lists.specs.Tables.{table}
use Rattle.lists.specs.Extremes.{total}
use Rattle.frame.specs.declared.direction.Direction.{Direction}
use Rattle.frame.specs.declared.shape.Shape.{Shape}
use Rattle.frame.specs.Length.{pixels_for}
use Rattle.frame.specs.Lines.{line_read, first_line, line_count}
use Rattle.bridge.specs.Sums.{sum_for}

-- 'With K bins (1 to 4,096), the bin for a length is the sum for that length less the sum for the next; the rest is the sum for length K+1'
-- 'Bins and rest go to a lent slice of exactly K+1 64-bit numbers, the rest last.'
abbrev pub sums_of : (ℕ → ℕ) → ℕ → List ℕ
sums_of sum K = table (λ (i : ℕ). sum (suc i) - sum (suc (suc i))) K ++ (sum (suc K) ∷ [])

-- 'The sum for a length is the total of the opened pixels.'
abbrev pub line_sums : List ℕ → ℕ → List ℕ
line_sums f K = sums_of (sum_for f) K

abbrev pub line_at : List ℕ → Shape → Direction → ℕ → List ℕ
line_at f sh d u = line_read f sh d (first_line sh d +ℤ pos u)

-- 'A frame is opened line by line in one direction.'
abbrev pub pixel_sum : List ℕ → Shape → Direction → ℕ → ℕ
pixel_sum f sh d k = total (table (λ (u : ℕ). sum_for (line_at f sh d u) k) (line_count sh d))

-- 'its size sums take the sum for each length with that length's k'
abbrev pub frame_sum : List ℕ → Shape → Direction → ℕ → ℕ
frame_sum f sh d L = pixel_sum f sh d (pixels_for d L)

abbrev pub frame_sums : List ℕ → Shape → Direction → ℕ → List ℕ
frame_sums f sh d K = sums_of (frame_sum f sh d) K
