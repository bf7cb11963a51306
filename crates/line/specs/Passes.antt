-- What the private passes keep to: a line eroded and dilated where it stands.
--   narrowed b d k        number k of b, or the one d behind it: the lesser
--   widened b d k         number k of b, or the one d before it: the greater
--   eroded_to f w i       the darkest pixel of the window of w from i on; 0 where it leaves the line
--   reopened f L w x      the greatest of these, for windows of L, at the w places up to x
--   ErodedFront, DilatedFront    a list begins with the values of an erosion, or of a dilation
-- Laws: line/proofs/Passes, Parts, Rims.
use Rattle.std.specs.Prelude.{◌≡◌, cond, List, ℕ, ◌+◌, ◌-◌, ◌≤◌, ◌<◌, min, max, leb, length, get_or}
use Rattle.lists.specs.Tables.{table}
use Rattle.line.specs.Windows.{darkest, dilated_at}

abbrev pub narrowed : List ℕ → ℕ → ℕ → ℕ
narrowed b d k = min (get_or b k 0) (get_or b (k + d) 0)

abbrev pub widened : List ℕ → ℕ → ℕ → ℕ
widened b d k = max (get_or b k 0) (get_or b (k - d) 0)

unfoldable pub eroded_to : List ℕ → ℕ → ℕ → ℕ
eroded_to f w i = cond (leb (i + w) (length f)) (darkest f i w) 0

unfoldable pub reopened : List ℕ → ℕ → ℕ → ℕ → ℕ
reopened f L w x = dilated_at (table (eroded_to f L) (length f)) w x

-- a begins with the values of the erosion of f by windows of w pixels
pub record ErodedFront (f : List ℕ) (w : ℕ) (a : List ℕ) : Type 0 where
  pub at : (i : ℕ) → i + w ≤ length f → get_or a i 0 ≡ darkest f i w

-- a begins with the first values of the dilation of e by windows of w values, as many as e has
pub record DilatedFront (e : List ℕ) (w : ℕ) (a : List ℕ) : Type 0 where
  pub at : (x : ℕ) → x < length e → get_or a x 0 ≡ dilated_at e w x
