-- Windows of a line (document 01, 'Windows and openings'). A line is the list of its pixels; every definition computes on a list that is written out.
--   window f i L          the L pixels of f from i on
--   darkest f i L         the darkest of them
--   holds L i x           the window of L pixels from i on holds pixel x
--   on_line n L i         it lies wholly on a line of n pixels
--   eroded_count n L      how many values the erosion of n pixels has
--   eroded f L            at each i the darkest pixel of the window from i on
--   dilated_count m L     how many values the dilation of m values has
--   dilated_at e L x      the greatest value i of e with x − L + 1 ≤ i ≤ x
--   dilated e L           these, at each x
--   opened_at f L x       the greatest, over the windows on the line that hold x, of the darkest in the window
--   opened f L            these, at each pixel
-- Laws: line/proofs/Windows, Passes, Laws.
use Rattle.std.specs.Prelude.{Bool, ◌&&◌, List, ℕ, ◌+◌, ◌-◌, leb, ltb, length, take, drop, get_or}
use Rattle.lists.specs.Tables.{table, those}
use Rattle.lists.specs.Extremes.{least, greatest}

abbrev pub window : List ℕ → ℕ → ℕ → List ℕ
window f i L = take L (drop i f)

abbrev pub darkest : List ℕ → ℕ → ℕ → ℕ
darkest f i L = least (window f i L)

abbrev pub holds : ℕ → ℕ → ℕ → Bool
holds L i x = leb i x && ltb x (i + L)

abbrev pub on_line : ℕ → ℕ → ℕ → Bool
on_line n L i = leb (i + L) n

-- 'Erosion has n − L + 1 values; value i is the least of pixels i to i+L−1. Where n < L it has none'
abbrev pub eroded_count : ℕ → ℕ → ℕ
eroded_count n L = n + 1 - L

unfoldable pub eroded : List ℕ → ℕ → List ℕ
eroded f L = table (λ (i : ℕ). darkest f i L) (eroded_count (length f) L)

-- 'Dilation of m values has m + L − 1; value x is the greatest of those values i that exist with x−L+1 ≤ i ≤ x.'
abbrev pub dilated_count : ℕ → ℕ → ℕ
dilated_count m L = m + L - 1

abbrev pub dilated_at : List ℕ → ℕ → ℕ → ℕ
dilated_at e L x = greatest (those (λ (i : ℕ). holds L i x) (λ (i : ℕ). get_or e i 0) (length e))

unfoldable pub dilated : List ℕ → ℕ → List ℕ
dilated e L = table (λ (x : ℕ). dilated_at e L x) (dilated_count (length e) L)

-- 'Opening: at each pixel the greatest erosion value over the windows that hold it; 0 at every pixel where n < L.'
abbrev pub opened_at : List ℕ → ℕ → ℕ → ℕ
opened_at f L x = greatest (those (λ (i : ℕ). on_line (length f) L i && holds L i x) (λ (i : ℕ). darkest f i L) (length f))

unfoldable pub opened : List ℕ → ℕ → List ℕ
opened f L = table (λ (x : ℕ). opened_at f L x) (length f)
