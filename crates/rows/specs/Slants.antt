-- What the private passes keep to, where lines go along the rows and bend from one to the next. A pass treats all pixels of a frame: the one in column x meets
-- its line's pixel in column x − here + there, and becomes the darker of the two, or the brighter. One of `here` and `there` is 0, so a line's pixels meet those
-- further on in an erosion, and those further back in a dilation.
--   Slanted s g                 the lines of s go along the rows of the frame that stands in g
--   row_start s forth t         where row t starts, counted from the first one on where `forth`, else from the last one back
--   pixel_past forth N S g t j d the pixel in column j, d rows past row t in this order; 0 where there is none
--   is_forth darker falling     whether a pass counts the rows from the first on: an erosion where lines rise, a dilation where they fall
--   rows_on d m x               d or d + 1 rows, by the mark of column x
--   Bends a b e d n m           the marks m say, for the n columns from 0 on, how many rows a line that rises b in a run of a goes aside in the next e columns: d or d + 1
--   Rest a b x rest             what the rounding of r at x leaves over
--   Surplus a b e d surplus     such a line goes d whole rows aside in e columns, and surplus / 2·a of a row more
--   marks_in o                  these marks, or none
--   Marked n o                  o has a mark for each of the n columns from 0 on, or there are none at all, as no line bends
--   near_only m near g j        pixel j of the row at `near`; 0 where it is marked
--   pixel_by s forth m t there d g j            by the marks, the pixel in column there + j, d or d + 1 rows past row t
--   paired s here there x                       the pixel in column x has a partner: x is at least `here`, and the partner's column is in the frame
--   partner s forth m here there d g t x        the pixel that the one in column x of row t meets: 0 where there is none
--   met_at darker s forth m here there d g t x  what it becomes
--   forth_of, start_of, marks_of, partner_of, becomes    the same of a pass p: how it counts the rows, where row t starts, its marks, what a pixel meets and becomes
--   MayRun p g                   the pass p may go over the frame that stands in g
--   meeting darker s here there g i k           the same of pixel k at the major coordinate i, by its line
--   Dark s light g              every pixel from the major coordinate `light` on is 0
--   DarkPast s forth t light g  the same in row t and in those past it
--   edge darker M L w           where a line of M pixels gets dark, when windows of w have come over it
--   grown darker line L w i     where a line's pixel i is brought by windows of w pixels: by an erosion, or by the dilation of the erosion by L
--   GrownLines darker s L w f   each line of the sweep s holds what this makes of that line of the frame f
--   Grows darker s L w          from windows of one pixel to those of w, whatever the frame was
-- Laws: rows/proofs/Growths, Bends, Slants.
use Rattle.std.specs.Prelude.{◌≡◌, Bool, true, not, cond, ◌&&◌, List, [], Option, Some, None, ℕ, ◌+◌, ◌-◌, ◌*◌, ◌/◌, ◌≤◌, ◌<◌, eqb, leb, ltb, length, get_or}
use Rattle.std.specs.Bool.{beq}
use Rattle.std.specs.Borrow.{Bor}
use Rattle.frame.specs.declared.sweep.Sweep.{Sweep}
use Rattle.frame.specs.Lines.{r}
use Rattle.frame.specs.Sweep.{shift, Sane}
use Rattle.line.specs.Passes.{eroded_to, reopened}
use Rattle.passes.specs.Passes.{op}
use Rattle.rows.specs.declared.slant.Pass.{Pass}
use Rattle.rows.specs.Rows.{byte_of, lane_at, lane, PixelsAre, row_at}

pub record Slanted (s : Sweep) (g : List ℕ) : Type 0 where
  pub sane : Sane s
  pub next : s.pace ≡ 1
  pub apart : s.majors ≤ s.sidestep
  pub room : (s.minors - 1) * s.sidestep + s.majors ≤ length g

abbrev pub row_start : Sweep → Bool → ℕ → ℕ
row_start s forth t = row_at forth s.minors t * s.sidestep

unfoldable pub pixel_past : Bool → ℕ → ℕ → List ℕ → ℕ → ℕ → ℕ → ℕ
pixel_past forth N S g t j d = cond (ltb (t + d) N) (get_or g (row_at forth N (t + d) * S + j) 0) 0

abbrev pub is_forth : Bool → Bool → Bool
is_forth darker falling = not (beq falling darker)

-- ---- the marks of a pass

abbrev pub rows_on : ℕ → List ℕ → ℕ → ℕ
rows_on d m x = cond (eqb (get_or m x 0) 0) d (d + 1)

abbrev pub Bends : ℕ → ℕ → ℕ → ℕ → ℕ → List ℕ → Type 0
Bends a b e d n m = (x : ℕ) → x < n → r a b (x + e) ≡ r a b x + rows_on d m x

pub record Rest (a b x rest : ℕ) : Type 0 where
  pub sum : r a b x * (2 * a) + rest ≡ 2 * x * b + a
  pub below : rest < 2 * a

abbrev pub Surplus : ℕ → ℕ → ℕ → ℕ → ℕ → Type 0
Surplus a b e d surplus = (d ≡ e * b / a) × (surplus ≡ 2 * (e * b - d * a))

abbrev pub marks_in : Option (Bor (List ℕ)) → List ℕ
marks_in None = []
marks_in (Some m) = m.now

abbrev pub Marked : ℕ → Option (Bor (List ℕ)) → Type 0
Marked n None = Unit {0}
Marked n (Some m) = n ≤ length m.now

-- ---- a pass over a row

abbrev pub near_only : List ℕ → ℕ → List ℕ → ℕ → ℕ
near_only m near g j = cond (eqb (get_or m j 0) 0) (get_or g (near + j) 0) 0

abbrev pub pixel_by : Sweep → Bool → List ℕ → ℕ → ℕ → ℕ → List ℕ → ℕ → ℕ
pixel_by s forth m t there d g j = pixel_past forth s.minors s.sidestep g t (there + j) (rows_on d m j)

abbrev pub paired : Sweep → ℕ → ℕ → ℕ → Bool
paired s here there x = leb here x && ltb (there + (x - here)) s.majors

unfoldable pub partner : Sweep → Bool → List ℕ → ℕ → ℕ → ℕ → List ℕ → ℕ → ℕ → ℕ
partner s forth m here there d g t x = cond (paired s here there x) (pixel_by s forth m t there d g (x - here)) 0

abbrev pub met_at : Bool → Sweep → Bool → List ℕ → ℕ → ℕ → ℕ → List ℕ → ℕ → ℕ → ℕ
met_at darker s forth m here there d g t x = op darker (get_or g (row_start s forth t + x) 0) (partner s forth m here there d g t x)

abbrev pub DarkPast : Sweep → Bool → ℕ → ℕ → List ℕ → Type 0
DarkPast s forth t light g = (u x : ℕ) → t ≤ u → u < s.minors → light ≤ x → x < s.majors → get_or g (row_start s forth u + x) 0 ≡ 0

abbrev pub forth_of : Pass → Bool
forth_of p = is_forth p.darker p.sweep.falling

abbrev pub start_of : Pass → ℕ → ℕ
start_of p = row_start p.sweep (forth_of p)

abbrev pub marks_of : Pass → List ℕ
marks_of p = marks_in p.bends

abbrev pub partner_of : Pass → ℕ → List ℕ → ℕ → ℕ
partner_of p t = pixel_by p.sweep (forth_of p) (marks_of p) t p.there p.step

abbrev pub becomes : Pass → List ℕ → ℕ → ℕ → ℕ
becomes p = met_at p.darker p.sweep (forth_of p) (marks_of p) p.here p.there p.step

pub record MayRun (p : Pass) (g : List ℕ) : Type 0 where
  pub slanted : Slanted p.sweep g
  pub some : p.there < p.light
  pub inside : p.here + p.light ≤ p.sweep.majors
  pub onward : p.darker ≡ true → p.here ≡ 0
  pub marked : Marked (p.light - p.there) p.bends

-- ---- a pass over the lines

abbrev pub meeting : Bool → Sweep → ℕ → ℕ → List ℕ → ℕ → ℕ → ℕ
meeting darker s here there g i k =
    op darker (get_or g (byte_of s i k) 0) (cond (paired s here there i) (lane_at (shift s) (byte_of s) s.minors g (k + shift s i) (there + (i - here))) 0)

abbrev pub Dark : Sweep → ℕ → List ℕ → Type 0
Dark s light g = (i k : ℕ) → light ≤ i → i < s.majors → k < s.minors → get_or g (byte_of s i k) 0 ≡ 0

abbrev pub edge : Bool → ℕ → ℕ → ℕ → ℕ
edge darker M L w = cond darker (M + 1 - w) (M - L + w)

abbrev pub grown : Bool → List ℕ → ℕ → ℕ → ℕ → ℕ
grown darker line L w i = cond darker (eroded_to line w i) (reopened line L w i)

pub record GrownLines (darker : Bool) (s : Sweep) (L w : ℕ) (f before after : List ℕ) : Type 0 where
  pub pixels : PixelsAre (byte_of s) s.majors s.minors
      (λ (i k : ℕ). grown darker (lane (shift s) (byte_of s) s.minors s.majors f (k + shift s i)) L w i) before after

pub record Grows (darker : Bool) (s : Sweep) (L w : ℕ) (before after : List ℕ) : Type 0 where
  pub lines : (f b : List ℕ) → GrownLines darker s L 1 f b before → GrownLines darker s L w f b after
