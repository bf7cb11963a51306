-- Lines that go down the rows, many abreast, and rows in the order of a pass.
--   Down s g                      the lines of s go down the rows of the frame that stands in g
--   pixel_of s f i u              line u's pixel in row i of the frame f, 0 where it has none
--   beside g from N a b k         the same for pixel k of a row where the lines stand a aside: its line's pixel in the row that starts at `from`, where they stand b aside
--   LevelsAre s φ m               m has the level φ u for each line u
--   descent s darker              the pass over these lines: an erosion goes from the first row on, a dilation from the last back
--   start_at, shifts              where a pass's row after t others starts, and how far aside the lines stand there
--   extreme darker X t w          the darkest, or the brightest, of X t and the w next
--   extreme_of p f u t w          the same of line u's pixels in the frame f, from the row on that comes after t others
--   beyond p f L end t u          the same of the part of row t's window of L rows that is from `end` on, as far as there are rows
--   Takes p t f m m'              levels m that have met that row, if there is one
--   WindowsMet p L lo hi          the rows lo up to, not including, hi have met those of their windows of L rows that there are
--   swap_of s                     the sweep of a diagonal with its two coordinates swapped: its lines are the same, and go down the rows
--   down_of sh d                  the lines of a direction that goes down, as they go down the rows
-- Laws: rows/proofs/Sides, Extremes, Blocks, Opened, Diagonals.
use Rattle.std.specs.Prelude.{◌≡◌, Bool, cond, ◌&&◌, List, ℕ, zero, suc, ◌+◌, ◌-◌, ◌*◌, ◌≤◌, ◌<◌, min, leb, ltb, length, get_or}
use Rattle.passes.specs.Passes.{op}
use Rattle.frame.specs.declared.sweep.Sweep.{Sweep}
use Rattle.frame.specs.declared.direction.Direction.{Direction}
use Rattle.frame.specs.declared.shape.Shape.{Shape}
use Rattle.frame.specs.Direction.{shallow}
use Rattle.frame.specs.Sweep.{shift, lines, sweep_of, Sane}
use Rattle.rows.specs.declared.order.Descent.{Descent}
use Rattle.rows.specs.Rows.{byte_of, lane_at, row_at, RowsAre}

pub record Down (s : Sweep) (g : List ℕ) : Type 0 where
  pub sane : Sane s
  pub next : s.sidestep ≡ 1
  pub apart : s.minors ≤ s.pace
  pub room : (s.majors - 1) * s.pace + s.minors ≤ length g

abbrev pub pixel_of : Sweep → List ℕ → ℕ → ℕ → ℕ
pixel_of s f i u = lane_at (shift s) (byte_of s) s.minors f u i

unfoldable pub beside : List ℕ → ℕ → ℕ → ℕ → ℕ → ℕ → ℕ
beside g from N a b k = cond (leb b (k + a) && ltb (k + a) (b + N)) (get_or g (from + (k + a - b)) 0) 0

pub record LevelsAre (s : Sweep) (φ : ℕ → ℕ) (m : List ℕ) : Type 0 where
  pub level : (u : ℕ) → u < lines s → get_or m u 0 ≡ φ u

-- ---- rows in the order of a pass

abbrev pub descent : Sweep → Bool → Descent
descent s darker = record { sweep = s; darker = darker }

abbrev pub start_at : Descent → ℕ → ℕ
start_at p t = row_at p.darker p.sweep.majors t * p.sweep.pace

abbrev pub shifts : Descent → ℕ → ℕ
shifts p t = shift p.sweep (row_at p.darker p.sweep.majors t)

unfoldable pub extreme : Bool → (ℕ → ℕ) → ℕ → ℕ → ℕ
extreme darker X t zero = X t
extreme darker X t (suc w) = op darker (X t) (extreme darker X (t + 1) w)

abbrev pub extreme_of : Descent → List ℕ → ℕ → ℕ → ℕ → ℕ
extreme_of p f u t w = extreme p.darker (λ (j : ℕ). pixel_of p.sweep f (row_at p.darker p.sweep.majors j) u) t w

abbrev pub beyond : Descent → List ℕ → ℕ → ℕ → ℕ → ℕ → ℕ
beyond p f L end t u = extreme_of p f u end (min (t + L) p.sweep.majors - 1 - end)

pub record Takes (p : Descent) (t : ℕ) (f m m' : List ℕ) : Type 0 where
  pub met : t < p.sweep.majors → LevelsAre p.sweep (λ (u : ℕ). op p.darker (get_or m u 0) (pixel_of p.sweep f (row_at p.darker p.sweep.majors t) u)) m'
  pub none : p.sweep.majors ≤ t → m' ≡ m

abbrev pub WindowsMet : Descent → ℕ → ℕ → ℕ → List ℕ → List ℕ → Type 0
WindowsMet p L lo hi before after =
    RowsAre (start_at p) p.sweep.minors lo hi (λ (t k : ℕ). extreme_of p before (k + shifts p t) t (min (t + L) p.sweep.majors - 1 - t)) before after

-- ---- diagonals

abbrev pub swap_of : Sweep → Sweep
swap_of s =
    record {
      majors = s.minors;
      minors = s.majors;
      pace = s.sidestep;
      sidestep = s.pace;
      run = s.run;
      rise = s.rise;
      falling = s.falling;
      top = s.minors - 1;
    }

abbrev pub down_of : Shape → Direction → Sweep
down_of sh d = cond (shallow d) (swap_of (sweep_of sh d)) (sweep_of sh d)
