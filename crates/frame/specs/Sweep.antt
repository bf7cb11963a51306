-- The lines of a frame in unsigned numbers, for the code and the laws. The major coordinate is the one that ascends along a line, the minor the other.
-- A sweep's majors and minors are how many of each the frame has; its pace and sidestep are how many bytes it is from one to the next.
-- A line has an index from 0 up: its number is the index less `low`.
--   sweep_of sh d      the sweep of a frame in a direction (sweeping: by its numbers)
--   sweep_for sh d     the same; no_sweep where rule 1 or 2 refuses them
--   shift s i          the index of the line of the pixel with major coordinate i and minor coordinate 0
--   shift_at s i       the same; 0 where the slope is none that a direction has, or i is past every frame
--   low s              how far below 0 the lowest line number is
--   lines s            how many lines there are
--   hit s u i          line u has a pixel at major coordinate i
--   cell s u i         its byte
--   cells s u n        the bytes of line u at the major coordinates below n, in line order
--   value s f u i      line u's byte of f at major coordinate i, and 0 where it has no pixel there
--   values_at f cs     the bytes of f at the places cs
--   Accepted sh d      rules 1 and 2 accept the frame and the direction
--   Sane s             what a sweep of an accepted frame and direction keeps to
--   Reach s n          its last pixel's byte is below n
--   Apart s            no two of its pixels share a byte
-- That these are document 01's lines is shown in frame/proofs/Walks; laws: Walks, Spots, Partition.
use Rattle.std.specs.Prelude.{◌≡◌, Bool, true, false, cond, ◌&&◌, ◌⊎◌, List, map, ℕ, ◌+◌, ◌-◌, ◌*◌, ◌≤◌, ◌<◌, leb, ltb, get_or, nat_abs}
use Rattle.lists.specs.Tables.{those}
use Rattle.answer.specs.Limits.{longest, widest, steepest}
use Rattle.frame.specs.declared.direction.Direction.{Direction}
use Rattle.frame.specs.declared.shape.Shape.{Shape}
use Rattle.frame.specs.declared.sweep.Sweep.{Sweep}
use Rattle.frame.specs.Direction.{shallow, opposite, is_direction}
use Rattle.frame.specs.Shape.{is_frame, within}
use Rattle.frame.specs.Lines.{r}

abbrev pub sweeping : ℕ → ℕ → ℕ → ℕ → ℕ → ℕ → Bool → Sweep
sweeping m n major-step minor-step a b f =
    record { majors = m; minors = n; pace = major-step; sidestep = minor-step; run = a; rise = b; falling = f; top = r a b (m - 1) }

unfoldable pub sweep_of : Shape → Direction → Sweep
sweep_of sh d =
    cond (shallow d)
    (sweeping sh.width sh.height 1 sh.stride (nat_abs d.p) (nat_abs d.q) (opposite d))
    (sweeping sh.height sh.width sh.stride 1 (nat_abs d.q) (nat_abs d.p) (opposite d))

-- a sweep without a line
abbrev pub no_sweep : Sweep
no_sweep = record { majors = 0; minors = 0; pace = 0; sidestep = 0; run = 0; rise = 0; falling = false; top = 0 }

abbrev pub sweep_for : Shape → Direction → Sweep
sweep_for sh d = cond (is_frame sh && is_direction d) (sweep_of sh d) no_sweep

unfoldable pub shift : Sweep → ℕ → ℕ
shift s i = cond s.falling (r s.run s.rise i) (s.top - r s.run s.rise i)

abbrev pub shift_at : Sweep → ℕ → ℕ
shift_at s i = cond (within 1 steepest s.run && leb s.rise s.run && leb i longest) (shift s i) 0

unfoldable pub low : Sweep → ℕ
low s = cond s.falling 0 s.top

abbrev pub lines : Sweep → ℕ
lines s = s.minors + s.top

unfoldable pub hit : Sweep → ℕ → ℕ → Bool
hit s u i = leb (shift s i) u && ltb u (shift s i + s.minors)

unfoldable pub cell : Sweep → ℕ → ℕ → ℕ
cell s u i = i * s.pace + (u - shift s i) * s.sidestep

unfoldable pub cells : Sweep → ℕ → ℕ → List ℕ
cells s u n = those (hit s u) (cell s u) n

unfoldable pub value : Sweep → List ℕ → ℕ → ℕ → ℕ
value s f u i = cond (hit s u i) (get_or f (cell s u i) 0) 0

abbrev pub values_at : List ℕ → List ℕ → List ℕ
values_at f cs = map (λ (c : ℕ). get_or f c 0) cs

pub record Accepted (sh : Shape) (d : Direction) : Type 0 where
  pub frame : is_frame sh ≡ true
  pub direction : is_direction d ≡ true

pub record Sane (s : Sweep) : Type 0 where
  pub some : 1 ≤ s.majors
  pub majors : s.majors ≤ longest
  pub wide : 1 ≤ s.minors
  pub minors : s.minors ≤ longest
  pub pace : s.pace ≤ widest
  pub step : 1 ≤ s.sidestep
  pub sidestep : s.sidestep ≤ widest
  pub slow : s.rise ≤ s.run
  pub moves : 1 ≤ s.run
  pub run : s.run ≤ steepest
  pub top : s.top ≡ r s.run s.rise (s.majors - 1)

abbrev pub Reach : Sweep → ℕ → Type 0
Reach s n = (s.majors - 1) * s.pace + (s.minors - 1) * s.sidestep < n

-- the smaller of the two steps is 1, and the larger passes a whole row
abbrev pub Apart : Sweep → Type 0
Apart s = ((s.pace ≡ 1) × (s.majors ≤ s.sidestep)) ⊎ ((s.sidestep ≡ 1) × (s.minors ≤ s.pace))
