-- Rows of a frame, the lines that cross them, and what a pass leaves. Pixel (i, k) has the major coordinate i, which ascends along a line, and the minor
-- coordinate k. It stands at byte A i k, and its line has the index k + h i; the definitions serve any such A and h.
--   byte_of s i k          the byte of pixel (i, k) in the frame of a sweep
--   lane_at h A N g u i    line u's pixel at the major coordinate i of the frame g, which has N minor coordinates; 0 where it has none
--   lane h A N M g u       these, at each of the M major coordinates
--   PixelsAre A M N F      every pixel is F i k; every other byte is as it was
--   row_at forth M t       of M rows the one that comes after t others: from the first on where `forth`, else from the last back
--   rows_by S              the starts of rows that stand S apart
--   RowsAre st N lo hi F   the rows lo up to, not including, hi, which start at st i, have the pixels F i k; every other byte is as it was
--   OpensLines s L         every line of the sweep s is opened with windows of L pixels
--   can_open sh d L n      rules 1, 2 and 5 accept the frame, the direction and a buffer of n bytes, and L is not 0
--   OpensIf t s L          where the test t holds, every line of the sweep s is opened with windows of L pixels; else nothing changes
--   OpensDown, OpensShallow    what `open_down` and `open_shallow` promise of the frame that stands in a buffer
-- Laws: rows/proofs/Rowwise, Lines, Acceptance.
use Rattle.std.specs.Prelude.{◌≡◌, Bool, true, false, cond, ◌&&◌, List, ℕ, ◌+◌, ◌-◌, ◌*◌, ◌≤◌, ◌<◌, leb, ltb, length, get_or}
use Rattle.lists.specs.Tables.{table}
use Rattle.line.specs.Windows.{opened}
use Rattle.frame.specs.declared.direction.Direction.{Direction}
use Rattle.frame.specs.declared.shape.Shape.{Shape}
use Rattle.frame.specs.declared.sweep.Sweep.{Sweep}
use Rattle.frame.specs.Direction.{is_direction, shallow, goes_down}
use Rattle.frame.specs.Shape.{is_frame, needed}
use Rattle.frame.specs.Sweep.{shift, sweep_of}

abbrev pub byte_of : Sweep → ℕ → ℕ → ℕ
byte_of s i k = i * s.pace + k * s.sidestep

unfoldable pub lane_at : (ℕ → ℕ) → (ℕ → ℕ → ℕ) → ℕ → List ℕ → ℕ → ℕ → ℕ
lane_at h A N g u i = cond (leb (h i) u && ltb u (h i + N)) (get_or g (A i (u - h i)) 0) 0

abbrev pub lane : (ℕ → ℕ) → (ℕ → ℕ → ℕ) → ℕ → ℕ → List ℕ → ℕ → List ℕ
lane h A N M g u = table (lane_at h A N g u) M

pub record PixelsAre (A : ℕ → ℕ → ℕ) (M N : ℕ) (F : ℕ → ℕ → ℕ) (before after : List ℕ) : Type 0 where
  pub same : length after ≡ length before
  pub within : (i k : ℕ) → i < M → k < N → get_or after (A i k) 0 ≡ F i k
  pub other : (x : ℕ) → ((i k : ℕ) → i < M → k < N → x ≡ A i k → ⊥) → get_or after x 0 ≡ get_or before x 0

unfoldable pub row_at : Bool → ℕ → ℕ → ℕ
row_at forth M t = cond forth t (M - 1 - t)

abbrev pub rows_by : ℕ → ℕ → ℕ
rows_by S i = i * S

pub record RowsAre (st : ℕ → ℕ) (N lo hi : ℕ) (F : ℕ → ℕ → ℕ) (before after : List ℕ) : Type 0 where
  pub same : length after ≡ length before
  pub within : (i k : ℕ) → lo ≤ i → i < hi → k < N → get_or after (st i + k) 0 ≡ F i k
  pub other : (x : ℕ) → ((i k : ℕ) → lo ≤ i → i < hi → k < N → x ≡ st i + k → ⊥) → get_or after x 0 ≡ get_or before x 0

abbrev pub OpensLines : Sweep → ℕ → List ℕ → List ℕ → Type 0
OpensLines s L before after =
    PixelsAre (byte_of s) s.majors s.minors (λ (i k : ℕ). get_or (opened (lane (shift s) (byte_of s) s.minors s.majors before (k + shift s i)) L) i 0)
    before after

-- ---- what the two openings promise, of the frame of shape sh that stands in a buffer

abbrev pub can_open : Shape → Direction → ℕ → ℕ → Bool
can_open sh d L n = is_frame sh && (is_direction d && (leb 1 L && leb (needed sh) n))

pub record OpensIf (t : Bool) (s : Sweep) (L : ℕ) (before after : List ℕ) : Type 0 where
  pub done : t ≡ true → OpensLines s L before after
  pub none : t ≡ false → after ≡ before

abbrev pub OpensDown : Shape → Direction → ℕ → List ℕ → List ℕ → Type 0
OpensDown sh d L before after = OpensIf (can_open sh d L (length before) && goes_down d) (sweep_of sh d) L before after

abbrev pub OpensShallow : Shape → Direction → ℕ → List ℕ → List ℕ → Type 0
OpensShallow sh d L before after = OpensIf (can_open sh d L (length before) && shallow d) (sweep_of sh d) L before after
