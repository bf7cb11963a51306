-- The lines of a frame in a direction (document 01, 'Directions and their lines').
--   r a b i             how far a line has moved aside at i, rounded
--   line_of d x y       the number of the line that pixel (x, y) is on
--   eq_z j k            the line numbers j and k are the same
--   at x y              the pixel (x, y)
--   pixel_on d k x y    the pixel (x, y) where it is on line k, else nothing
--   pixels sh d k       the pixels of line k of a frame of shape sh, in line order
--   no_line sh d k      the frame has no such line: it has no pixels (empty)
--   place sh c          the byte of pixel c
--   gathered f sh d k   the bytes of line k in the frame f, in line order
--   line_read f sh d k  what a call reads of line k
--   frame_light f sh    the total of a frame's pixels
--   climb sh d          how far a line moves aside from one end of the frame to the other
--   first_line, line_count  the lowest line number of a frame, and how many lines it has; lines_of has both
--   line_number sh d u  the number of line u, counted from the first
--   same_pixel c b      c and b are the same pixel
--   index_in c cs       where the pixel c stands in a list of pixels, counted from 0
-- Laws: frame/proofs/Pixels, Spots, Opposites, Light.
use Rattle.std.specs.Prelude.{Bool, true, false, cond, ◌&&◌, List, [], ◌∷◌, map, ℕ, suc, ◌+◌, ◌-◌, ◌*◌, ◌/◌, eqb, ltb, get_or, ℤ, pos, negsuc, neg_ℤ, nat_abs, ◌+ℤ◌, ◌-ℤ◌, ◌*ℤ◌}
use Rattle.lists.specs.Tables.{each, keep, table}
use Rattle.lists.specs.Extremes.{total}
use Rattle.frame.specs.declared.direction.Direction.{Direction}
use Rattle.frame.specs.declared.lines.Lines.{Lines}
use Rattle.frame.specs.declared.shape.Shape.{Shape}
use Rattle.frame.specs.Direction.{shallow, opposite, sign, is_direction}
use Rattle.frame.specs.Shape.{is_frame}

-- 'Shallow: r(x) = (2·x·|q| + |p|) / (2·|p|), rounded down.' 'Steep: r(y) = (2·y·|p| + |q|) / (2·|q|), rounded down.'
unfoldable pub r : ℕ → ℕ → ℕ → ℕ
r a b i = (2 * i * b + a) / (2 * a)

-- 'Pixel (x, y) is on line y − s·r(x).' 'Pixel (x, y) is on line x − s·r(y).'
abbrev pub line_of : Direction → ℕ → ℕ → ℤ
line_of d x y =
    cond (shallow d)
    (pos y -ℤ sign d *ℤ pos (r (nat_abs d.p) (nat_abs d.q) x))
    (pos x -ℤ sign d *ℤ pos (r (nat_abs d.q) (nat_abs d.p) y))

abbrev pub eq_z : ℤ → ℤ → Bool
eq_z (pos a) (pos b) = eqb a b
eq_z (pos a) (negsuc b) = false
eq_z (negsuc a) (pos b) = false
eq_z (negsuc a) (negsuc b) = eqb a b

pub record Pixel : Type 0 where
  pub x : ℕ
  pub y : ℕ

abbrev pub at : ℕ → ℕ → Pixel
at x y = record { x = x; y = y }

abbrev pub pixel_on : Direction → ℤ → ℕ → ℕ → List Pixel
pixel_on d k x y = keep (eq_z (line_of d x y) k) (at x y)

-- 'Along a line x ascends.' 'Along a line y ascends.'
abbrev pub pixels : Shape → Direction → ℤ → List Pixel
pixels sh d k =
    cond (shallow d)
    (each (λ (x : ℕ). each (λ (y : ℕ). pixel_on d k x y) sh.height) sh.width)
    (each (λ (y : ℕ). each (λ (x : ℕ). pixel_on d k x y) sh.width) sh.height)

-- 'the frame has no such line'
abbrev pub empty : List Pixel → Bool
empty [] = true
empty (c ∷ cs) = false

abbrev pub no_line : Shape → Direction → ℤ → Bool
no_line sh d k = empty (pixels sh d k)

-- 'Pixel (x, y) is the byte at y·stride + x'
abbrev pub place : Shape → Pixel → ℕ
place sh c = c.y * sh.stride + c.x

abbrev pub gathered : List ℕ → Shape → Direction → ℤ → List ℕ
gathered f sh d k = map (λ (c : Pixel). get_or f (place sh c) 0) (pixels sh d k)

-- what every call that reads a line reads: its pixels as they are
abbrev pub line_read : List ℕ → Shape → Direction → ℤ → List ℕ
line_read f sh d k = gathered f sh d k

-- 'the total of the source pixels', row by row
abbrev pub frame_light : List ℕ → Shape → ℕ
frame_light f sh = total (table (λ (y : ℕ). total (table (λ (x : ℕ). get_or f (place sh (at x y)) 0) sh.width)) sh.height)

-- 'Line numbers are signed and ascend.'
abbrev pub climb : Shape → Direction → ℕ
climb sh d = cond (shallow d) (r (nat_abs d.p) (nat_abs d.q) (sh.width - 1)) (r (nat_abs d.q) (nat_abs d.p) (sh.height - 1))

abbrev pub first_line : Shape → Direction → ℤ
first_line sh d = cond (opposite d) (pos 0) (neg_ℤ (pos (climb sh d)))

abbrev pub line_count : Shape → Direction → ℕ
line_count sh d = cond (shallow d) sh.height sh.width + climb sh d

-- the lines of a frame that rules 1 and 2 accept; of another, none from 0 on
abbrev pub lines_of : Shape → Direction → Lines
lines_of sh d =
    cond (is_frame sh && is_direction d)
    (record { first = first_line sh d; count = line_count sh d })
    (record { first = pos 0; count = 0 })

-- 0 where there is no such line
abbrev pub line_number : Shape → Direction → ℕ → ℤ
line_number sh d u = cond (ltb u (lines_of sh d).count) (first_line sh d +ℤ pos u) (pos 0)

abbrev pub same_pixel : Pixel → Pixel → Bool
same_pixel c b = eqb c.x b.x && eqb c.y b.y

unfoldable pub index_in : Pixel → List Pixel → ℕ
index_in c [] = 0
index_in c (b ∷ cs) = cond (same_pixel c b) 0 (suc (index_in c cs))
