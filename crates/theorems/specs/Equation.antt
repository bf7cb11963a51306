-- Demand 2 in facts, for who would rather not read a computing definition: what a value must be, not how it is found.
--   Holding n L x i       the window of L pixels from i on lies wholly on a line of n pixels and holds pixel x
--   Darkest f i L v       v is the darkest of the L pixels from i on
--   Dilates e L x v       v is the greatest of those values i of e with x − L + 1 ≤ i ≤ x
--   Opens f L x v         equation (3): v is the highest of the darkest values of the windows that hold x, and 0 where no window fits
--   StandsFor d L k       the length L stands for k pixels in the direction d
--   OnItsLine sh d x y j  pixel (x, y) is number j of its own line
--   OpenedOn f sh d k x y v    v is pixel (x, y) of the frame f opened in direction d with windows of k pixels
--   PartOf src from n part    part is the n bytes of the slice src from byte `from` on, themselves: in the same memory, at the same place there
--   Highest F v           v is the greatest of F at the sixteen direction numbers
--   Leads F n             n is the lowest direction number at which F is greatest
-- Laws: theorems/proofs/Openings.
use Rattle.std.specs.Prelude.{◌≡◌, List, ◌⊎◌, ℕ, ◌+◌, ◌-◌, ◌*◌, ◌≤◌, ◌<◌, max, nat_abs, length, get_or}
use Rattle.std.specs.Borrow.{Bor}
use Rattle.frame.specs.declared.direction.Direction.{Direction}
use Rattle.frame.specs.declared.shape.Shape.{Shape}
use Rattle.frame.specs.Length.{square}
use Rattle.frame.specs.Lines.{at, line_of, pixels, line_read}

-- 'windows of L neighbouring pixels that hold it and lie wholly on its line'
pub record Holding (n L x i : ℕ) : Type 0 where
  pub fits : i + L ≤ n
  pub from : i ≤ x
  pub to : x < i + L

-- 'the windows' darkest values'
pub record Darkest (f : List ℕ) (i L v : ℕ) : Type 0 where
  pub below : (j : ℕ) → i ≤ j → j < i + L → v ≤ get_or f j 0
  pub reached : (j : ℕ) × (i ≤ j) × (j < i + L) × (get_or f j 0 ≡ v)

-- 'value x is the greatest of those values i that exist with x−L+1 ≤ i ≤ x'
pub record Dilates (e : List ℕ) (L x v : ℕ) : Type 0 where
  pub above : (i : ℕ) → i < length e → i ≤ x → x < i + L → get_or e i 0 ≤ v
  pub reached : (i : ℕ) × (i < length e) × (i ≤ x) × (x < i + L) × (get_or e i 0 ≡ v)

-- 'at each pixel, over all windows of L neighbouring pixels that hold it and lie wholly on its line, the highest of the windows' darkest values, and 0
-- where no window fits'
pub record Opens (f : List ℕ) (L x v : ℕ) : Type 0 where
  pub above : (i w : ℕ) → Holding (length f) L x i → Darkest f i L w → w ≤ v
  pub reached : ((i : ℕ) × Holding (length f) L x i × Darkest f i L v) ⊎ (((i : ℕ) → Holding (length f) L x i → ⊥) × (v ≡ 0))

-- 'k is the smallest count from 1 up with (k−1)²·(p²+q²) ≥ (L−1)²·m², m the greater of |p| and |q|'
pub record StandsFor (d : Direction) (L k : ℕ) : Type 0 where
  pub some : 1 ≤ k
  pub reaches : square (L - 1) * square (max (nat_abs d.p) (nat_abs d.q)) ≤ square (k - 1) * (square (nat_abs d.p) + square (nat_abs d.q))
  pub smallest : (j : ℕ) → 1 ≤ j → j < k
      → square (j - 1) * (square (nat_abs d.p) + square (nat_abs d.q)) < square (L - 1) * square (max (nat_abs d.p) (nat_abs d.q))

pub record OnItsLine (sh : Shape) (d : Direction) (x y j : ℕ) : Type 0 where
  pub below : j < length (pixels sh d (line_of d x y))
  pub is : get_or (pixels sh d (line_of d x y)) j (at 0 0) ≡ at x y

-- v is what equation (3) says of pixel (x, y) of the frame f at its place on its own line in direction d, as read
pub record OpenedOn (f : List ℕ) (sh : Shape) (d : Direction) (k x y v : ℕ) : Type 0 where
  pub j : ℕ
  pub stands : OnItsLine sh d x y j
  pub opens : Opens (line_read f sh d (line_of d x y)) k j v

-- 'the W bytes themselves in the caller's slice'
pub record PartOf (src : Bor (List ℕ)) (from n : ℕ) (part : Bor (List ℕ)) : Type 0 where
  pub memory : part.ref_ptr.0 ≡ src.ref_ptr.0
  pub begins : part.ref_ptr.1 ≡ src.ref_ptr.1 + from
  pub size : length part.now ≡ n
  pub bytes : (x : ℕ) → x < n → get_or part.now x 0 ≡ get_or src.now (from + x) 0

-- 'the highest over sixteen directions'
pub record Highest (F : ℕ → ℕ) (v : ℕ) : Type 0 where
  pub above : (n : ℕ) → n < 16 → F n ≤ v
  pub reached : (n : ℕ) × (n < 16) × (F n ≡ v)

-- 'its direction': 'the lowest number that reaches it'
pub record Leads (F : ℕ → ℕ) (n : ℕ) : Type 0 where
  pub numbered : n < 16
  pub above : (k : ℕ) → k < 16 → F k ≤ F n
  pub lowest : (k : ℕ) → k < n → F k < F n
