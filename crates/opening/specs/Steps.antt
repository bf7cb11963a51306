-- The steps of the calls: what private contracts need.
--   Ready sh d L size room           what the rules have shown of a call that is done; of two destinations, room is the shorter's
--   LineOpened f sh d L k v          line k of the frame f, opened, stands at the front of v
--   FrameClaimed sh F number         the frame F claims pixels for a number: the best so far, g, is raised to F, and each pixel that rises gets the number as its
--                                    holder, in h
-- Laws: opening/proofs/Calls, Lines.
use Rattle.std.specs.Prelude.{◌≡◌, List, ℕ, ◌≤◌, ◌<◌, max, ℤ, length, get_or}
use Rattle.answer.specs.Limits.{longest}
use Rattle.line.specs.Windows.{opened}
use Rattle.frame.specs.declared.direction.Direction.{Direction}
use Rattle.frame.specs.declared.shape.Shape.{Shape}
use Rattle.frame.specs.Shape.{needed}
use Rattle.frame.specs.Lines.{at, pixels, place, line_read}
use Rattle.frame.specs.Painted.{Painted}
use Rattle.frame.specs.Sweep.{Accepted}
use Rattle.gathering.specs.Claiming.{claims}

pub record Ready (sh : Shape) (d : Direction) (L size room : ℕ) : Type 0 where
  pub ok : Accepted sh d
  pub some : 1 ≤ L
  pub most : L ≤ longest
  pub source : needed sh ≤ size
  pub target : needed sh ≤ room

pub record LineOpened (f : List ℕ) (sh : Shape) (d : Direction) (L : ℕ) (k : ℤ) (v : List ℕ) : Type 0 where
  pub room : length (pixels sh d k) ≤ length v
  pub is : (j : ℕ) → j < length (pixels sh d k) → get_or v j 0 ≡ get_or (opened (line_read f sh d k) L) j 0

pub record FrameClaimed (sh : Shape) (F : ℕ → ℕ → ℕ) (number : ℕ) (g g' h h' : List ℕ) : Type 0 where
  pub raised : Painted sh (λ (x y : ℕ). max (get_or g (place sh (at x y)) 0) (F x y)) g g'
  pub holders : Painted sh (λ (x y : ℕ). claims (get_or g (place sh (at x y)) 0) number (F x y) (get_or h (place sh (at x y)) 0)) h h'
