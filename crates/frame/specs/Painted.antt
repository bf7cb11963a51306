-- A frame painted pixel by pixel.
--   Gap sh i             byte i is no pixel's of a frame of shape sh: it stands between rows, or after the last pixel
--   Painted sh F g g'    g' is g with F x y at each pixel (x, y) of a frame of shape sh
-- Laws: frame/proofs/Paintings.
use Rattle.std.specs.Prelude.{◌≡◌, List, ℕ, ◌<◌, length, get_or}
use Rattle.frame.specs.declared.shape.Shape.{Shape}
use Rattle.frame.specs.Lines.{at, place}

abbrev pub Gap : Shape → ℕ → Type 0
Gap sh i = (x y : ℕ) → x < sh.width → y < sh.height → i ≡ place sh (at x y) → ⊥

-- 'Bytes between rows and after the last pixel of a destination never change.'
pub record Painted (sh : Shape) (F : ℕ → ℕ → ℕ) (g g' : List ℕ) : Type 0 where
  pub same : length g' ≡ length g
  pub pixels : (x y : ℕ) → x < sh.width → y < sh.height → get_or g' (place sh (at x y)) 0 ≡ F x y
  pub gaps : (i : ℕ) → Gap sh i → get_or g' i 0 ≡ get_or g i 0
