-- A frame treated line by line: 'A frame is opened line by line in one direction' (document 01), for any filter φ of a line.
-- Laws: frame/proofs/ByLines.
use Rattle.std.specs.Prelude.{◌≡◌, List, ℕ, length, get_or, ℤ}
use Rattle.frame.specs.declared.direction.Direction.{Direction}
use Rattle.frame.specs.declared.shape.Shape.{Shape}
use Rattle.frame.specs.Lines.{gathered, line_read}
use Rattle.frame.specs.Painted.{Gap}

-- every line of g' is φ of that line of f as read; 'Bytes between rows and after the last pixel of a destination never change.'
pub record ByLines (φ : List ℕ → List ℕ) (f : List ℕ) (sh : Shape) (d : Direction) (g g' : List ℕ) : Type 0 where
  pub same : length g' ≡ length g
  pub lines : (k : ℤ) → gathered g' sh d k ≡ φ (line_read f sh d k)
  pub gaps : (i : ℕ) → Gap sh i → get_or g' i 0 ≡ get_or g i 0
