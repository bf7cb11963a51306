-- The shape of a frame (document 01, 'The frame').
--   shape W H stride    a frame's three numbers
--   within lo hi n      n is lo to hi
--   is_frame sh         the three numbers are in their ranges
--   needed sh           the bytes that a frame of this shape needs
--   scratch_for sh      the bytes of scratch that calls on its lines need
--   gapless sh          the same pixels without gaps
-- Laws: frame/proofs/Shapes.
use Rattle.std.specs.Prelude.{Bool, not, ◌&&◌, ℕ, ◌+◌, ◌-◌, ◌*◌, max}
use Rattle.answer.specs.Limits.{longest, widest}
use Rattle.answer.specs.Rules.{outside}
use Rattle.frame.specs.declared.shape.Shape.{Shape}

abbrev pub shape : ℕ → ℕ → ℕ → Shape
shape W H stride = record { width = W; height = H; stride = stride }

abbrev pub within : ℕ → ℕ → ℕ → Bool
within lo hi n = not (outside lo hi n)

-- 'W and H are 1 to 4,096; the stride is W to 65,535.'
abbrev pub is_frame : Shape → Bool
is_frame sh = within 1 longest sh.width && within 1 longest sh.height && within sh.width widest sh.stride

-- 'The slice needs (H−1)·stride + W bytes and may be longer.'
abbrev pub needed : Shape → ℕ
needed sh = (sh.height - 1) * sh.stride + sh.width

-- 'scratch shorter than 8·max(W, H) bytes'
abbrev pub scratch_for : Shape → ℕ
scratch_for sh = 8 * max sh.width sh.height

abbrev pub gapless : Shape → Shape
gapless sh = shape sh.width sh.height sh.width
