-- The entry `fibre_open_frame`, for the camera's host, written in C.
--   one_number a      the one number that an answer becomes
use Rattle.std.specs.Prelude.{◌≡◌, List, ℕ, ◌+◌, ◌*◌, ◌%◌, ◌^◌}
use Rattle.answer.specs.declared.Answer.{Answer}
use Rattle.frame.specs.declared.direction.Direction.{Direction}
use Rattle.frame.specs.declared.shape.Shape.{Shape}
use Rattle.opening.specs.Frames.{OpensFrame}

-- 'the refusal number times 2^32, plus the figure': of a figure of 2^32 or more, which no rule of the call has, the rest by 2^32
abbrev pub one_number : Answer → ℕ
one_number a = a.number * 2 ^ 32 + a.figure % 2 ^ 32

-- 'calls the frame opening with numbers and byte slices and gets one 64-bit number back: the refusal number times 2^32, plus the figure'
pub record HostOpens (f : List ℕ) (sh : Shape) (d : Direction) (L : ℕ) (g g' t t' : List ℕ) (n : ℕ) : Type 0 where
  pub a : Answer
  pub opens : OpensFrame f sh d L g g' t t' a
  pub gives : n ≡ a.number * 2 ^ 32 + a.figure
