-- The call `gather`: which rules it checks, and what it leaves.
use Rattle.std.specs.Prelude.{◌≡◌, not, List, [], ◌∷◌, ℕ, ltb, length, ℤ}
use Rattle.lists.specs.Stores.{front}
use Rattle.answer.specs.declared.Answer.{Answer}
use Rattle.answer.specs.Rules.{Rule, rule, answer, after}
use Rattle.frame.specs.declared.direction.Direction.{Direction}
use Rattle.frame.specs.declared.shape.Shape.{Shape}
use Rattle.frame.specs.Direction.{is_direction}
use Rattle.frame.specs.Shape.{is_frame, needed}
use Rattle.frame.specs.Lines.{pixels, no_line, line_read}

-- line k of a frame of size bytes, into a destination of room bytes
abbrev pub gather_rules : Shape → Direction → ℤ → ℕ → ℕ → List Rule
gather_rules sh d k size room =
    rule (not (is_frame sh)) 1 0
    ∷ rule (not (is_direction d)) 2 0
    ∷ rule (no_line sh d k) 2 0
    ∷ rule (ltb size (needed sh)) 5 (needed sh)
    ∷ rule (ltb room (length (pixels sh d k))) 6 (length (pixels sh d k))
    ∷ []

-- 'Gathering a line by its number writes its pixels, in line order, to the front of a destination and hands back their count; the rest of it is unchanged.'
pub record Gathers (src : List ℕ) (sh : Shape) (d : Direction) (k : ℤ) (dst dst' : List ℕ) (a : Answer) : Type 0 where
  pub answers : a ≡ answer (gather_rules sh d k (length src) (length dst)) (length (pixels sh d k))
  pub written : dst' ≡ after a (front (line_read src sh d k) dst) dst
