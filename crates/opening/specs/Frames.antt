-- The call `open_frame`: which rules it checks, and what it leaves.
use Rattle.std.specs.Prelude.{◌≡◌, not, List, [], ◌∷◌, ℕ, ltb, length}
use Rattle.answer.specs.declared.Answer.{Answer}
use Rattle.answer.specs.Limits.{longest}
use Rattle.answer.specs.Rules.{Rule, rule, answer, outside}
use Rattle.frame.specs.declared.direction.Direction.{Direction}
use Rattle.frame.specs.declared.shape.Shape.{Shape}
use Rattle.frame.specs.Direction.{is_direction}
use Rattle.frame.specs.Shape.{is_frame, needed, scratch_for}
use Rattle.frame.specs.Length.{pixels_for}
use Rattle.frame.specs.Painted.{Painted}
use Rattle.opening.specs.Pixels.{opened_pixel}

-- rules 1, 2, 3, 5, 6 and 7
abbrev pub open_frame_rules : Shape → Direction → ℕ → ℕ → ℕ → ℕ → List Rule
open_frame_rules sh d L size room spare =
    rule (not (is_frame sh)) 1 0
    ∷ rule (not (is_direction d)) 2 0
    ∷ rule (outside 1 longest L) 3 0
    ∷ rule (ltb size (needed sh)) 5 (needed sh)
    ∷ rule (ltb room (needed sh)) 6 (needed sh)
    ∷ rule (ltb spare (scratch_for sh)) 7 (scratch_for sh)
    ∷ []

-- 'For a frame call, length L in direction (p, q) now means k pixels'
-- f is the frame, g the destination and t the scratch. What scratch holds after a done call is left open, its length apart.
pub record OpensFrame (f : List ℕ) (sh : Shape) (d : Direction) (L : ℕ) (g g' t t' : List ℕ) (a : Answer) : Type 0 where
  pub answers : a ≡ answer (open_frame_rules sh d L (length f) (length g) (length t)) 0
  pub done : a.number ≡ 0 → Painted sh (opened_pixel f sh d (pixels_for d L)) g g'
  pub refused : (a.number ≡ 0 → ⊥) → (g' ≡ g) × (t' ≡ t)
  pub scratch_length : length t' ≡ length t
