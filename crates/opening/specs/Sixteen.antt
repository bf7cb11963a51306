-- The call `highest` ('one call with two destinations'): which rules it checks, and what it leaves.
use Rattle.std.specs.Prelude.{◌≡◌, not, List, [], ◌∷◌, ℕ, ltb, length}
use Rattle.answer.specs.declared.Answer.{Answer}
use Rattle.answer.specs.Limits.{longest}
use Rattle.answer.specs.Rules.{Rule, rule, answer, outside}
use Rattle.frame.specs.declared.shape.Shape.{Shape}
use Rattle.frame.specs.Shape.{is_frame, needed, scratch_for}
use Rattle.frame.specs.Painted.{Painted}
use Rattle.opening.specs.Pixels.{highest_at, direction_at}

-- rules 1, 3, 5, 6 and 7; '6 is given when either destination is short, the brightness one first; the bytes needed are the same'
abbrev pub highest_rules : Shape → ℕ → ℕ → ℕ → ℕ → ℕ → List Rule
highest_rules sh L size bright numbers spare =
    rule (not (is_frame sh)) 1 0
    ∷ rule (outside 1 longest L) 3 0
    ∷ rule (ltb size (needed sh)) 5 (needed sh)
    ∷ rule (ltb bright (needed sh)) 6 (needed sh)
    ∷ rule (ltb numbers (needed sh)) 6 (needed sh)
    ∷ rule (ltb spare (scratch_for sh)) 7 (scratch_for sh)
    ∷ []

-- f is the frame, g the destination of the brightness, h that of the directions' numbers, and t the scratch. What scratch holds after a done call is left open,
-- its length apart.
pub record FindsHighest (f : List ℕ) (sh : Shape) (L : ℕ) (g g' h h' t t' : List ℕ) (a : Answer) : Type 0 where
  pub answers : a ≡ answer (highest_rules sh L (length f) (length g) (length h) (length t)) 0
  pub brightness : a.number ≡ 0 → Painted sh (highest_at f sh L) g g'
  pub directions : a.number ≡ 0 → Painted sh (direction_at f sh L) h h'
  pub refused : (a.number ≡ 0 → ⊥) → (g' ≡ g) × (h' ≡ h) × (t' ≡ t)
  pub scratch_length : length t' ≡ length t
