-- The call `sums_of_frame`: which rules it checks, and what it leaves.
use Rattle.std.specs.Prelude.{◌≡◌, not, List, [], ◌∷◌, ℕ, ◌+◌, ◌-◌, ltb, length}
use Rattle.answer.specs.declared.Answer.{Answer}
use Rattle.answer.specs.Limits.{longest}
use Rattle.answer.specs.Rules.{Rule, rule, answer, after, outside}
use Rattle.frame.specs.declared.direction.Direction.{Direction}
use Rattle.frame.specs.declared.shape.Shape.{Shape}
use Rattle.frame.specs.Direction.{is_direction}
use Rattle.frame.specs.Shape.{is_frame, needed, scratch_for}
use Rattle.sizes.specs.Sums.{frame_sums}

-- a sums slice of so many entries, a source of size bytes and a scratch of spare bytes
abbrev pub frame_rules : Shape → Direction → ℕ → ℕ → ℕ → List Rule
frame_rules sh d entries size spare =
    rule (not (is_frame sh)) 1 0
    ∷ rule (not (is_direction d)) 2 0
    ∷ rule (outside 2 (longest + 1) entries) 4 0
    ∷ rule (ltb size (needed sh)) 5 (needed sh)
    ∷ rule (ltb spare (scratch_for sh)) 7 (scratch_for sh)
    ∷ []

-- 'Bins and rest go to a lent slice of exactly K+1 64-bit numbers, the rest last.' 'the other numbered calls hand back 0'
-- What scratch holds after a done call is left open, its length apart.
pub record SumsFrame (src : List ℕ) (sh : Shape) (d : Direction) (sums sums' scratch scratch' : List ℕ) (a : Answer) : Type 0 where
  pub answers : a ≡ answer (frame_rules sh d (length sums) (length src) (length scratch)) 0
  pub written : sums' ≡ after a (frame_sums src sh d (length sums - 1)) sums
  pub scratch_kept : (a.number ≡ 0 → ⊥) → scratch' ≡ scratch
  pub scratch_length : length scratch' ≡ length scratch
