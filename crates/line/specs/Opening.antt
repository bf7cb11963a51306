-- The call `open_line`: which rules it checks, and what it leaves; and `open_in_place`, which has none.
--   opened_in_place f L  what `open_in_place` makes of the line f
use Rattle.std.specs.Prelude.{◌≡◌, cond, List, [], ◌∷◌, ℕ, ◌*◌, ltb, length}
use Rattle.lists.specs.Stores.{front}
use Rattle.answer.specs.declared.Answer.{Answer}
use Rattle.answer.specs.Limits.{longest}
use Rattle.answer.specs.Rules.{Rule, rule, answer, after, outside}
use Rattle.line.specs.Windows.{opened}

-- n pixels, windows of L, a destination of room bytes and a scratch of spare bytes
abbrev pub open_rules : ℕ → ℕ → ℕ → ℕ → List Rule
open_rules n L room spare =
    rule (outside 1 longest n) 1 0
    ∷ rule (outside 1 longest L) 3 0
    ∷ rule (ltb room n) 6 n
    ∷ rule (ltb spare (8 * n)) 7 (8 * n)
    ∷ []

-- 'the other numbered calls hand back 0'; 'write their values to the front of the destination; what follows is unchanged'.
-- What scratch holds after a done call is left open, its length apart.
pub record OpensLine (src : List ℕ) (L : ℕ) (dst dst' scratch scratch' : List ℕ) (a : Answer) : Type 0 where
  pub answers : a ≡ answer (open_rules (length src) L (length dst) (length scratch)) 0
  pub written : dst' ≡ after a (front (opened src L) dst) dst
  pub scratch_kept : (a.number ≡ 0 → ⊥) → scratch' ≡ scratch
  pub scratch_length : length scratch' ≡ length scratch

abbrev pub opened_in_place : List ℕ → ℕ → List ℕ
opened_in_place f L = cond (ltb L 1) f (opened f L)
