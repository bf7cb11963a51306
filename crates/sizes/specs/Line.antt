-- The call `sums_of_line`: which rules it checks, and what it leaves.
use Rattle.std.specs.Prelude.{◌≡◌, List, [], ◌∷◌, ℕ, ◌+◌, ◌-◌, ◌*◌, ltb, length}
use Rattle.answer.specs.declared.Answer.{Answer}
use Rattle.answer.specs.Limits.{longest}
use Rattle.answer.specs.Rules.{Rule, rule, answer, after, outside}
use Rattle.sizes.specs.Sums.{line_sums}

-- n pixels, a sums slice of so many entries, and a scratch of spare bytes
abbrev pub line_rules : ℕ → ℕ → ℕ → List Rule
line_rules n entries spare =
    rule (outside 1 longest n) 1 0
    ∷ rule (outside 2 (longest + 1) entries) 4 0
    ∷ rule (ltb spare (8 * n)) 7 (8 * n)
    ∷ []

-- 'Bins and rest go to a lent slice of exactly K+1 64-bit numbers, the rest last.' 'the other numbered calls hand back 0'
-- What scratch holds after a done call is left open, its length apart.
pub record SumsLine (f sums sums' scratch scratch' : List ℕ) (a : Answer) : Type 0 where
  pub answers : a ≡ answer (line_rules (length f) (length sums) (length scratch)) 0
  pub written : sums' ≡ after a (line_sums f (length sums - 1)) sums
  pub scratch_kept : (a.number ≡ 0 → ⊥) → scratch' ≡ scratch
  pub scratch_length : length scratch' ≡ length scratch
