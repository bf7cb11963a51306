-- The call `list`: which rules it checks, and what it leaves.
--   list_rules n spare room entries   rules 1, 7 and 8, in the table's order
--   ListsLine                         what `list` hands back and leaves
-- Laws: bright/proofs/Once (lists_once: one input allows one answer and one table).
use Rattle.std.specs.Prelude.{◌≡◌, List, [], ◌∷◌, ℕ, ◌*◌, ltb, length}
use Rattle.lists.specs.Stores.{front}
use Rattle.answer.specs.declared.Answer.{Answer}
use Rattle.answer.specs.Limits.{longest}
use Rattle.answer.specs.Rules.{Rule, rule, answer, after, outside}
use Rattle.bright.specs.declared.Nested.{Nested}
use Rattle.bright.specs.Stretches.{stretches}
use Rattle.bright.specs.Nesting.{records}

-- n pixels, a scratch of spare bytes, a table of room entries, and the entries that the line needs
abbrev pub list_rules : ℕ → ℕ → ℕ → ℕ → List Rule
list_rules n spare room entries =
    rule (outside 1 longest n) 1 0
    ∷ rule (ltb spare (8 * n)) 7 (8 * n)
    ∷ rule (ltb room entries) 8 entries
    ∷ []

-- 'A done listing hands back the count of stretches'; 'Entries past the list do not change.'
-- A refused call keeps scratch. What scratch holds after a done call is left open, its length apart.
pub record ListsLine (f : List ℕ) (table table' : List Nested) (scratch scratch' : List ℕ) (a : Answer) : Type 0 where
  pub answers : a ≡ answer (list_rules (length f) (length scratch) (length table) (length (stretches f))) (length (stretches f))
  pub written : table' ≡ after a (front (records (stretches f)) table) table
  pub scratch_kept : (a.number ≡ 0 → ⊥) → scratch' ≡ scratch
  pub scratch_length : length scratch' ≡ length scratch
