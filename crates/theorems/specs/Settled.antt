-- Demand 1 of one call: what its rules, its answer and the lent buffers have to do with each other.
--   FirstBroken rs a            the answer a is that of the first broken rule of rs
--   Settled rs f a Unchanged    the call is done, with the figure f, where no rule of rs is broken; else its answer is that of the first broken one, and Unchanged
--                               holds: what it says of the lent buffers
-- Laws: theorems/proofs/Refusals.
use Rattle.std.specs.Prelude.{◌≡◌, true, List, ◌∷◌, ◌++◌, ℕ}
use Rattle.answer.specs.declared.Answer.{Answer}
use Rattle.answer.specs.Rules.{Rule, Kept, done, refusal}

-- 'Checked in this order'
pub record FirstBroken (rs : List Rule) (a : Answer) : Type 0 where
  pub before : List Rule
  pub first : Rule
  pub behind : List Rule
  pub is : rs ≡ before ++ (first ∷ behind)
  pub kept : Kept before
  pub broken : first.broken ≡ true
  pub answers : a ≡ refusal first.number first.figure

-- 'It does the work, or gives the number of the first rule broken; then no lent byte has changed and the figures handed back are those of the refusal table'
pub record Settled (rs : List Rule) (f : ℕ) (a : Answer) (Unchanged : Type 0) : Type 0 where
  pub done_if : Kept rs → a ≡ done f
  pub only_if : a.number ≡ 0 → Kept rs
  pub refused : (a.number ≡ 0 → ⊥) → FirstBroken rs a × Unchanged
