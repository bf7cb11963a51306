-- The call `dilate`: which rules it checks, and what it leaves.
use Rattle.std.specs.Prelude.{◌≡◌, ◌||◌, List, [], ◌∷◌, ℕ, ltb, length}
use Rattle.lists.specs.Stores.{front}
use Rattle.answer.specs.declared.Answer.{Answer}
use Rattle.answer.specs.Limits.{longest}
use Rattle.answer.specs.Rules.{Rule, rule, answer, after, outside}
use Rattle.line.specs.Windows.{dilated, dilated_count}

-- m values, windows of L, a destination of room bytes; rule 1 is broken by 'm outside its range, or m+L−1 above 4,096'
abbrev pub dilate_rules : ℕ → ℕ → ℕ → List Rule
dilate_rules m L room =
    rule (outside 1 longest m || ltb longest (dilated_count m L)) 1 0
    ∷ rule (outside 1 longest L) 3 0
    ∷ rule (ltb room (dilated_count m L)) 6 (dilated_count m L)
    ∷ []

-- 'a done .. dilation .. the count of values'; 'write their values to the front of the destination; what follows is unchanged'
pub record DilatesLine (src : List ℕ) (L : ℕ) (dst dst' : List ℕ) (a : Answer) : Type 0 where
  pub answers : a ≡ answer (dilate_rules (length src) L (length dst)) (dilated_count (length src) L)
  pub written : dst' ≡ after a (front (dilated src L) dst) dst
