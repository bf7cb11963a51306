-- The call `erode`: which rules it checks, and what it leaves.
use Rattle.std.specs.Prelude.{◌≡◌, List, [], ◌∷◌, ℕ, ltb, length}
use Rattle.lists.specs.Stores.{front}
use Rattle.answer.specs.declared.Answer.{Answer}
use Rattle.answer.specs.Limits.{longest}
use Rattle.answer.specs.Rules.{Rule, rule, answer, after, outside}
use Rattle.line.specs.Windows.{eroded, eroded_count}

-- n pixels, windows of L, a destination of room bytes
abbrev pub erode_rules : ℕ → ℕ → ℕ → List Rule
erode_rules n L room =
    rule (outside 1 longest n) 1 0
    ∷ rule (outside 1 longest L) 3 0
    ∷ rule (ltb room (eroded_count n L)) 6 (eroded_count n L)
    ∷ []

-- 'a done erosion .. the count of values'; 'write their values to the front of the destination; what follows is unchanged'
pub record ErodesLine (src : List ℕ) (L : ℕ) (dst dst' : List ℕ) (a : Answer) : Type 0 where
  pub answers : a ≡ answer (erode_rules (length src) L (length dst)) (eroded_count (length src) L)
  pub written : dst' ≡ after a (front (eroded src L) dst) dst
