-- The marked examples of document 01 on lines, P1 to P6: what the definitions compute, beside what the document says.
-- Assumes nothing.
use mathlib.Core.Path.{◌≡◌, refl}
use mathlib.Core.List.{List, [], ◌∷◌, map}
use Prim.Native.Nat.{ℕ}
use Rattle.lists.specs.Tables.{each}
use Rattle.lists.specs.Extremes.{least, greatest}
use Rattle.line.specs.Windows.{eroded, dilated, opened}

pub record Example : Type 0 where
  pub computed : List ℕ
  pub stated : List ℕ

infixl 5 ◌is◌
abbrev ◌is◌ : List ℕ → List ℕ → Example
a is b = record { computed = a; stated = b }

abbrev line : List ℕ
line = 3 ∷ 5 ∷ 5 ∷ 2 ∷ 4 ∷ []

abbrev pub marked : List Example
marked =
    (opened line 1 is line)
    ∷ (opened line 2 is 3 ∷ 5 ∷ 5 ∷ 2 ∷ 2 ∷ [])
    ∷ (opened line 3 is 3 ∷ 3 ∷ 3 ∷ 2 ∷ 2 ∷ [])
    ∷ (opened line 5 is 2 ∷ 2 ∷ 2 ∷ 2 ∷ 2 ∷ [])
    ∷ (opened line 6 is 0 ∷ 0 ∷ 0 ∷ 0 ∷ 0 ∷ [])
    ∷ (eroded line 2 is 3 ∷ 5 ∷ 2 ∷ 2 ∷ [])
    ∷ (dilated (eroded line 2) 2 is 3 ∷ 5 ∷ 5 ∷ 2 ∷ 2 ∷ [])
    ∷ []

pub marked-agree : map (λ (e : Example). e.computed) marked ≡ map (λ (e : Example). e.stated) marked
unfolding each least greatest eroded dilated opened
marked-agree = refl
