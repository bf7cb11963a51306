-- The marked examples of document 01 on stretches, P7 to P10, and the lines that the program stretches prints, with their fifth numbers: what the definition computes,
-- beside what the documents say. Then the model's steps over the line of that program: the stretch that each finds, how many pixels are then read, and the runs then open.
-- Assumes nothing.
use mathlib.Core.Path.{◌≡◌, refl}
use mathlib.Core.Bool.{true, false}
use mathlib.Core.List.{List, [], ◌∷◌, map}
use Prim.Native.Nat.{ℕ}
use Rattle.lists.specs.Tables.{each}
use Rattle.lists.specs.Extremes.{least, greatest}
use Rattle.bright.specs.declared.Stretch.{Stretch}
use Rattle.bright.specs.declared.Nested.{Nested}
use Rattle.bright.specs.Stretches.{level_of, is_stretch, stretch_of, ending_at, stretches, no_stretch}
use Rattle.bright.specs.Nesting.{shortest, nested, records}
use Rattle.bright.specs.Reading.{Run, Stop, step_from}

pub record Example : Type 0 where
  pub computed : List Nested
  pub stated : List Nested

infixl 5 ◌is◌
abbrev ◌is◌ : List Nested → List Nested → Example
a is b = record { computed = a; stated = b }

-- start, end, level, base
abbrev s : ℕ → ℕ → ℕ → ℕ → Stretch
s a b l u = record { start = a; end = b; level = l; base = u }

-- .. and encloser
abbrev z : ℕ → ℕ → ℕ → ℕ → ℕ → Nested
z a b l u e = nested (s a b l u) e

abbrev list : List ℕ → List Nested
list f = records (stretches f)

abbrev pub marked : List Example
marked =
    (list (7 ∷ []) is z 0 1 7 0 0 ∷ [])
    ∷ (list (4 ∷ 4 ∷ 4 ∷ []) is z 0 3 4 0 0 ∷ [])
    ∷ (list (1 ∷ 2 ∷ 3 ∷ []) is z 2 3 3 2 1 ∷ z 1 3 2 1 2 ∷ z 0 3 1 0 2 ∷ [])
    ∷ (list (3 ∷ 2 ∷ 1 ∷ []) is z 0 1 3 2 1 ∷ z 0 2 2 1 2 ∷ z 0 3 1 0 2 ∷ [])
    ∷ (list (3 ∷ 5 ∷ 5 ∷ 2 ∷ 4 ∷ []) is z 1 3 5 3 1 ∷ z 0 3 3 2 3 ∷ z 4 5 4 2 3 ∷ z 0 5 2 0 3 ∷ [])
    ∷ []

pub marked-agree : map (λ (e : Example). e.computed) marked ≡ map (λ (e : Example). e.stated) marked
unfolding each least greatest level_of is_stretch stretch_of ending_at stretches shortest records
marked-agree = refl

abbrev found : Stretch → ℕ → List Run → Stop
found t b rs = record { found = true; stretch = t; read = b; runs = rs }

-- start and level
abbrev r : ℕ → ℕ → Run
r a l = record { start = a; level = l }

pub steps-agree : step_from 0 (3 ∷ 5 ∷ 5 ∷ 2 ∷ 4 ∷ []) [] ∷ step_from 3 (2 ∷ 4 ∷ []) (r 0 3 ∷ []) ∷ step_from 4 (4 ∷ []) (r 0 2 ∷ []) ∷ step_from 5 [] (r 0 2 ∷ []) ∷ step_from 5 [] [] ∷ []
    ≡ found (s 1 3 5 3) 3 (r 0 3 ∷ []) ∷ found (s 0 3 3 2) 4 (r 0 2 ∷ []) ∷ found (s 4 5 4 2) 5 (r 0 2 ∷ []) ∷ found (s 0 5 2 0) 5 []
    ∷ record { found = false; stretch = no_stretch; read = 5; runs = [] } ∷ []
unfolding step_from
steps-agree = refl
