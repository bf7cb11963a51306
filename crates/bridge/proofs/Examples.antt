-- What the program sums prints for document 01's example, computed from the openings; and the same from the stretches.
-- Assumes nothing.
use mathlib.Core.Path.{◌≡◌, refl}
use mathlib.Core.List.{List, [], ◌∷◌}
use Prim.Native.Nat.{ℕ, suc}
use lib.Dec.{eqb, ltb}
use Rattle.lists.specs.Tables.{each, table}
use Rattle.lists.specs.Extremes.{least, greatest, total}
use Rattle.line.specs.Windows.{opened}
use Rattle.bright.specs.Stretches.{level_of, is_stretch, stretch_of, ending_at, stretches}
use Rattle.bridge.specs.Sums.{bin_for, rest_for, light_of}

abbrev line : List ℕ
line = 3 ∷ 5 ∷ 5 ∷ 2 ∷ 4 ∷ []

-- bins of lengths 1, 2 and 3, and the rest
pub bins : table (λ (i : ℕ). bin_for line (suc i)) 3 ≡ 2 ∷ 4 ∷ 3 ∷ []
unfolding each least greatest total opened
bins = refl

pub rest : rest_for line 3 ≡ 10
unfolding each least greatest total opened
rest = refl

pub bins-stretches : table (λ (i : ℕ). light_of (λ (k : ℕ). eqb k (suc i)) (stretches line)) 3 ≡ 2 ∷ 4 ∷ 3 ∷ []
unfolding each least greatest light_of level_of is_stretch stretch_of ending_at stretches
bins-stretches = refl

pub rest-stretches : light_of (λ (k : ℕ). ltb 3 k) (stretches line) ≡ 10
unfolding each least greatest light_of level_of is_stretch stretch_of ending_at stretches
rest-stretches = refl
