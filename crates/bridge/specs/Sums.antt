-- Size sums of a line (document 01, 'Stretches and size sums').
--   sum_for f L          the sum for a length
--   bin_for f L          the bin for a length
--   rest_for f K         the rest, with K bins
--   light s              length × (level − base) of a stretch
--   light_of p ss        the total of that over the stretches of ss whose length passes the test p
-- Laws: bridge/proofs/Sizes.
use Rattle.std.specs.Prelude.{Bool, cond, List, [], ◌∷◌, ℕ, suc, ◌+◌, ◌-◌, ◌*◌}
use Rattle.lists.specs.Extremes.{total}
use Rattle.line.specs.Windows.{opened}
use Rattle.bright.specs.declared.Stretch.{Stretch}
use Rattle.bright.specs.Stretches.{long}

-- 'The sum for a length is the total of the opened pixels.'
abbrev pub sum_for : List ℕ → ℕ → ℕ
sum_for f L = total (opened f L)

-- 'the bin for a length is the sum for that length less the sum for the next'
abbrev pub bin_for : List ℕ → ℕ → ℕ
bin_for f L = sum_for f L - sum_for f (suc L)

-- 'the rest is the sum for length K+1'
abbrev pub rest_for : List ℕ → ℕ → ℕ
rest_for f K = sum_for f (suc K)

abbrev pub light : Stretch → ℕ
light s = long s * (s.level - s.base)

-- 'the total of length × (level − base) over the stretches of just that length, and the rest the same total over those longer than K'
unfoldable pub light_of : (ℕ → Bool) → List Stretch → ℕ
light_of p [] = 0
light_of p (s ∷ ss) = cond (p (long s)) (light s) 0 + light_of p ss
