-- The openings of a line from its listed stretches (demand 3).
--   in_stretch x s       the stretch s holds the pixel x
--   reaching L x ss      the levels of those stretches of ss that are at least L long and hold x
-- Laws: bridge/proofs/Openings.
use Rattle.std.specs.Prelude.{Bool, ◌&&◌, List, [], ◌∷◌, ◌++◌, ℕ, leb, ltb}
use Rattle.lists.specs.Tables.{keep}
use Rattle.bright.specs.declared.Stretch.{Stretch}
use Rattle.bright.specs.Stretches.{long}

abbrev pub in_stretch : ℕ → Stretch → Bool
in_stretch x s = leb s.start x && ltb x s.end

-- 'For every length, a pixel's opening is the highest such darkest pixel among the listed runs at least that long that hold it, and 0 if none does.'
unfoldable pub reaching : ℕ → ℕ → List Stretch → List ℕ
reaching L x [] = []
reaching L x (s ∷ ss) = keep (leb L (long s) && in_stretch x s) s.level ++ reaching L x ss
