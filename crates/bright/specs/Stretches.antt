-- The bright stretches of a line (document 01, 'Stretches and size sums'). A line is the list of its pixels; every definition computes on a list that is written out.
--   before f a           the pixel before a, where there is one
--   behind f b           the pixel at b, where there is one
--   neighbours f a b     those of the pixels a − 1 and b that exist
--   darker l xs          each of the pixels xs is darker than l
--   level_of f a b       the darkest of the pixels a to b − 1
--   is_stretch f a b     the pixels a to b − 1 are a stretch
--   base_of f a b        the brighter of the neighbours
--   stretch_of f a b     the four numbers of the stretch from a to b
--   long s               how many pixels a stretch has
--   no_stretch           what stands for a stretch where there is none
--   ending_at f b a      the stretches that end at b and start before a, the latest start first
--   stretches f          the list of bright stretches
--   Bright f a b         the pixels a to b − 1 are a stretch, as facts
--   ListedBefore s t     s comes before t in the list
-- Laws: bright/proofs/Levels (the level of a run as it grows), Model (todo-stretches: one reading makes the list), Listed (the list holds every stretch, and nothing else),
-- Order (it is in order, and holds each once), Nest (a base is the level of the shortest other stretch that encloses), Enclosers (which of the list that is), Counting (no more stretches than pixels).
use Rattle.std.specs.Prelude.{◌≡◌, Bool, true, ◌&&◌, ◌⊎◌, List, [], ◌∷◌, ◌++◌, ℕ, zero, suc, ◌-◌, ◌≤◌, ◌<◌, ltb, length, get_or, take, drop}
use Rattle.lists.specs.Tables.{each, keep}
use Rattle.lists.specs.Extremes.{least, greatest}
use Rattle.bright.specs.declared.Stretch.{Stretch}

abbrev pub before : List ℕ → ℕ → List ℕ
before f zero = []
before f (suc a) = get_or f a 0 ∷ []

abbrev pub behind : List ℕ → ℕ → List ℕ
behind f b = take 1 (drop b f)

abbrev pub neighbours : List ℕ → ℕ → ℕ → List ℕ
neighbours f a b = before f a ++ behind f b

abbrev pub darker : ℕ → List ℕ → Bool
darker l [] = true
darker l (x ∷ xs) = ltb x l && darker l xs

-- 'A stretch of a line is a start a and an end b, 0 ≤ a < b ≤ n, b not included. Its level is its darkest pixel'
unfoldable pub level_of : List ℕ → ℕ → ℕ → ℕ
level_of f a b = least (take (b - a) (drop a f))

-- 'each of pixels a−1 and b that exists is darker than the level'
unfoldable pub is_stretch : List ℕ → ℕ → ℕ → Bool
is_stretch f a b = darker (level_of f a b) (neighbours f a b)

-- 'Its base is the brighter of those two, and 0 for the whole line.'
abbrev pub base_of : List ℕ → ℕ → ℕ → ℕ
base_of f a b = greatest (neighbours f a b)

unfoldable pub stretch_of : List ℕ → ℕ → ℕ → Stretch
stretch_of f a b = record { start = a; end = b; level = level_of f a b; base = base_of f a b }

abbrev pub long : Stretch → ℕ
long s = s.end - s.start

abbrev pub no_stretch : Stretch
no_stretch = record { start = 0; end = 0; level = 0; base = 0 }

-- 'The list is ordered by end, and among equal ends by descending start.'
unfoldable pub ending_at : List ℕ → ℕ → ℕ → List Stretch
ending_at f b zero = []
ending_at f b (suc a) = keep (is_stretch f a b) (stretch_of f a b) ++ ending_at f b a

unfoldable pub stretches : List ℕ → List Stretch
stretches f = each (λ (b : ℕ). ending_at f (suc b) (suc b)) (length f)

-- what `is_stretch` tests, as facts
pub record Bright (f : List ℕ) (a b : ℕ) : Type 0 where
  pub some : a < b
  pub inside : b ≤ length f
  pub left : (j : ℕ) → a ≡ suc j → get_or f j 0 < level_of f a b
  pub right : b < length f → get_or f b 0 < level_of f a b

abbrev pub ListedBefore : Stretch → Stretch → Type 0
ListedBefore s t = (s.end < t.end) ⊎ ((s.end ≡ t.end) × (t.start < s.start))
