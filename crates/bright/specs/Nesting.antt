-- Which stretch encloses which (document 02, order 1): the fifth number of a record of the list. Every definition computes on a list that is written out.
--   stretch_at ss i      the stretch at the place i, from 0, of the list ss
--   encloses s t         s encloses t: it starts no later and ends no earlier
--   enclosing ss i       the places of the other stretches of the list that enclose that at i
--   shorter ss j k       of two places that of the shorter stretch
--   shortest ss own js   of the places js that of the shortest stretch; own where there are none
--   encloser_of ss i     the place of the shortest other stretch that encloses that at i; its own where none does, which is so of the whole line alone
--   nested s e           the five numbers of a record: those of the stretch s, and the place e of its encloser
--   records ss           the list ss, each stretch with the place of its encloser
--   WholeLine n s        s is the whole line of n pixels
--   ShortestOther ss i j of the other stretches that enclose that at i, the one at j is the shortest
--   RightPlace n ss i j  j is right as the fifth number of the record at i, on a line of n pixels
--   NextLow ss i j       j is the next place after i whose stretch does not start after that at i
--   enclosers_of ss      the fifth numbers alone
--   can_nest n room spare a line of n pixels can be nested into room places with spare bytes of scratch
--   NestsLine            what `enclosers` hands back and leaves
-- Laws: bright/proofs/Enclosers (encloser_right, right-once: exactly one place is right; next_encloser: the fast rule; encloser_base: a base is the encloser's level), Records
-- (records-stretches, records-at: the list with its fifth numbers).
use Rattle.std.specs.Prelude.{◌≡◌, Bool, false, not, cond, ◌&&◌, List, [], ◌∷◌, ◌⊎◌, ℕ, ◌*◌, ◌≤◌, ◌<◌, ltb, leb, eqb, length, get_or}
use Rattle.lists.specs.Tables.{table, those}
use Rattle.lists.specs.Stores.{front}
use Rattle.answer.specs.Limits.{longest}
use Rattle.bright.specs.declared.Stretch.{Stretch}
use Rattle.bright.specs.declared.Nested.{Nested}
use Rattle.bright.specs.Stretches.{long, no_stretch, stretches}

abbrev pub stretch_at : List Stretch → ℕ → Stretch
stretch_at ss i = get_or ss i no_stretch

abbrev pub encloses : Stretch → Stretch → Bool
encloses s t = leb s.start t.start && leb t.end s.end

-- 'other stretch that encloses it'
abbrev pub enclosing : List Stretch → ℕ → List ℕ
enclosing ss i = those (λ (j : ℕ). not (eqb j i) && encloses (stretch_at ss j) (stretch_at ss i)) (λ (j : ℕ). j) (length ss)

abbrev pub shorter : List Stretch → ℕ → ℕ → ℕ
shorter ss j k = cond (ltb (long (stretch_at ss k)) (long (stretch_at ss j))) k j

unfoldable pub shortest : List Stretch → ℕ → List ℕ → ℕ
shortest ss own [] = own
shortest ss own (j ∷ []) = j
shortest ss own (j ∷ (k ∷ ks)) = shorter ss j (shortest ss own (k ∷ ks))

-- 'the place, from 0, in the list of the shortest other stretch that encloses it; the whole line carries its own place'
abbrev pub encloser_of : List Stretch → ℕ → ℕ
encloser_of ss i = shortest ss i (enclosing ss i)

abbrev pub nested : Stretch → ℕ → Nested
nested s e = record { stretch = s; encloser = e }

-- 'Add a fifth number to each stretch record'
unfoldable pub records : List Stretch → List Nested
records ss = table (λ (i : ℕ). nested (stretch_at ss i) (encloser_of ss i)) (length ss)

-- ---- as facts

abbrev pub WholeLine : ℕ → Stretch → Type 0
WholeLine n s = (s.start ≡ 0) × (s.end ≡ n)

pub record ShortestOther (ss : List Stretch) (i j : ℕ) : Type 0 where
  pub inside : j < length ss
  pub other : j ≡ i → ⊥
  pub starts : (stretch_at ss j).start ≤ (stretch_at ss i).start
  pub ends : (stretch_at ss i).end ≤ (stretch_at ss j).end
  pub least : (k : ℕ) → k < length ss → (k ≡ i → ⊥) → (stretch_at ss k).start ≤ (stretch_at ss i).start → (stretch_at ss i).end ≤ (stretch_at ss k).end → long (stretch_at ss j) ≤ long (stretch_at ss k)

-- 'exactly one value is right for each record'
abbrev pub RightPlace : ℕ → List Stretch → ℕ → ℕ → Type 0
RightPlace n ss i j = (WholeLine n (stretch_at ss i) × (j ≡ i)) ⊎ ((WholeLine n (stretch_at ss i) → ⊥) × ShortestOther ss i j)

pub record NextLow (ss : List Stretch) (i j : ℕ) : Type 0 where
  pub after : i < j
  pub inside : j < length ss
  pub low : (stretch_at ss j).start ≤ (stretch_at ss i).start
  pub between : (k : ℕ) → i < k → k < j → (stretch_at ss i).start < (stretch_at ss k).start

-- ---- the call `enclosers`

unfoldable pub enclosers_of : List Stretch → List ℕ
enclosers_of ss = table (encloser_of ss) (length ss)

abbrev pub can_nest : ℕ → ℕ → ℕ → Bool
can_nest n room spare = leb n longest && (leb n room && leb (4 * n) spare)

-- a line that cannot be nested leaves places and scratch as they were; what scratch holds after one that can is left open, its length apart
pub record NestsLine (f places places' scratch scratch' : List ℕ) (r : ℕ) : Type 0 where
  pub counts : r ≡ cond (can_nest (length f) (length places) (length scratch)) (length (stretches f)) 0
  pub written : places' ≡ cond (can_nest (length f) (length places) (length scratch)) (front (enclosers_of (stretches f)) places) places
  pub scratch_kept : can_nest (length f) (length places) (length scratch) ≡ false → scratch' ≡ scratch
  pub scratch_length : length scratch' ≡ length scratch
