-- What the private parts of a step and of a nesting keep to.
--   Ready f m p          a reading of the line f can stand at p with the scratch m, as facts
--   Begins, Climbs       the reading has gone on, and the step from there stops as before
--   Closes f m p         the topmost run ends at p: the pixel there is darker, or the line is at its end
--   Ends                 .. and that run starts at start, and the one below it is at under
--   Falls                the pixel at p has ended the topmost run: how many pixels are then read, and the runs then open
--   Finds                the step from p stops there, and the topmost run is the stretch found
--   outer_of ss i        where the encloser of the stretch at i of the list ss starts
--   noted ss i           the record at i with the start of its encloser for the encloser's place
--   step_in n            the step of the reading in one of the listing
--   Notes                what `next_noted` hands back and leaves
--   Links                what `link` hands back and leaves: the place last seen at the encloser's start, or that of the last record itself; and this place seen at its own start
--   NotesAll             what `note_all` hands back and leaves: the starts of a line's stretches, and those of their enclosers
use Rattle.std.specs.Prelude.{◌≡◌, true, cond, List, ℕ, suc, ◌+◌, ◌-◌, ◌*◌, ◌≤◌, ◌<◌, eqb, length, get_or, Option, IfSome}
use Rattle.std.specs.Option.{option_map}
use Rattle.lists.specs.Stores.{Filled}
use Rattle.answer.specs.Limits.{longest}
use Rattle.bright.specs.declared.Bookmark.{Bookmark}
use Rattle.bright.specs.declared.Step.{Step}
use Rattle.bright.specs.declared.Stretch.{Stretch}
use Rattle.bright.specs.declared.Nested.{Nested}
use Rattle.bright.specs.declared.Noted.{Noted}
use Rattle.bright.specs.Stretches.{stretches}
use Rattle.bright.specs.Reading.{top_level, top_start, top_holds, fallen}
use Rattle.bright.specs.Generator.{Layout, pair_at, stack_of, stop_at, Follows}
use Rattle.bright.specs.Nesting.{stretch_at, encloser_of, nested}

pub record Ready (f m : List ℕ) (p : Bookmark) : Type 0 where
  pub pixels : length f ≤ longest
  pub room : 4 * length f ≤ length m
  pub read : p.read ≤ length f
  pub depth : p.depth ≤ p.read

-- a run is open afterwards, unless the line is at its end
pub record Begins (run : Layout) (f m : List ℕ) (p : Bookmark) (m' : List ℕ) (q : Bookmark) : Type 0 where
  pub ready : Ready f m' q
  pub same : stop_at run f m p ≡ stop_at run f m' q
  pub none : q.depth ≡ 0 → (p.depth ≡ 0) × (p.read ≡ length f) × (m' ≡ m)

pub record Closes (run : Layout) (f m : List ℕ) (p : Bookmark) : Type 0 where
  pub ready : Ready f m p
  pub some : 0 < p.depth
  pub stops : p.read < length f → get_or f p.read 0 < top_level (stack_of run m p.depth)

pub record Ends (run : Layout) (f m : List ℕ) (p : Bookmark) (start under : ℕ) : Type 0 where
  pub closes : Closes run f m p
  pub from : start ≡ (run m (p.depth - 1)).start
  pub below : under ≡ top_level (stack_of run m (p.depth - 1))

pub record Climbs (run : Layout) (f m : List ℕ) (p : Bookmark) (m' : List ℕ) (q : Bookmark) : Type 0 where
  pub closes : Closes run f m' q
  pub same : stop_at run f m p ≡ stop_at run f m' q

pub record Falls (run : Layout) (f m : List ℕ) (p : Bookmark) (m' : List ℕ) (q : Bookmark) : Type 0 where
  pub reads : q.read ≡ cond (top_holds (get_or f p.read 0) (stack_of run m (p.depth - 1))) p.read (suc p.read)
  pub leaves : stack_of run m' q.depth ≡ fallen (get_or f p.read 0) (run m (p.depth - 1)) (stack_of run m (p.depth - 1))

abbrev pub Finds : Layout → List ℕ → List ℕ → Bookmark → List ℕ → Step → Type 0
Finds run f m p m' s = stop_at run f m p ≡ record { found = true; stretch = s.stretch; read = s.bookmark.read; runs = stack_of run m' s.bookmark.depth }

-- ---- the nesting

abbrev pub outer_of : List Stretch → ℕ → ℕ
outer_of ss i = (stretch_at ss (encloser_of ss i)).start

abbrev pub noted : List Stretch → ℕ → Nested
noted ss i = nested (stretch_at ss i) (outer_of ss i)

abbrev pub step_in : Noted → Step
step_in n = record { stretch = n.nested.stretch; bookmark = n.bookmark }

pub record Notes (run : Layout) (f m : List ℕ) (p : Bookmark) (m' : List ℕ) (r : Option Noted) : Type 0 where
  pub follows : Follows run f m p m' (option_map step_in r)
  pub outer : IfSome r (λ (n : Noted). n.nested.encloser ≡ top_start (stack_of run m' n.bookmark.depth))

pub record Links (m : List ℕ) (start outer place count : ℕ) (m' : List ℕ) (r : ℕ) : Type 0 where
  pub found : r ≡ cond (eqb (place + 1) count) place (pair_at m (2 * outer))
  pub here : pair_at m' (2 * start) ≡ place
  pub others : (a : ℕ) → (a ≡ start → ⊥) → pair_at m' (2 * a) ≡ pair_at m (2 * a)
  pub kept : length m' ≡ length m

pub record NotesAll (f starts outers m starts' outers' m' : List ℕ) (r : ℕ) : Type 0 where
  pub counts : r ≡ length (stretches f)
  pub starting : Filled starts starts' 0 (length (stretches f)) (λ (i : ℕ). (stretch_at (stretches f) i).start)
  pub outer : Filled outers outers' 0 (length (stretches f)) (outer_of (stretches f))
  pub kept : length m' ≡ length m
