-- The generator: a reading of a line stands at a bookmark, its open runs in the lent scratch, and each step finds the next stretch.
--   pair_at m i          the number of two bytes at i, the low one first
--   put_pair m i v       m with the number v in two bytes at i, the low one first
--   Layout               how a run lies in the scratch: which run is number i of the scratch m. Every run has four bytes, whatever the width of a pixel
--   run8                 the layout for pixels of eight bits: two bytes of start, one of level, one free
--   stack_of run m d     the first d runs of the scratch m, the last on top
--   is_ready n room p    a reading of n pixels can stand at p, with room bytes of scratch
--   beginning            the bookmark where a reading begins
--   to_come run f m p    the stretches of the line f still to come at the bookmark p, with the scratch m
--   coming run f m p     the same; nothing where no reading can stand at p
--   stop_at run f m p    where the step from p stops
--   step_of s            what a step that stops at s hands back, of the runs open their number; None where no run has ended
--   step_at run f m p    what the step from p hands back; None where no reading can stand there
--   Follows run f m p m' r    what `next` hands back and leaves
-- Laws: bright/proofs/Steps (coming-beginning: from the beginning on every stretch is to come; coming-next: the stretch found is the first to come, and the others come from
-- the bookmark handed back; coming-none: where none is found, none is to come).
use Rattle.std.specs.Prelude.{◌≡◌, Bool, cond, ◌&&◌, List, [], ◌∷◌, ℕ, zero, suc, ◌+◌, ◌*◌, ◌/◌, ◌%◌, leb, length, get_or, set, drop, Option, None, Some, MatchOption}
use Rattle.answer.specs.Limits.{longest}
use Rattle.bright.specs.declared.Stretch.{Stretch}
use Rattle.bright.specs.declared.Bookmark.{Bookmark}
use Rattle.bright.specs.declared.Step.{Step}
use Rattle.bright.specs.Reading.{Run, todo, Stop, step_from}

abbrev pub pair_at : List ℕ → ℕ → ℕ
pair_at m i = get_or m i 0 + 256 * get_or m (i + 1) 0

abbrev pub put_pair : List ℕ → ℕ → ℕ → List ℕ
put_pair m i v = set (set m i (v % 256)) (i + 1) (v / 256)

abbrev pub Layout : Type 0
Layout = List ℕ → ℕ → Run

abbrev pub run8 : Layout
run8 m i = record { start = pair_at m (4 * i); level = get_or m (4 * i + 2) 0 }

unfoldable pub stack_of : Layout → List ℕ → ℕ → List Run
stack_of run m zero = []
stack_of run m (suc d) = run m d ∷ stack_of run m d

-- a run has a pixel of its own, so that no more are open than pixels are read
abbrev pub is_ready : ℕ → ℕ → Bookmark → Bool
is_ready n room p = leb n longest && (leb (4 * n) room && (leb p.read n && leb p.depth p.read))

abbrev pub beginning : Bookmark
beginning = record { read = 0; depth = 0 }

abbrev pub to_come : Layout → List ℕ → List ℕ → Bookmark → List Stretch
to_come run f m p = todo p.read (drop p.read f) (stack_of run m p.depth)

abbrev pub coming : Layout → List ℕ → List ℕ → Bookmark → List Stretch
coming run f m p = cond (is_ready (length f) (length m) p) (to_come run f m p) []

abbrev pub stop_at : Layout → List ℕ → List ℕ → Bookmark → Stop
stop_at run f m p = step_from p.read (drop p.read f) (stack_of run m p.depth)

abbrev pub step_of : Stop → Option Step
step_of s = cond s.found (Some (record { stretch = s.stretch; bookmark = record { read = s.read; depth = length s.runs } })) None

abbrev pub step_at : Layout → List ℕ → List ℕ → Bookmark → Option Step
step_at run f m p = cond (is_ready (length f) (length m) p) (step_of (stop_at run f m p)) None

-- The line, the bookmark, and the open runs and the length of the scratch settle all that is handed back. Where a stretch is found, the scratch holds the runs then open,
-- from which the others come; its other bytes are left open. Where none is found, nothing changes.
pub record Follows (run : Layout) (f m : List ℕ) (p : Bookmark) (m' : List ℕ) (r : Option Step) : Type 0 where
  pub steps : r ≡ step_at run f m p
  pub leaves : MatchOption r (m' ≡ m) (λ (s : Step). stack_of run m' s.bookmark.depth ≡ (stop_at run f m p).runs)
  pub kept : length m' ≡ length m
