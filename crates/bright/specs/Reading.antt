-- How the list is made in one reading of the line: the open runs are a stack, the latest start on top.
-- A run is open where it has no end yet; its level is its darkest pixel so far.
--   Run                  an open run: its start and its level
--   levels8              how many levels a pixel of eight bits can have
--   top_level rs         the level of the run on top; 0 where there is none
--   top_start rs         where the run on top starts; 0 where there is none
--   top_holds v rs       there is a run on top, and its level is v or more
--   top_below v rs       there is none on top whose level is v or more
--   closed r b base      the stretch that the run r is where it ends at b, with this base
--   ended b v rs         the stretches that a pixel v at b ends: the runs on top that are brighter
--   settled v rs         the runs after those are gone
--   climbed b v rs       the runs after a pixel v at b that no run on top is brighter than
--   ending b rs          the stretches that the line's end at b ends: every open run
--   todo b ps rs         the stretches still to come at b, of the pixels ps from b on, with the runs rs open
--   Stop                 where a step stops: whether a run has ended, the stretch that it is, how many pixels are then read, and the runs then open
--   fallen v r rs        the runs once r, on top of rs, is ended by a pixel v
--   step_from b ps rs    one step from b on, with the pixels ps ahead and the runs rs open: on to where a run ends
-- Laws: bright/proofs/Model (todo-stretches: todo 0 f [] is the list of bright stretches), Stops (stop-comes: the stretch of a step is the first to come, and the others come
-- from where it stops), Turn (what one pixel does to the open runs), Outers (next-outer: where a run ends, the one then on top goes on to be its encloser).
use Rattle.std.specs.Prelude.{Bool, true, false, cond, List, [], ◌∷◌, ◌++◌, ℕ, suc, max, ltb, leb}
use Rattle.bright.specs.declared.Stretch.{Stretch}
use Rattle.bright.specs.Stretches.{no_stretch}

pub record Run : Type 0 where
  pub start : ℕ
  pub level : ℕ

-- how many levels a pixel of eight bits can have
abbrev pub levels8 : ℕ
levels8 = 256

abbrev pub top_level : List Run → ℕ
top_level [] = 0
top_level (r ∷ rs) = r.level

abbrev pub top_start : List Run → ℕ
top_start [] = 0
top_start (r ∷ rs) = r.start

abbrev pub top_holds : ℕ → List Run → Bool
top_holds v [] = false
top_holds v (r ∷ rs) = leb v r.level

abbrev pub top_below : ℕ → List Run → Bool
top_below v [] = true
top_below v (r ∷ rs) = ltb r.level v

abbrev pub closed : Run → ℕ → ℕ → Stretch
closed r b base = record { start = r.start; end = b; level = r.level; base = base }

unfoldable pub ended : ℕ → ℕ → List Run → List Stretch
ended b v [] = []
ended b v (r ∷ rs) = cond (ltb v r.level) (closed r b (max v (top_level rs)) ∷ ended b v rs) []

-- the last of the runs that v ends goes on at level v, unless another run already is at v
unfoldable pub settled : ℕ → List Run → List Run
settled v [] = []
settled v (r ∷ rs) = cond (ltb v r.level) (cond (top_holds v rs) (settled v rs) (record { start = r.start; level = v } ∷ rs)) (r ∷ rs)

-- a pixel that outshines every open run opens a new one
abbrev pub climbed : ℕ → ℕ → List Run → List Run
climbed b v rs = cond (top_below v rs) (record { start = b; level = v } ∷ rs) rs

unfoldable pub ending : ℕ → List Run → List Stretch
ending b [] = []
ending b (r ∷ rs) = closed r b (top_level rs) ∷ ending b rs

unfoldable pub todo : ℕ → List ℕ → List Run → List Stretch
todo b [] rs = ending b rs
todo b (v ∷ ps) rs = ended b v rs ++ todo (suc b) ps (climbed b v (settled v rs))

pub record Stop : Type 0 where
  pub found : Bool
  pub stretch : Stretch
  pub read : ℕ
  pub runs : List Run

-- the run goes on from its start at level v, unless the one below holds v
abbrev pub fallen : ℕ → Run → List Run → List Run
fallen v r rs = cond (top_holds v rs) rs (record { start = r.start; level = v } ∷ rs)

-- a pixel that ends a run is read with it, unless the run below holds the pixel, which may end that one too
unfoldable pub step_from : ℕ → List ℕ → List Run → Stop
step_from b [] [] = record { found = false; stretch = no_stretch; read = b; runs = [] }
step_from b [] (r ∷ rs) = record { found = true; stretch = closed r b (top_level rs); read = b; runs = rs }
step_from b (v ∷ ps) [] = step_from (suc b) ps (climbed b v [])
step_from b (v ∷ ps) (r ∷ rs) =
    cond (ltb v r.level)
    (record { found = true; stretch = closed r b (max v (top_level rs)); read = cond (top_holds v rs) b (suc b); runs = fallen v r rs })
    (step_from (suc b) ps (climbed b v (r ∷ rs)))
