-- Where a run ends, the run then on top goes on to be the next stretch of the list that does not start after it: so the start of the encloser is known at once.
--   Rising b rs          the starts of the open runs rs rise towards the top, all before b
--   FirstLow a x ss      of the stretches ss the first that does not start after a starts at x
--   todo-outer           a run on top that does not start after a is the first such stretch to come
--   stop-rising          where the starts rise as a step begins, they do where it stops
--   next-rising          they do after a step of the generator, too
--   next-outer           .. and the run then on top is the next to come that does not start after the stretch found
--   low-next             the place of that one in a list
-- Assumes nothing.
use mathlib.Core.Path.{◌≡◌, refl}
use mathlib.Core.Bool.{Bool, true, false, cond, false≢true}
use mathlib.Core.List.{List, [], ◌∷◌, ◌++◌}
use mathlib.Core.Logic.{◌⊎◌, inl, inr, ⊎_elim}
use Prim.Native.Nat.{ℕ, zero, suc, ◌+◌, ◌-◌, ◌≤◌, ◌<◌, max}
use native.Mathlib.Nat.{le_refl}
use native.Mathlib.Omega.{arith}
use lib.Dec.{ltb}
use lib.ListN.{length, drop, length-drop, drop_of_length-le}
use lib.Seq.{drop-cons}
use Rattle.std.specs.Prelude.{Some}
use Rattle.lists.proofs.Cases.{less_or_not}
use Rattle.bright.specs.declared.Bookmark.{Bookmark}
use Rattle.bright.specs.declared.Step.{Step}
use Rattle.bright.specs.declared.Stretch.{Stretch}
use Rattle.bright.specs.Reading.{Run, top_level, top_start, top_holds, top_below, closed, ended, settled, climbed, ending, todo, Stop, step_from}
use Rattle.bright.specs.Generator.{Layout, stack_of, coming, stop_at, Follows}
use Rattle.bright.specs.Stretches.{no_stretch}
use Rattle.bright.specs.Nesting.{stretch_at, NextLow}
use Rattle.bright.proofs.Turn.{ended-none, low-top}
use Rattle.bright.proofs.Steps.{next-found, next-handed, next-left}

unfoldable pub Rising : ℕ → List Run → Type 0
Rising b [] = Unit {0}
Rising b (r ∷ rs) = (r.start < b) × Rising r.start rs

unfoldable pub FirstLow : ℕ → ℕ → List Stretch → Type 0
FirstLow a x [] = ⊥
FirstLow a x (s ∷ ss) = ((s.start ≤ a) × (s.start ≡ x)) ⊎ ((a < s.start) × FirstLow a x ss)

-- ---- what is to come

module _ (a x : ℕ) where
  -- the topmost of the runs rs that does not start after a starts at x
  abbrev TopLow : List Run → Type 0
  TopLow rs = FirstLow a x (ending 0 rs)

  ending-low : (b : ℕ) (rs : List Run) → TopLow rs → FirstLow a x (ending b rs)
  unfolding FirstLow ending
  ending-low b [] w = w
  ending-low b (r ∷ rs) (inl w) = inl w
  ending-low b (r ∷ rs) (inr w) = inr (w.0, ending-low b rs w.1)

  -- a pixel v at b ends that run, or leaves it so
  ended-low : (b v : ℕ) (rest : List Run → List Stretch) → ((rs : List Run) → TopLow rs → FirstLow a x (rest rs))
      → (rs : List Run) → TopLow rs → FirstLow a x (ended b v rs ++ rest (settled v rs))
  unfolding FirstLow ended settled ending
  ended-low b v rest k [] w = absurd w
  ended-low b v rest k (r ∷ rs) w = go (ltb v r.level) refl (top_holds v rs) refl w (ended-low b v rest k rs)
    where
      go : (t : Bool) → ltb v r.level ≡ t → (o : Bool) → top_holds v rs ≡ o → TopLow (r ∷ rs) → (TopLow rs → FirstLow a x (ended b v rs ++ rest (settled v rs)))
          → FirstLow a x (ended b v (r ∷ rs) ++ rest (settled v (r ∷ rs)))
      go true t o e (inl w) ih = rw t (inl w)
      go true t true e (inr w) ih = rw (t, e) (inr (w.0, ih w.1))
      go true t false e (inr w) ih = rw (t, e, ended-none b v rs (low-top v rs e)) (inr (w.0, k (record { start = r.start; level = v } ∷ rs) (inr w)))
      go false t o e w ih = rw t (k (r ∷ rs) w)

  -- a run that it opens starts after a
  climbed-low : (b v : ℕ) (rs : List Run) → a < b → TopLow rs → TopLow (climbed b v rs)
  unfolding FirstLow ending
  climbed-low b v rs g w = go (top_below v rs)
    where
      go : (t : Bool) → TopLow (cond t (record { start = b; level = v } ∷ rs) rs)
      go true = inr (g, w)
      go false = w

  todo-low : (b : ℕ) (ps : List ℕ) (rs : List Run) → a < b → TopLow rs → FirstLow a x (todo b ps rs)
  unfolding todo
  todo-low b [] rs g w = ending-low b rs w
  todo-low b (v ∷ ps) rs g w =
      ended-low b v (λ (os : List Run). todo (suc b) ps (climbed b v os)) (λ os k. todo-low (suc b) ps (climbed b v os) (omega arith) (climbed-low b v os g k)) rs w

pub todo-outer : (a b : ℕ) (ps : List ℕ) (r : Run) (rs : List Run) → r.start ≤ a → a < b → FirstLow a r.start (todo b ps (r ∷ rs))
unfolding FirstLow ending
todo-outer a b ps r rs l g = todo-low a r.start b ps (r ∷ rs) g (inl (l, refl))

-- ---- where a step stops

rising-more : (b c : ℕ) (rs : List Run) → b ≤ c → Rising b rs → Rising c rs
unfolding Rising
rising-more b c [] l h = tt
rising-more b c (r ∷ rs) l h = (omega (arith, h.0), h.1)

climbed-rising : (b v : ℕ) (rs : List Run) → Rising b rs → Rising (suc b) (climbed b v rs)
unfolding Rising
climbed-rising b v rs h = go (top_below v rs)
  where
    go : (t : Bool) → Rising (suc b) (cond t (record { start = b; level = v } ∷ rs) rs)
    go true = (le_refl (suc b), h)
    go false = rising-more b (suc b) rs (omega arith) h

-- no run is left, at the end of a line of n pixels; or the run then on top comes next of those that do not start after the stretch found, whatever pixels are ahead
abbrev Outer : ℕ → Stop → Type 0
Outer n s =
    ((s.runs ≡ []) × (n ≤ s.read))
    ⊎ ((ps : List ℕ) → FirstLow s.stretch.start (top_start s.runs) (todo s.read ps s.runs))

abbrev Stopped : ℕ → Stop → Type 0
Stopped n s = Rising s.read s.runs × (s.found ≡ true → Outer n s)

-- the run below one that starts at a
under : (a b v : ℕ) (rs : List Run) (ps : List ℕ) → Rising a rs → a < b → top_holds v rs ≡ true → FirstLow a (top_start rs) (todo b ps rs)
unfolding Rising
under a b v [] ps h g t = absurd (false≢true t)
under a b v (r ∷ rs) ps h g t = todo-outer a b ps r rs (omega (arith, h.0)) g

stopped : (n b : ℕ) (ps : List ℕ) (rs : List Run) → n ≤ b + length ps → Rising b rs → Stopped n (step_from b ps rs)
unfolding Rising step_from
stopped n b [] [] k h = (tt, λ y. absurd (false≢true y))
stopped n b [] (r ∷ []) k h = (tt, λ _. inl (refl, omega arith))
stopped n b [] (r ∷ (q ∷ rs)) k h = ((omega (arith, h.0, h.1.0), h.1.1), λ _. inr (λ ps. todo-outer r.start b ps q rs (omega (arith, h.1.0)) h.0))
stopped n b (v ∷ ps) [] k h = stopped n (suc b) ps (climbed b v []) (omega arith) (climbed-rising b v [] h)
stopped n b (v ∷ ps) (r ∷ rs) k h =
    go (ltb v r.level) (top_holds v rs) refl (stopped n (suc b) ps (climbed b v (r ∷ rs)) (omega arith) (climbed-rising b v (r ∷ rs) h))
  where
    go : (t u : Bool) → top_holds v rs ≡ u → Stopped n (step_from (suc b) ps (climbed b v (r ∷ rs)))
        → Stopped n (cond t
        (record { found = true; stretch = closed r b (max v (top_level rs)); read = cond u b (suc b); runs = cond u rs (record { start = r.start; level = v } ∷ rs) })
        (step_from (suc b) ps (climbed b v (r ∷ rs))))
    go true true e ih = (rising-more r.start b rs (omega (arith, h.0)) h.1, λ _. inr (λ qs. under r.start b v rs qs h.1 h.0 e))
    go true false e ih = (
      (omega (arith, h.0), h.1),
      λ _. inr (λ qs. todo-outer r.start (suc b) qs (record { start = r.start; level = v }) rs (le_refl r.start) (omega (arith, h.0))),
    )
    go false u e ih = ih

pub stop-rising : (b : ℕ) (ps : List ℕ) (rs : List Run) → Rising b rs → Rising (step_from b ps rs).read (step_from b ps rs).runs
stop-rising b ps rs h = (stopped 0 b ps rs (omega arith) h).0

-- ---- one step of the generator

module _ {run : Layout} {f m : List ℕ} {p : Bookmark} {m' : List ℕ} {s : Step} (g : Follows run f m p m' (Some s)) (h : Rising p.read (stack_of run m p.depth)) where
  pub next-rising : Rising s.bookmark.read (stack_of run m' s.bookmark.depth)
  next-rising = rw (g.leaves, next-handed g) (stop-rising p.read (drop p.read f) (stack_of run m p.depth) h)

  pub next-outer : ((coming run f m' s.bookmark ≡ []) × (top_start (stack_of run m' s.bookmark.depth) ≡ 0))
      ⊎ FirstLow s.stretch.start (top_start (stack_of run m' s.bookmark.depth)) (coming run f m' s.bookmark)
  unfolding todo ending
  next-outer =
      let line : length f ≤ p.read + length (drop p.read f) = omega (arith, length-drop p.read f) in
      rw (next-left g, g.leaves, next-handed g)
      (⊎_elim
      (λ w. inl (rw (w.0, drop_of_length-le f w.1), rw w.0))
      (λ w. inr (w (drop (stop_at run f m p).read f)))
      ((stopped (length f) p.read (drop p.read f) (stack_of run m p.depth) line h).1 (next-found g)))

-- ---- at places of a list

module _ (ss : List Stretch) (i x : ℕ) where
  abbrev Later : ℕ → Type 0
  Later o = (k : ℕ) → i < k → k < o → (stretch_at ss i).start < (stretch_at ss k).start

  abbrev NextStart : Type 0
  NextStart = (j : ℕ) × NextLow ss i j × ((stretch_at ss j).start ≡ x)

  -- n stretches stand from the place o on, and those between i and o start later
  low-from : (n o : ℕ) → o + n ≡ length ss → i < o → Later o → FirstLow (stretch_at ss i).start x (drop o ss) → NextStart
  unfolding FirstLow
  low-from zero o e l h w =
      let k : length ss ≤ o = omega arith in
      absurd (rw (drop_of_length-le ss k) at w)
  low-from (suc n) o e l h w = go (rw (drop-cons ss o no_stretch (omega arith)) at w) (low-from n (suc o) (omega arith) (omega arith))
    where
      go : FirstLow (stretch_at ss i).start x (stretch_at ss o ∷ drop (suc o) ss) → (Later (suc o) → FirstLow (stretch_at ss i).start x (drop (suc o) ss) → NextStart) → NextStart
      go (inl m) ih = (o, record { after = l; inside = omega arith; low = m.0; between = h }, m.1)
      go (inr m) ih = ih (λ k p q. ⊎_elim (h k p) (λ b. let s : k ≡ o = omega arith in rw s m.0) (less_or_not k o)) m.1

  pub low-next : i < length ss → FirstLow (stretch_at ss i).start x (drop (suc i) ss) → (j : ℕ) × NextLow ss i j × ((stretch_at ss j).start ≡ x)
  low-next h w = low-from (length ss - suc i) (suc i) (omega arith) (le_refl (suc i)) (λ k p q. absurd (omega arith)) w
