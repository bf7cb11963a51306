-- What the parts of a step do, and what is to come after it.
--   ready-test, test-ready                  the test of a bookmark, and its facts
--   coming-beginning                        from the beginning on, every stretch is to come
--   coming-next                             the stretch that a step finds is the first to come, and the others come from the bookmark that it hands back
--   next-found, -handed, -left              where a stretch is found: a run has ended; what is handed back; and what is then left to come
--   next-room                               .. and the scratch has room for the runs then open
--   coming-none                             where a step finds none, none is to come
--   place_inside, -found, -others           where those to come are a list from a place on: the stretch found stands at that place, the others come from the next
--   place_none                              .. and where none is found, the place is the list's end
--   begins-first                            where no run is open, the pixel opens one
--   Climbing                                where a climb stands; climbing_more: one pixel further
--   falls-first, falls-low, falls_pop       the topmost run falls
--   finds_end, finds_fall                   the stretch that the line's end, or a pixel, ends
--   follows-none, follows-found             the ways out of a step that can be taken
-- Assumes nothing.
use mathlib.Core.Path.{◌≡◌, refl, sym, ap, ◌∙◌}
use mathlib.Core.Bool.{Bool, true, false, cond, ◌&&◌}
use mathlib.Core.List.{List, [], ◌∷◌}
use Prim.Native.Nat.{ℕ, suc, ◌+◌, ◌-◌, ◌*◌, ◌≤◌, ◌<◌, max}
use native.Mathlib.Nat.{le_refl}
use native.Mathlib.Numerals.{add-one}
use native.Mathlib.Omega.{arith}
use lib.Dec.{ltb, leb}
use lib.ListN.{length, get_or, drop, length-drop, drop_of_length-le}
use lib.Seq.{drop-cons}
use borrow.Author.Tests.{leb-true, ltb-true, ltb-false, le-leb, lt-ltb}
use Rattle.std.specs.Prelude.{None, Some}
use Rattle.lists.proofs.Cases.{both_left, both_right}
use Rattle.answer.specs.Limits.{longest}
use Rattle.bright.specs.declared.Bookmark.{Bookmark}
use Rattle.bright.specs.declared.Step.{Step}
use Rattle.bright.specs.declared.Stretch.{Stretch}
use Rattle.bright.specs.Stretches.{stretches, no_stretch}
use Rattle.bright.specs.Reading.{Run, top_level, top_holds, climbed, todo, Stop, step_from}
use Rattle.bright.specs.Generator.{Layout, stack_of, is_ready, beginning, coming, stop_at, Follows}
use Rattle.bright.specs.Nesting.{stretch_at}
use Rattle.bright.specs.Steps.{Ready, Begins, Closes, Ends, Falls, Finds}
use Rattle.bright.proofs.Model.{todo-stretches}
use Rattle.bright.proofs.Stack.{stack_top, stack_below, stack_length}
use Rattle.bright.proofs.Turn.{climbed-more, climbed-same, holds_not}
use Rattle.bright.proofs.Stops.{stop_grow, from_stop, stop-comes, stop-inside}

some-none : {s : Step} → Some s ≡ None → ⊥
some-none e = cc

-- ---- the test of a bookmark

pub ready-test : (f m : List ℕ) (p : Bookmark) → Ready f m p → is_ready (length f) (length m) p ≡ true
ready-test f m p r =
    rw (
      le-leb (length f) longest r.pixels,
      le-leb (4 * length f) (length m) r.room,
      le-leb p.read (length f) r.read,
      le-leb p.depth p.read r.depth,
    )

pub test-ready : (f m : List ℕ) (p : Bookmark) → is_ready (length f) (length m) p ≡ true → Ready f m p
test-ready f m p e =
    let pixels = leb (length f) longest in
    let room = leb (4 * length f) (length m) in
    let read = leb p.read (length f) in
    let depth = leb p.depth p.read in
    let e₁ : (room && (read && depth)) ≡ true = both_right pixels (room && (read && depth)) e in
    let e₂ : (read && depth) ≡ true = both_right room (read && depth) e₁ in
    record {
      pixels = leb-true (length f) longest (both_left pixels (room && (read && depth)) e);
      room = leb-true (4 * length f) (length m) (both_left room (read && depth) e₁);
      read = leb-true p.read (length f) (both_left read depth e₂);
      depth = leb-true p.depth p.read (both_right read depth e₂);
    }

-- whatever the layout of a run
module _ (run : Layout) where
  pub coming-beginning : (f m : List ℕ) → length f ≤ longest → 4 * length f ≤ length m → coming run f m beginning ≡ stretches f
  unfolding stack_of
  coming-beginning f m pixels room =
      rw (ready-test f m beginning (record { pixels = pixels; room = room; read = omega arith; depth = le_refl 0 })) (todo-stretches f)

  -- ---- the first run

  module _ (f m : List ℕ) (p : Bookmark) (r : Ready f m p) where
    pub begins-first : (m' : List ℕ) (v : ℕ) → p.depth ≡ 0 → (p.read ≡ length f → ⊥) → v ≡ get_or f p.read 0 → length m' ≡ length m
        → stack_of run m' 1 ≡ record { start = p.read; level = v } ∷ stack_of run m 0 → Begins run f m p m' (record { read = p.read + 1; depth = 1 })
    unfolding stack_of
    begins-first m' v z ne p-v same e =
        let s : p.read + 1 ≡ suc p.read = omega arith in
        let h : p.read < length f = omega (arith, r.read) in
        record {
          ready = record { pixels = r.pixels; room = omega (arith, r.room); read = omega arith; depth = omega arith };
          same = rw (z, s, drop-cons f p.read 0 h, ← p-v, e) (stop_grow p.read v (drop (suc p.read) f) [] (omega arith));
          none = λ q. absurd (omega arith);
        }

  -- ---- the climb

  -- from the bookmark p with the scratch o the reading has come to `read`, and the topmost of `depth` runs is at `level`
  pub record Climbing (f o : List ℕ) (p : Bookmark) (m : List ℕ) (read depth level : ℕ) : Type 0 where
    pub ready : Ready f m (record { read = read; depth = depth })
    pub some : 0 < depth
    pub top : level ≡ top_level (stack_of run m depth)
    pub same : stop_at run f o p ≡ stop_at run f m (record { read = read; depth = depth })
    pub kept : length m ≡ length o

  module _ (f o : List ℕ) (p : Bookmark) (m : List ℕ) (read depth top : ℕ) (g : Climbing f o p m read depth top) where
    module _ (h : read < length f) where
      -- a pixel of at least the topmost run's level ends none
      turn : top_level (stack_of run m depth) ≤ get_or f read 0
          → stop_at run f m (record { read = read; depth = depth }) ≡ step_from (read + 1) (drop (read + 1) f) (climbed read (get_or f read 0) (stack_of run m depth))
      turn l =
          let s : read + 1 ≡ suc read = omega arith in
          rw (s, drop-cons f read 0 h) (stop_grow read (get_or f read 0) (drop (suc read) f) (stack_of run m depth) l)

      -- the run that the pixel would open is stored above the others, and counted where it is brighter
      pub climbing_more : top ≤ get_or f read 0 → (m' : List ℕ) (d : ℕ) → length m' ≡ length m
          → stack_of run m' (suc depth) ≡ record { start = read; level = get_or f read 0 } ∷ stack_of run m depth → d ≡ cond (ltb top (get_or f read 0)) (depth + 1) depth
          → Climbing f o p m' (read + 1) d (get_or f read 0)
      climbing_more l m' d same e e-d = go (ltb top (get_or f read 0)) refl
        where
          one : depth + 1 ≡ suc depth
          one = omega arith

          on : stop_at run f o p ≡ step_from (read + 1) (drop (read + 1) f) (climbed read (get_or f read 0) (stack_of run m depth))
          on = g.same ∙ turn (omega (arith, g.top))

          go : (t : Bool) → ltb top (get_or f read 0) ≡ t → Climbing f o p m' (read + 1) d (get_or f read 0)
          go true t =
              let up : top_level (stack_of run m depth) < get_or f read 0 = omega (arith, ltb-true top (get_or f read 0) t, g.top) in
              let k : d ≡ suc depth = e-d ∙ rw t one in
              record {
                ready = record { pixels = g.ready.pixels; room = omega (arith, g.ready.room); read = omega arith; depth = omega (arith, g.ready.depth) };
                some = omega arith;
                top = rw (k, e);
                same = on ∙ rw (climbed-more read (get_or f read 0) (stack_of run m depth) up, k, e);
                kept = same ∙ g.kept;
              }
          go false t =
              let level : get_or f read 0 ≡ top = omega (arith, ltb-false top (get_or f read 0) t) in
              let k : d ≡ depth = e-d ∙ rw t in
              let below : stack_of run m' depth ≡ stack_of run m depth = stack_below run m' depth (record { start = read; level = get_or f read 0 }) (stack_of run m depth) e in
              let s = stack_top run m depth g.some in
              let under : get_or f read 0 ≤ (run m (depth - 1)).level = omega (arith, g.top, ap top_level s) in
              let stays : climbed read (get_or f read 0) (stack_of run m depth) ≡ stack_of run m depth =
              rw s (climbed-same read (get_or f read 0) (run m (depth - 1)) (stack_of run m (depth - 1)) under) in
              record {
                ready = record { pixels = g.ready.pixels; room = omega (arith, g.ready.room); read = omega arith; depth = omega (arith, g.ready.depth) };
                some = omega (arith, g.some);
                top = rw (k, below) (level ∙ g.top);
                same = on ∙ rw (stays, k, below);
                kept = same ∙ g.kept;
              }

  -- ---- the fall

  module _ (f m : List ℕ) (p : Bookmark) (start under : ℕ) (n : Ends run f m p start under) where
    abbrev v : ℕ
    v = get_or f p.read 0

    abbrev last : ℕ
    last = p.depth - 1

    abbrev lowered : List Run
    lowered = record { start = start; level = v } ∷ stack_of run m last

    -- the run goes on at the pixel's level, so that the pixel is read
    falls-put : (m' : List ℕ) → top_holds v (stack_of run m last) ≡ false → stack_of run m' (suc last) ≡ lowered → Falls run f m p m' (record { read = p.read + 1; depth = p.depth })
    falls-put m' low e =
        let d : suc last ≡ p.depth = omega (arith, n.closes.some) in
        record { reads = rw (low, add-one); leaves = rw (low, ← n.from) (rw d at e) }

    pub falls-first : (m' : List ℕ) → last ≡ 0 → stack_of run m' (suc last) ≡ lowered → Falls run f m p m' (record { read = p.read + 1; depth = p.depth })
    unfolding stack_of
    falls-first m' z e = falls-put m' (rw z) e

    pub falls-low : (m' : List ℕ) → under < v → stack_of run m' (suc last) ≡ lowered → Falls run f m p m' (record { read = p.read + 1; depth = p.depth })
    falls-low m' l e = falls-put m' (holds_not v (stack_of run m last) (omega (arith, n.below))) e

    pub falls_pop : (last ≡ 0 → ⊥) → v ≤ under → Falls run f m p m (record { read = p.read; depth = last })
    falls_pop z l =
        let t = stack_top run m last (omega arith) in
        let held : top_holds v (stack_of run m last) ≡ true = rw t (le-leb v (run m (last - 1)).level (omega (arith, n.below, ap top_level t))) in
        record { reads = rw held; leaves = rw held }

  -- ---- the stretch found

  module _ (f m : List ℕ) (p : Bookmark) (start level under : ℕ) (n : Ends run f m p start under) (e : level ≡ top_level (stack_of run m p.depth)) where
    abbrev closes : Closes run f m p
    closes = n.closes

    top-run : stack_of run m p.depth ≡ record { start = start; level = level } ∷ stack_of run m (p.depth - 1)
    top-run =
        let t = stack_top run m p.depth closes.some in
        t ∙ rw (n.from, e ∙ ap top_level t)

    pub finds_end : p.read ≡ length f
        → Finds run f m p m (record { stretch = record { start = start; end = p.read; level = level; base = under }; bookmark = record { read = p.read; depth = p.depth - 1 } })
    unfolding step_from
    finds_end q =
        let h : length f ≤ p.read = omega arith in
        rw (drop_of_length-le f h, top-run, n.below)

    pub finds_fall : (m' : List ℕ) (base : ℕ) (q : Bookmark) → p.read < length f → base ≡ max (get_or f p.read 0) under → Falls run f m p m' q
        → Finds run f m p m' (record { stretch = record { start = start; end = p.read; level = level; base = base }; bookmark = q })
    unfolding step_from
    finds_fall m' base q h e-base g =
        let l : get_or f p.read 0 < level = omega (arith, closes.stops h) in
        rw (e-base, n.below, g.reads, g.leaves, ← n.from, top-run, drop-cons f p.read 0 h, lt-ltb (get_or f p.read 0) level l)

  -- ---- the ways out of a step

  module _ (f m : List ℕ) (p : Bookmark) where
    pub follows-none : (m' : List ℕ) → Ready f m p → p.depth ≡ 0 → p.read ≡ length f → m' ≡ m → Follows run f m p m' None
    unfolding stack_of step_from
    follows-none m' r z e same =
        let h : length f ≤ p.read = omega arith in
        record { steps = rw (ready-test f m p r, drop_of_length-le f h, z); leaves = same; kept = ap length same }

    pub follows-found : Ready f m p → (m₁ m' : List ℕ) (q : Bookmark) (s : Step) → stop_at run f m p ≡ stop_at run f m₁ q → Finds run f m₁ q m' s → length m' ≡ length m
        → Follows run f m p m' (Some s)
    follows-found ready m₁ m' q s same g k =
        let e = same ∙ g in
        record { steps = rw (ready-test f m p ready, e, stack_length run m' s.bookmark.depth); leaves = rw e; kept = k }

-- ---- what is to come after a step

-- what a step that finds a stretch hands back
abbrev found_at : Stop → Step
found_at s = record { stretch = s.stretch; bookmark = record { read = s.read; depth = length s.runs } }

-- where a reading can stand at p
module _ (run : Layout) (f m : List ℕ) (p : Bookmark) (e : is_ready (length f) (length m) p ≡ true) where
  comes : coming run f m p ≡ from_stop f (stop_at run f m p)
  comes = rw e (stop-comes f p.read (drop p.read f) (stack_of run m p.depth) refl)

  -- it can stand where the step leaves it, too
  still : (m' : List ℕ) → length m' ≡ length m → Ready f m' (found_at (stop_at run f m p)).bookmark
  still m' kept =
      let ready = test-ready f m p e in
      let line : p.read + length (drop p.read f) ≤ length f = omega (arith, length-drop p.read f, ready.read) in
      let few : length (stack_of run m p.depth) ≤ p.read = omega (arith, stack_length run m p.depth, ready.depth) in
      let inside = stop-inside (length f) p.read (drop p.read f) (stack_of run m p.depth) line few in
      record { pixels = ready.pixels; room = omega (arith, kept, ready.room); read = inside.0; depth = inside.1 }

module _ {run : Layout} {f m : List ℕ} {p : Bookmark} {m' : List ℕ} {s : Step} (g : Follows run f m p m' (Some s)) where
  abbrev stop : Stop
  stop = stop_at run f m p

  -- a step finds a stretch only where a reading can stand, and a run ends
  ends : (is_ready (length f) (length m) p ≡ true) × (stop.found ≡ true)
  ends = go (is_ready (length f) (length m) p) refl stop.found refl
    where
      go : (t : Bool) → is_ready (length f) (length m) p ≡ t → (u : Bool) → stop.found ≡ u → (is_ready (length f) (length m) p ≡ true) × (stop.found ≡ true)
      go true e true y = (e, y)
      go true e false n = absurd (some-none (g.steps ∙ rw (e, n)))
      go false e u y = absurd (some-none (g.steps ∙ rw e))

  pub next-found : stop.found ≡ true
  next-found = ends.1

  pub next-handed : s ≡ found_at stop
  next-handed =
      let e : Some s ≡ Some (found_at stop) = rw (ends.0, next-found) at g.steps in
      cc

  pub next-left : coming run f m' s.bookmark ≡ todo stop.read (drop stop.read f) stop.runs
  next-left = rw (g.leaves, next-handed, ready-test f m' (found_at stop).bookmark (still run f m p ends.0 m' g.kept))

  pub coming-next : coming run f m p ≡ s.stretch ∷ coming run f m' s.bookmark
  coming-next = comes run f m p ends.0 ∙ rw (next-found, next-left, next-handed)

  pub next-room : 4 * s.bookmark.depth ≤ length m'
  next-room =
      let ready = still run f m p ends.0 m' g.kept in
      rw next-handed (omega (arith, ready.room, ready.read, ready.depth))

pub coming-none : {run : Layout} {f m : List ℕ} {p : Bookmark} {m' : List ℕ} → Follows run f m p m' None → coming run f m p ≡ []
coming-none {run} {f} {m} {p} g = go (is_ready (length f) (length m) p) refl (stop_at run f m p).found refl
  where
    go : (t : Bool) → is_ready (length f) (length m) p ≡ t → (u : Bool) → (stop_at run f m p).found ≡ u → coming run f m p ≡ []
    go true e true y = absurd (some-none {s = found_at (stop_at run f m p)} (sym (g.steps ∙ rw (e, y))))
    go true e false n = comes run f m p e ∙ rw n
    go false e u y = rw e

-- where those to come are the list ss from the place i on
pub place_none : {run : Layout} {f m : List ℕ} {p : Bookmark} {m' : List ℕ} → Follows run f m p m' None → (ss : List Stretch) (i : ℕ) → coming run f m p ≡ drop i ss
    → length ss ≤ i
place_none g ss i others = omega (arith, ap length (sym others ∙ coming-none g), length-drop i ss)

module _ {run : Layout} {f m : List ℕ} {p : Bookmark} {m' : List ℕ} {s : Step} (g : Follows run f m p m' (Some s)) (ss : List Stretch) (i : ℕ) (others : coming run f m p ≡ drop i ss) where
  first : drop i ss ≡ s.stretch ∷ coming run f m' s.bookmark
  first = sym others ∙ coming-next g

  pub place_inside : i < length ss
  place_inside = omega (arith, ap length first, length-drop i ss)

  apart : stretch_at ss i ∷ drop (suc i) ss ≡ s.stretch ∷ coming run f m' s.bookmark
  apart = sym (drop-cons ss i no_stretch place_inside) ∙ first

  pub place_found : s.stretch ≡ stretch_at ss i
  place_found = let e = apart in cc

  pub place-others : coming run f m' s.bookmark ≡ drop (i + 1) ss
  place-others = let e = apart in rw (add-one i) cc
