-- Where a step stops. Each holds of any runs at all.
--   stop_grow         a pixel that ends no run does not stop it
--   from_stop f s     the stretch found at s and those to come from there, on the line f; nothing where none is found
--   stop-comes        these are the stretches to come from where the step began
--   Inside n s        s is on a line of n pixels, with no more runs open than pixels read
--   stop-inside       a step that begins so stops so
-- Assumes nothing.
use mathlib.Core.Path.{◌≡◌, refl, ◌∙◌}
use mathlib.Core.Bool.{Bool, true, false, cond}
use mathlib.Core.List.{List, [], ◌∷◌}
use Prim.Native.Nat.{ℕ, suc, ◌+◌, ◌≤◌, ◌<◌, max}
use native.Mathlib.Nat.{le_refl}
use native.Mathlib.Numerals.{add-one}
use native.Mathlib.Omega.{arith}
use lib.Dec.{ltb}
use lib.ListN.{length, drop}
use lib.Seq.{drop-drop}
use borrow.Author.Tests.{ltb-true, ltb-false, lt-ltb, le-ltb}
use Rattle.bright.specs.declared.Stretch.{Stretch}
use Rattle.bright.specs.Reading.{Run, top_level, top_holds, closed, ended, settled, climbed, ending, todo, Stop, step_from}
use Rattle.bright.proofs.Turn.{climbed-length, ended-none, low-top, turn_grow}

pub stop_grow : (b v : ℕ) (ps : List ℕ) (rs : List Run) → top_level rs ≤ v → step_from b (v ∷ ps) rs ≡ step_from (suc b) ps (climbed b v rs)
unfolding step_from
stop_grow b v ps [] h = refl
stop_grow b v ps (r ∷ rs) h = rw (le-ltb v r.level h)

-- ---- what comes from there, on the line f

module _ (f : List ℕ) where
  abbrev pub from_stop : Stop → List Stretch
  from_stop s = cond s.found (s.stretch ∷ todo s.read (drop s.read f) s.runs) []

  next-drop : (b v : ℕ) (ps : List ℕ) → drop b f ≡ v ∷ ps → drop (suc b) f ≡ ps
  next-drop b v ps e = rw (← add-one b, ← drop-drop 1 b f, e)

  -- a pixel that ends the topmost run
  stop_fall : (b v : ℕ) (ps : List ℕ) (r : Run) (rs : List Run) → drop b f ≡ v ∷ ps → v < r.level → todo b (v ∷ ps) (r ∷ rs) ≡ from_stop (step_from b (v ∷ ps) (r ∷ rs))
  unfolding todo ended settled step_from
  stop_fall b v ps r rs e h = go (top_holds v rs) refl
    where
      go : (t : Bool) → top_holds v rs ≡ t → todo b (v ∷ ps) (r ∷ rs) ≡ from_stop (step_from b (v ∷ ps) (r ∷ rs))
      go true t = simp (lt-ltb v r.level h, t, e)
      go false t = simp (lt-ltb v r.level h, t, le-ltb v v (le_refl v), ended-none b v rs (low-top v rs t), next-drop b v ps e)

  pub stop-comes : (b : ℕ) (ps : List ℕ) (rs : List Run) → drop b f ≡ ps → todo b ps rs ≡ from_stop (step_from b ps rs)
  unfolding todo ending step_from
  stop-comes b [] [] e = refl
  stop-comes b [] (r ∷ rs) e = rw e
  stop-comes b (v ∷ ps) [] e = turn_grow b v ps [] (omega arith) ∙ stop-comes (suc b) ps (climbed b v []) (next-drop b v ps e)
  stop-comes b (v ∷ ps) (r ∷ rs) e = go (ltb v r.level) refl (stop-comes (suc b) ps (climbed b v (r ∷ rs)) (next-drop b v ps e))
    where
      go : (t : Bool) → ltb v r.level ≡ t → todo (suc b) ps (climbed b v (r ∷ rs)) ≡ from_stop (step_from (suc b) ps (climbed b v (r ∷ rs)))
          → todo b (v ∷ ps) (r ∷ rs) ≡ from_stop (step_from b (v ∷ ps) (r ∷ rs))
      go true t ih = stop_fall b v ps r rs e (ltb-true v r.level t)
      go false t ih = rw t (turn_grow b v ps (r ∷ rs) (ltb-false v r.level t) ∙ ih)

-- ---- how far it comes

abbrev pub Inside : ℕ → Stop → Type 0
Inside n s = (s.read ≤ n) × (length s.runs ≤ s.read)

pub stop-inside : (n b : ℕ) (ps : List ℕ) (rs : List Run) → b + length ps ≤ n → length rs ≤ b → Inside n (step_from b ps rs)
unfolding step_from
stop-inside n b [] [] h k = (omega arith, omega arith)
stop-inside n b [] (r ∷ rs) h k = (omega arith, omega arith)
stop-inside n b (v ∷ ps) [] h k = stop-inside n (suc b) ps (climbed b v []) (omega arith) (omega arith)
stop-inside n b (v ∷ ps) (r ∷ rs) h k =
    go (ltb v r.level) (top_holds v rs) (stop-inside n (suc b) ps (climbed b v (r ∷ rs)) (omega arith) (omega (arith, climbed-length b v (r ∷ rs))))
  where
    go : (t u : Bool) → Inside n (step_from (suc b) ps (climbed b v (r ∷ rs)))
        → Inside n (cond t
        (record { found = true; stretch = closed r b (max v (top_level rs)); read = cond u b (suc b); runs = cond u rs (record { start = r.start; level = v } ∷ rs) })
        (step_from (suc b) ps (climbed b v (r ∷ rs))))
    go true true ih = (omega arith, omega arith)
    go true false ih = (omega arith, omega arith)
    go false u ih = ih
