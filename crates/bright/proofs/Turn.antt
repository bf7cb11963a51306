-- What one pixel does to the open runs, and to the stretches to come where it ends no run. Each holds of any runs at all.
--   climbed-more, climbed-same  a pixel opens a run, or none
--   climbed-length              it opens one at most
--   holds_not                   a run does not hold a pixel that is brighter
--   ended-none, low-top         no run on top is brighter
--   turn_grow                   what is to come at a pixel that ends no run
-- Assumes nothing.
use mathlib.Core.Path.{◌≡◌, refl}
use mathlib.Core.Bool.{Bool, true, false, cond}
use mathlib.Core.List.{List, [], ◌∷◌}
use Prim.Native.Nat.{ℕ, suc, ◌≤◌, ◌<◌}
use native.Mathlib.Nat.{le_refl}
use native.Mathlib.Omega.{arith}
use lib.ListN.{length}
use borrow.Author.Tests.{lt-ltb, le-ltb, lt-leb, leb-false}
use Rattle.bright.specs.Reading.{Run, top_level, top_holds, top_below, ended, settled, climbed, todo}

pub climbed-more : (b v : ℕ) (rs : List Run) → top_level rs < v → climbed b v rs ≡ record { start = b; level = v } ∷ rs
climbed-more b v [] h = refl
climbed-more b v (r ∷ rs) h = rw (lt-ltb r.level v h)

pub climbed-same : (b v : ℕ) (r : Run) (rs : List Run) → v ≤ r.level → climbed b v (r ∷ rs) ≡ r ∷ rs
climbed-same b v r rs h = rw (le-ltb r.level v h)

pub climbed-length : (b v : ℕ) (rs : List Run) → length (climbed b v rs) ≤ suc (length rs)
climbed-length b v rs = go (top_below v rs)
  where
    go : (t : Bool) → length (cond t (record { start = b; level = v } ∷ rs) rs) ≤ suc (length rs)
    go true = le_refl (suc (length rs))
    go false = omega arith

pub holds_not : (v : ℕ) (rs : List Run) → top_level rs < v → top_holds v rs ≡ false
holds_not v [] h = refl
holds_not v (r ∷ rs) h = lt-leb v r.level h

pub low-top : (v : ℕ) (rs : List Run) → top_holds v rs ≡ false → top_level rs ≤ v
low-top v [] h = omega arith
low-top v (r ∷ rs) h = omega (arith, leb-false v r.level h)

pub ended-none : (b v : ℕ) (rs : List Run) → top_level rs ≤ v → ended b v rs ≡ []
unfolding ended
ended-none b v [] h = refl
ended-none b v (r ∷ rs) h = rw (le-ltb v r.level h)

settled_same : (v : ℕ) (rs : List Run) → top_level rs ≤ v → settled v rs ≡ rs
unfolding settled
settled_same v [] h = refl
settled_same v (r ∷ rs) h = rw (le-ltb v r.level h)

pub turn_grow : (b v : ℕ) (ps : List ℕ) (rs : List Run) → top_level rs ≤ v → todo b (v ∷ ps) rs ≡ todo (suc b) ps (climbed b v rs)
unfolding todo
turn_grow b v ps rs h = rw (ended-none b v rs h, settled_same v rs h)
