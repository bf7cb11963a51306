-- How many stretches a line has, from the levels of the open runs alone: `stretches-count`; and no more than it has pixels: `stretches-few`.
--   kept v ls, pushed v ls      the levels that a pixel v leaves, and these with v on top
--   tally ps ls                 how many stretches are still to come, of the pixels ps with the levels ls open
--   tally_pop, -none, -push, -same    what one pixel does to that number
--   levels_in a d               the first d levels in an array, the last on top
--   rising ls                   each level is at least as high as there are levels below it
--   Going                       where a count stands; going_start, -first, -pop, -room, -push, -same, -end
-- Assumes nothing.
use mathlib.Core.Path.{◌≡◌, refl, sym, ap, ◌∙◌}
use mathlib.Core.Bool.{Bool, true, false, cond}
use mathlib.Core.List.{List, [], ◌∷◌}
use Prim.Native.Nat.{ℕ, zero, suc, ◌+◌, ◌-◌, ◌≤◌, ◌<◌, max}
use native.Mathlib.Nat.{le_refl}
use native.Mathlib.Omega.{arith}
use lib.Dec.{ltb}
use lib.ListN.{length, get_or, set, drop, length-append, length-set, drop_of_length-le}
use lib.Seq.{drop-cons, get_or-set_same, get_or-set_other}
use borrow.Author.Tests.{lt-ltb, le-ltb, leb-false}
use Rattle.bright.specs.Stretches.{stretches}
use Rattle.bright.specs.Reading.{Run, top_level, top_holds, closed, ended, settled, climbed, ending, todo}
use Rattle.bright.proofs.Model.{todo-stretches}

abbrev levels : List Run → List ℕ
levels [] = []
levels (r ∷ rs) = r.level ∷ levels rs

-- the levels that v leaves
abbrev pub kept : ℕ → List ℕ → List ℕ
kept v [] = []
kept v (l ∷ ls) = cond (ltb v l) (kept v ls) (l ∷ ls)

-- the levels with v on top
abbrev pub pushed : ℕ → List ℕ → List ℕ
pushed v [] = v ∷ []
pushed v (l ∷ ls) = cond (ltb l v) (v ∷ (l ∷ ls)) (l ∷ ls)

-- how many stretches are still to come, of the pixels ps with these levels open
pub tally : List ℕ → List ℕ → ℕ
tally [] ls = length ls
tally (v ∷ ps) ls = (length ls - length (kept v ls)) + tally ps (pushed v (kept v ls))

kept_le : (v : ℕ) (ls : List ℕ) → length (kept v ls) ≤ length ls
kept_le v [] = omega arith
kept_le v (l ∷ ls) = go (ltb v l) (kept_le v ls)
  where
    go : (t : Bool) → length (kept v ls) ≤ length ls → length (cond t (kept v ls) (l ∷ ls)) ≤ length (l ∷ ls)
    go true ih = omega arith
    go false ih = omega arith

-- a level above v goes, and counts
pub tally_pop : (v : ℕ) (ps : List ℕ) (l : ℕ) (ls : List ℕ) → v < l → tally (v ∷ ps) (l ∷ ls) ≡ suc (tally (v ∷ ps) ls)
unfolding tally
tally_pop v ps l ls h = rw (lt-ltb v l h) (omega (arith, kept_le v ls))

-- none goes
pub tally-none : (v : ℕ) (ps : List ℕ) → tally (v ∷ ps) [] ≡ tally ps (v ∷ [])
unfolding tally
tally-none v ps = omega arith

pub tally_push : (v : ℕ) (ps : List ℕ) (l : ℕ) (ls : List ℕ) → l < v → tally (v ∷ ps) (l ∷ ls) ≡ tally ps (v ∷ (l ∷ ls))
unfolding tally
tally_push v ps l ls h =
    let k : l ≤ v = omega arith in
    simp (le-ltb v l k, lt-ltb l v h) (omega arith)

pub tally-same : (v : ℕ) (ps : List ℕ) (l : ℕ) (ls : List ℕ) → l ≤ v → v ≤ l → tally (v ∷ ps) (l ∷ ls) ≡ tally ps (l ∷ ls)
unfolding tally
tally-same v ps l ls h k = simp (le-ltb v l h, le-ltb l v k) (omega arith)

-- the levels follow the runs
length-levels : (rs : List Run) → length (levels rs) ≡ length rs
length-levels [] = refl
length-levels (r ∷ rs) = ap suc (length-levels rs)

ended-length : (b v : ℕ) (rs : List Run) → length (ended b v rs) + length (kept v (levels rs)) ≡ length (levels rs)
unfolding ended
ended-length b v [] = refl
ended-length b v (r ∷ rs) = go (ltb v r.level) (ended-length b v rs)
  where
    go : (t : Bool) → length (ended b v rs) + length (kept v (levels rs)) ≡ length (levels rs)
        → length (cond t (closed r b (max v (top_level rs)) ∷ ended b v rs) []) + length (cond t (kept v (levels rs)) (r.level ∷ levels rs))
        ≡ length (r.level ∷ levels rs)
    go true ih = omega arith
    go false ih = omega arith

kept_low : (v : ℕ) (rs : List Run) → top_holds v rs ≡ false → pushed v (kept v (levels rs)) ≡ v ∷ levels rs
kept_low v [] h = refl
kept_low v (r ∷ rs) h =
    let q : r.level < v = leb-false v r.level h in
    let k : r.level ≤ v = omega arith in
    simp (le-ltb v r.level k, lt-ltb r.level v q)

levels-climbed : (b v : ℕ) (rs : List Run) → levels (climbed b v rs) ≡ pushed v (levels rs)
levels-climbed b v [] = refl
levels-climbed b v (r ∷ rs) = go (ltb r.level v)
  where
    go : (t : Bool) → levels (cond t (record { start = b; level = v } ∷ (r ∷ rs)) (r ∷ rs)) ≡ cond t (v ∷ (r.level ∷ levels rs)) (r.level ∷ levels rs)
    go true = refl
    go false = refl

levels-next : (b v : ℕ) (rs : List Run) → levels (climbed b v (settled v rs)) ≡ pushed v (kept v (levels rs))
unfolding settled
levels-next b v [] = refl
levels-next b v (r ∷ rs) = go (ltb v r.level) refl (top_holds v rs) refl (levels-next b v rs)
  where
    go : (t : Bool) → ltb v r.level ≡ t → (u : Bool) → top_holds v rs ≡ u → levels (climbed b v (settled v rs)) ≡ pushed v (kept v (levels rs))
        → levels (climbed b v (settled v (r ∷ rs))) ≡ pushed v (kept v (levels (r ∷ rs)))
    go true e true u ih = simp (e, u) ih
    go true e false u ih = simp (e, u, le-ltb v v (le_refl v)) (sym (kept_low v rs u))
    go false e u w ih = simp e (levels-climbed b v (r ∷ rs))

ending-length : (b : ℕ) (rs : List Run) → length (ending b rs) ≡ length (levels rs)
unfolding ending
ending-length b [] = refl
ending-length b (r ∷ rs) = ap suc (ending-length b rs)

todo-length : (b : ℕ) (ps : List ℕ) (rs : List Run) → length (todo b ps rs) ≡ tally ps (levels rs)
unfolding todo tally
todo-length b [] rs = ending-length b rs
todo-length b (v ∷ ps) rs =
    let e : length (ended b v rs) + length (kept v (levels rs)) ≡ length (levels rs) = ended-length b v rs in
    let t : length (todo (suc b) ps (climbed b v (settled v rs))) ≡ tally ps (pushed v (kept v (levels rs))) =
    todo-length (suc b) ps (climbed b v (settled v rs)) ∙ ap (tally ps) (levels-next b v rs) in
    length-append (ended b v rs) (todo (suc b) ps (climbed b v (settled v rs))) ∙ omega arith

-- the count of the bright stretches
pub stretches-count : (f : List ℕ) → length (stretches f) ≡ tally f []
stretches-count f = sym (ap length (todo-stretches f)) ∙ todo-length 0 f []

pushed_le : (v : ℕ) (ls : List ℕ) → length (pushed v ls) ≤ suc (length ls)
pushed_le v [] = omega arith
pushed_le v (l ∷ ls) = go (ltb l v)
  where
    go : (t : Bool) → length (cond t (v ∷ (l ∷ ls)) (l ∷ ls)) ≤ suc (length (l ∷ ls))
    go true = omega arith
    go false = omega arith

tally_le : (ps ls : List ℕ) → tally ps ls ≤ length ls + length ps
unfolding tally
tally_le [] ls = omega arith
tally_le (v ∷ ps) ls = omega (arith, kept_le v ls, pushed_le v (kept v ls), tally_le ps (pushed v (kept v ls)))

-- a line has at most as many bright stretches as pixels
pub stretches-few : (f : List ℕ) → length (stretches f) ≤ length f
stretches-few f = omega (arith, stretches-count f, tally_le f [])

-- ---- the levels in an array, the last on top

pub levels_in : List ℕ → ℕ → List ℕ
levels_in a zero = []
levels_in a (suc d) = get_or a d 0 ∷ levels_in a d

-- each level is at least as high as there are levels below it
pub rising : List ℕ → Type 0
rising [] = Unit {0}
rising (l ∷ ls) = (length ls ≤ l) × rising ls

levels_in_length : (a : List ℕ) (d : ℕ) → length (levels_in a d) ≡ d
unfolding levels_in
levels_in_length a zero = refl
levels_in_length a (suc d) = ap suc (levels_in_length a d)

levels_in_set : (a : List ℕ) (i v d : ℕ) → d ≤ i → levels_in (set a i v) d ≡ levels_in a d
unfolding levels_in
levels_in_set a i v zero h = refl
levels_in_set a i v (suc d) h = rw (get_or-set_other a i d v 0 (λ e. omega arith), levels_in_set a i v d (omega arith))

levels_in_push : (a : List ℕ) (v d : ℕ) → d < length a → levels_in (set a d v) (d + 1) ≡ v ∷ levels_in a d
unfolding levels_in
levels_in_push a v d h =
    let e : d + 1 ≡ suc d = omega arith in
    rw (e, get_or-set_same a d v 0 h, levels_in_set a d v d (le_refl d))

levels_in_top : (a : List ℕ) (d : ℕ) → (d ≡ 0 → ⊥) → levels_in a d ≡ get_or a (d - 1) 0 ∷ levels_in a (d - 1)
unfolding levels_in
levels_in_top a zero h = absurd (h refl)
levels_in_top a (suc d) h =
    let e : suc d - 1 ≡ d = omega arith in
    rw e

-- where a count stands, with a place for each of `most` levels
pub record Going (most : ℕ) (f a : List ℕ) (depth total read : ℕ) : Type 0 where
  pub inside : read ≤ length f
  pub size : length a ≡ most
  pub few : total + depth ≤ read
  pub places : depth ≤ most
  pub rise : rising (levels_in a depth)
  pub sum : total + tally (drop read f) (levels_in a depth) ≡ length (stretches f)

pub going_start : (most : ℕ) (f a : List ℕ) → length a ≡ most → Going most f a 0 0 0
unfolding levels_in rising
going_start most f a h = record { inside = omega arith; size = h; few = omega arith; places = omega arith; rise = tt; sum = omega (arith, stretches-count f) }

module _ (most : ℕ) (f a : List ℕ) (depth total read v : ℕ) (g : Going most f a depth total read) (h : read < length f) (e : v ≡ get_or f read 0) where
  next-pixel : drop read f ≡ v ∷ drop (read + 1) f
  next-pixel =
      let s : read + 1 ≡ suc read = omega arith in
      rw (s, e) (drop-cons f read 0 h)

  pub going-first : v < most → depth ≡ 0 → Going most f (set a depth v) (depth + 1) total (read + 1)
  unfolding levels_in rising
  going-first b z =
      let p : levels_in (set a 0 v) 1 ≡ v ∷ [] = rw (get_or-set_same a 0 v 0 (omega (arith, g.size))) in
      let s : total + tally (v ∷ drop (read + 1) f) [] ≡ length (stretches f) = rw (z, next-pixel) at g.sum in
      rw z (record {
        inside = omega arith;
        size = length-set a 0 v ∙ g.size;
        few = omega (arith, g.few);
        places = omega arith;
        rise = rw (get_or-set_same a 0 v 0 (omega (arith, g.size))) (omega arith, tt);
        sum = rw p (omega (arith, tally-none v (drop (read + 1) f)));
      })

  module _ (z : depth ≡ 0 → ⊥) where
    top-rise : (length (levels_in a (depth - 1)) ≤ get_or a (depth - 1) 0) × rising (levels_in a (depth - 1))
    unfolding rising
    top-rise = rw (levels_in_top a depth z) at g.rise

    top-sum : total + tally (v ∷ drop (read + 1) f) (get_or a (depth - 1) 0 ∷ levels_in a (depth - 1)) ≡ length (stretches f)
    top-sum = rw (levels_in_top a depth z, next-pixel) at g.sum

    pub going_pop : v < get_or a (depth - 1) 0 → Going most f a (depth - 1) (total + 1) read
    going_pop k =
        record {
          inside = omega arith;
          size = g.size;
          few = omega (arith, g.few);
          places = omega (arith, g.places);
          rise = top-rise.1;
          sum = rw next-pixel (omega (arith, top-sum, tally_pop v (drop (read + 1) f) (get_or a (depth - 1) 0) (levels_in a (depth - 1)) k));
        }

    pub going-room : v < most → get_or a (depth - 1) 0 < v → depth < most
    going-room b k = omega (arith, top-rise.0, levels_in_length a (depth - 1))

    pub going_push : v < most → get_or a (depth - 1) 0 < v → Going most f (set a depth v) (depth + 1) total (read + 1)
    unfolding rising
    going_push b k =
        let q : depth < length a = omega (arith, going-room b k, g.size) in
        let o : levels_in (set a depth v) (depth + 1) ≡ v ∷ (get_or a (depth - 1) 0 ∷ levels_in a (depth - 1)) =
        levels_in_push a v depth q ∙ ap (λ (x : List ℕ). v ∷ x) (levels_in_top a depth z) in
        record {
          inside = omega arith;
          size = length-set a depth v ∙ g.size;
          few = omega (arith, g.few);
          places = omega (arith, going-room b k);
          rise = rw o (omega (arith, top-rise.0), top-rise);
          sum = rw o (omega (arith, top-sum, tally_push v (drop (read + 1) f) (get_or a (depth - 1) 0) (levels_in a (depth - 1)) k));
        }

    pub going-same : v ≤ get_or a (depth - 1) 0 → get_or a (depth - 1) 0 ≤ v → Going most f a depth total (read + 1)
    going-same k l =
        record {
          inside = omega arith;
          size = g.size;
          few = omega (arith, g.few);
          places = g.places;
          rise = g.rise;
          sum = rw (levels_in_top a depth z) (omega (arith, top-sum, tally-same v (drop (read + 1) f) (get_or a (depth - 1) 0) (levels_in a (depth - 1)) l k));
        }

pub going_end : (most : ℕ) (f a : List ℕ) (depth total read : ℕ) → Going most f a depth total read → length f ≤ read → total + depth ≡ length (stretches f)
unfolding tally
going_end most f a depth total read g h =
    let s : total + length (levels_in a depth) ≡ length (stretches f) = rw (drop_of_length-le f h) at g.sum in
    omega (arith, levels_in_length a depth)
