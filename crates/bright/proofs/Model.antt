-- The reading with a stack gives the list of bright stretches: `todo-stretches`.
-- The open runs at b are the starts whose pixel before is darker than all from the start to b. That list, made by a test of every start, obeys what a pixel does to the
-- stack (`settles`, `opens-next`), and the stretches that end at b are those of it that the pixel at b ends (`ends`).
--   is_open f a b               the pixel before a, where there is one, is darker than all from a to b − 1
--   open_suc                    .. which is one comparison
--   stretch_mid, stretch_end    a stretch is an open run that the pixel at its end, or the line's, ends
--   behind_mid, behind_end      the pixel behind a run
--   todo-stretches              from the start on, with no run open, the list of bright stretches is to come
-- Assumes nothing.
use mathlib.Core.Path.{◌≡◌, refl, sym, ap, ◌∙◌}
use mathlib.Core.Bool.{Bool, true, false, cond, ◌&&◌}
use mathlib.Core.List.{List, [], ◌∷◌, ◌++◌, append-nil, append_assoc}
use Prim.Native.Nat.{ℕ, zero, suc, ◌+◌, ◌≤◌, ◌<◌, min, max}
use native.Mathlib.Nat.{le_refl}
use native.Mathlib.Omega.{arith}
use lib.Dec.{ltb, leb}
use lib.ListN.{length, get_or, drop}
use lib.Seq.{drop-cons, drop-length}
use borrow.Author.Tests.{ltb-true, ltb-false, lt-ltb, le-ltb, leb-true, leb-false}
use Rattle.lists.specs.Tables.{each, keep}
use Rattle.lists.specs.Extremes.{greatest}
use Rattle.bright.specs.declared.Stretch.{Stretch}
use Rattle.bright.specs.Stretches.{before, behind, darker, level_of, is_stretch, base_of, stretch_of, ending_at, stretches}
use Rattle.bright.specs.Reading.{Run, top_level, top_holds, top_below, ended, settled, climbed, ending, todo}
use Rattle.bright.proofs.Levels.{level-one, level-down, level-up, level-part}

-- is the pixel before a darker than all from a to b - 1?
unfoldable pub is_open : List ℕ → ℕ → ℕ → Bool
is_open f a b = darker (level_of f a b) (before f a)

-- the runs open at b that start before a, the latest start first
opens : List ℕ → ℕ → ℕ → List Run
opens f b zero = []
opens f b (suc a) = keep (is_open f a b) (record { start = a; level = level_of f a b }) ++ opens f b a

and_true : (t : Bool) → (t && true) ≡ t
and_true true = refl
and_true false = refl

darker-append : (l : ℕ) (xs ys : List ℕ) → darker l (xs ++ ys) ≡ (darker l xs && darker l ys)
darker-append l [] ys = refl
darker-append l (x ∷ xs) ys = go (ltb x l) (darker-append l xs ys)
  where
    go : (t : Bool) → darker l (xs ++ ys) ≡ (darker l xs && darker l ys) → (t && darker l (xs ++ ys)) ≡ ((t && darker l xs) && darker l ys)
    go true ih = ih
    go false ih = refl

module _ (f : List ℕ) where
  pub open_suc : (a b : ℕ) → is_open f (suc a) b ≡ ltb (get_or f a 0) (level_of f (suc a) b)
  unfolding is_open
  open_suc a b = and_true (ltb (get_or f a 0) (level_of f (suc a) b))

  Top : ℕ → ℕ → Type 0
  Top b a = (r : Run) × (rs : List Run) × (opens f b (suc a) ≡ r ∷ rs) × (r.level ≡ level_of f a b)

  -- the run on top of those that start before a + 1 has the level of the run from a
  top : (b a : ℕ) → a < b → b ≤ length f → Top b a
  unfolding Top opens is_open
  top b zero h n = (record { start = 0; level = level_of f 0 b }, [], refl, refl)
  top b (suc a) h n = go (is_open f (suc a) b) refl (top b a (omega arith) n)
    where
      go : (t : Bool) → is_open f (suc a) b ≡ t → Top b a → Top b (suc a)
      go true e t = (record { start = suc a; level = level_of f (suc a) b }, opens f b (suc a), simp e, refl)
      go false e t =
          let g : level_of f (suc a) b ≤ get_or f a 0 = ltb-false _ _ (sym (open_suc a b) ∙ e) in
          (t.0, t.1, simp (e, t.2), omega (arith, t.3, level-down f a b h n))

  pub behind_mid : (b : ℕ) → b < length f → behind f b ≡ get_or f b 0 ∷ []
  behind_mid b h = rw (drop-cons f b 0 h)

  pub behind_end : behind f (length f) ≡ []
  behind_end = rw (lib.Seq.drop-length f)

  pub stretch_mid : (a b : ℕ) → b < length f → is_stretch f a b ≡ (is_open f a b && ltb (get_or f b 0) (level_of f a b))
  unfolding is_stretch is_open
  stretch_mid a b h =
      rw (behind_mid b h) (darker-append (level_of f a b) (before f a) (get_or f b 0 ∷ []) ∙ rw (and_true (ltb (get_or f b 0) (level_of f a b))))

  pub stretch_end : (a : ℕ) → is_stretch f a (length f) ≡ is_open f a (length f)
  unfolding is_stretch is_open
  stretch_end a = rw (behind_end, append-nil (before f a))

  -- the pixel before an open run has the level of the run below it
  below : (a b : ℕ) → suc a < b → b ≤ length f → is_open f (suc a) b ≡ true → top_level (opens f b (suc a)) ≡ get_or f a 0
  unfolding Top
  below a b h n e =
      let t = top b a (omega arith) n in
      let g : get_or f a 0 < level_of f (suc a) b = ltb-true _ _ (sym (open_suc a b) ∙ e) in
      rw t.2 (omega (arith, t.3, level-down f a b h n))

  base_mid : (a b : ℕ) → a < b → b < length f → is_open f a b ≡ true → max (get_or f b 0) (top_level (opens f b a)) ≡ base_of f a b
  unfolding opens greatest
  base_mid zero b h n e = rw (behind_mid b n)
  base_mid (suc a) b h n e = rw (behind_mid b n) (omega (arith, below a b h (omega arith) e))

  base_end : (a : ℕ) → a < length f → is_open f a (length f) ≡ true → top_level (opens f (length f) a) ≡ base_of f a (length f)
  unfolding opens greatest
  base_end zero h e = rw behind_end
  base_end (suc a) h e = rw behind_end (omega (arith, below a (length f) h (omega arith) e))

  -- ---- the stretches that end at b

  and_false : (t : Bool) → (t && false) ≡ false
  and_false true = refl
  and_false false = refl

  -- no run that is not brighter than the pixel at b ends there
  none_end : (k c b : ℕ) → k ≤ suc c → c < b → b < length f → level_of f c b ≤ get_or f b 0 → ending_at f b k ≡ []
  unfolding ending_at
  none_end zero c b h k n e = refl
  none_end (suc a) c b h k n e =
      let q : level_of f a b ≤ level_of f c b = level-part f a b c b (omega arith) k (le_refl b) (omega arith) in
      let s : is_stretch f a b ≡ false =
      stretch_mid a b n ∙ rw (le-ltb (get_or f b 0) (level_of f a b) (omega arith)) (and_false (is_open f a b)) in
      rw s (none_end a c b (omega arith) k n e)

  ends : (k b : ℕ) → k ≤ b → b < length f → ended b (get_or f b 0) (opens f b k) ≡ ending_at f b k
  unfolding opens ending_at ended stretch_of
  ends zero b h n = refl
  ends (suc a) b h n = go (is_open f a b) refl (ltb (get_or f b 0) (level_of f a b)) refl (ends a b (omega arith) n)
    where
      go : (o : Bool) → is_open f a b ≡ o → (t : Bool) → ltb (get_or f b 0) (level_of f a b) ≡ t
          → ended b (get_or f b 0) (opens f b a) ≡ ending_at f b a → ended b (get_or f b 0) (opens f b (suc a)) ≡ ending_at f b (suc a)
      go false o t e ih = simp (stretch_mid a b n, o) ih
      go true o true e ih = simp (stretch_mid a b n, o, e, base_mid a b h n o, ih)
      go true o false e ih = simp (stretch_mid a b n, o, e) (sym (none_end a a b (omega arith) h n (ltb-false _ _ e)))

  ends_last : (k : ℕ) → k ≤ length f → ending (length f) (opens f (length f) k) ≡ ending_at f (length f) k
  unfolding opens ending_at ending stretch_of
  ends_last zero h = refl
  ends_last (suc a) h = go (is_open f a (length f)) refl (ends_last a (omega arith))
    where
      go : (o : Bool) → is_open f a (length f) ≡ o → ending (length f) (opens f (length f) a) ≡ ending_at f (length f) a
          → ending (length f) (opens f (length f) (suc a)) ≡ ending_at f (length f) (suc a)
      go false o ih = simp (stretch_end a, o) ih
      go true o ih = simp (stretch_end a, o, base_end a h o, ih)

  -- ---- what a pixel does to the open runs

  -- a run that is not brighter than the pixel at b goes on as it was
  keeps : (k c b : ℕ) → k ≤ suc c → c < b → b < length f → level_of f c b ≤ get_or f b 0 → opens f (suc b) k ≡ opens f b k
  unfolding opens is_open
  keeps zero c b h k n e = refl
  keeps (suc a) c b h k n e =
      let q : level_of f a b ≤ level_of f c b = level-part f a b c b (omega arith) k (le_refl b) (omega arith) in
      let s : level_of f a (suc b) ≡ level_of f a b = omega (arith, level-up f a b (omega arith) n) in
      rw (s, keeps a c b (omega arith) k n e)

  -- a start that is not open stays so
  shut : (a b : ℕ) → a < b → b < length f → is_open f a b ≡ false → is_open f a (suc b) ≡ false
  unfolding is_open
  shut zero b h n e = e
  shut (suc a) b h n e =
      let g : level_of f (suc a) b ≤ get_or f a 0 = ltb-false _ _ (sym (open_suc a b) ∙ e) in
      let k : level_of f (suc a) (suc b) ≤ get_or f a 0 = omega (arith, level-up f (suc a) b h n) in
      open_suc a (suc b) ∙ le-ltb _ _ k

  holds : (a b : ℕ) → suc a < b → b ≤ length f → is_open f (suc a) b ≡ true → (v : ℕ) → top_holds v (opens f b (suc a)) ≡ leb v (get_or f a 0)
  unfolding Top
  holds a b h n e v =
      let t = top b a (omega arith) n in
      rw t.2 (ap (leb v) (sym (ap top_level t.2) ∙ below a b h n e))

  -- an open run brighter than the pixel at b goes on at the pixel's level, where the pixel before it is darker still
  lowered : (a b : ℕ) → a < b → b < length f → is_open f a b ≡ true → get_or f b 0 < level_of f a b
      → opens f (suc b) a ≡ settled (get_or f b 0) (opens f b a)
      → keep (is_open f a (suc b)) (record { start = a; level = get_or f b 0 }) ++ opens f (suc b) a
      ≡ cond (top_holds (get_or f b 0) (opens f b a)) (settled (get_or f b 0) (opens f b a)) (record { start = a; level = get_or f b 0 } ∷ opens f b a)
  unfolding opens is_open
  lowered zero b h n o e ih = refl
  lowered (suc a) b h n o e ih = go (leb (get_or f b 0) (get_or f a 0)) refl
    where
      same : level_of f (suc a) (suc b) ≡ get_or f b 0
      same = omega (arith, level-up f (suc a) b h n)

      test : is_open f (suc a) (suc b) ≡ ltb (get_or f a 0) (get_or f b 0)
      test = open_suc a (suc b) ∙ ap (ltb (get_or f a 0)) same

      go : (t : Bool) → leb (get_or f b 0) (get_or f a 0) ≡ t
          → keep (is_open f (suc a) (suc b)) (record { start = suc a; level = get_or f b 0 }) ++ opens f (suc b) (suc a)
          ≡ cond (top_holds (get_or f b 0) (opens f b (suc a))) (settled (get_or f b 0) (opens f b (suc a)))
          (record { start = suc a; level = get_or f b 0 } ∷ opens f b (suc a))
      go true t =
          let i : is_open f (suc a) (suc b) ≡ false = test ∙ le-ltb (get_or f a 0) (get_or f b 0) (leb-true (get_or f b 0) (get_or f a 0) t) in
          let j : top_holds (get_or f b 0) (opens f b (suc a)) ≡ true = holds a b h (omega arith) o (get_or f b 0) ∙ t in
          rw (i, j) ih
      go false t =
          let i : is_open f (suc a) (suc b) ≡ true = test ∙ lt-ltb (get_or f a 0) (get_or f b 0) (leb-false (get_or f b 0) (get_or f a 0) t) in
          let j : top_holds (get_or f b 0) (opens f b (suc a)) ≡ false = holds a b h (omega arith) o (get_or f b 0) ∙ t in
          let g : get_or f a 0 < get_or f b 0 = leb-false _ _ t in
          let k : opens f (suc b) (suc a) ≡ opens f b (suc a) =
          keeps (suc a) a b (omega arith) (omega arith) n (omega (arith, level-down f a b h (omega arith))) in
          rw (i, j, k)

  settles : (k b : ℕ) → k ≤ b → b < length f → opens f (suc b) k ≡ settled (get_or f b 0) (opens f b k)
  unfolding opens settled
  settles zero b h n = refl
  settles (suc a) b h n = go (is_open f a b) refl (ltb (get_or f b 0) (level_of f a b)) refl (settles a b (omega arith) n)
    where
      up : level_of f a (suc b) ≡ min (level_of f a b) (get_or f b 0)
      up = level-up f a b h n

      go : (o : Bool) → is_open f a b ≡ o → (t : Bool) → ltb (get_or f b 0) (level_of f a b) ≡ t
          → opens f (suc b) a ≡ settled (get_or f b 0) (opens f b a) → opens f (suc b) (suc a) ≡ settled (get_or f b 0) (opens f b (suc a))
      go false o t e ih = rw (o, shut a b h n o) ih
      go true o false e ih =
          let g : level_of f a b ≤ get_or f b 0 = ltb-false _ _ e in
          simp (keeps (suc a) a b (omega arith) h n g, o, e)
      go true o true e ih =
          let g : get_or f b 0 < level_of f a b = ltb-true _ _ e in
          let s : level_of f a (suc b) ≡ get_or f b 0 = omega (arith, up) in
          rw (o, s, e) (lowered a b h n o g ih)

  -- the run from b alone is open where the pixel at b outshines every other open run
  newly : (b : ℕ) → b < length f → is_open f b (suc b) ≡ top_below (get_or f b 0) (opens f (suc b) b)
  unfolding opens is_open Top
  newly zero n = refl
  newly (suc a) n =
      let t = top (suc (suc a)) a (omega arith) n in
      let l : level_of f (suc a) (suc (suc a)) ≡ get_or f (suc a) 0 = level-one f (suc a) n in
      let m : t.0.level ≡ min (get_or f a 0) (get_or f (suc a) 0) = omega (arith, t.3, level-down f a (suc (suc a)) (omega arith) n) in
      open_suc a (suc (suc a)) ∙ ap (ltb (get_or f a 0)) l ∙ sym (rw t.2 (ap (λ (x : ℕ). ltb x (get_or f (suc a) 0)) m ∙ capped (get_or f a 0) (get_or f (suc a) 0)))
    where
      capped : (x v : ℕ) → ltb (min x v) v ≡ ltb x v
      capped x v = go (ltb x v) refl
        where
          go : (t : Bool) → ltb x v ≡ t → ltb (min x v) v ≡ ltb x v
          go true t =
              let q : x < v = ltb-true x v t in
              let r : min x v < v = omega arith in
              lt-ltb (min x v) v r ∙ sym t
          go false t =
              let q : v ≤ x = ltb-false x v t in
              let r : v ≤ min x v = omega arith in
              le-ltb (min x v) v r ∙ sym t

  -- the open runs after the pixel at b
  opens-next : (b : ℕ) → b < length f → opens f (suc b) (suc b) ≡ climbed b (get_or f b 0) (settled (get_or f b 0) (opens f b b))
  unfolding opens
  opens-next b n =
      rw (← settles b b (omega arith) n, level-one f b n, newly b n)
      (keep_cond (top_below (get_or f b 0) (opens f (suc b) b)) (record { start = b; level = get_or f b 0 }) (opens f (suc b) b))
    where
      keep_cond : (t : Bool) (x : Run) (xs : List Run) → keep t x ++ xs ≡ cond t (x ∷ xs) xs
      keep_cond true x xs = refl
      keep_cond false x xs = refl

  -- ---- the whole reading

  abbrev Ending : ℕ → List Stretch
  Ending b = ending_at f (suc b) (suc b)

  reads : (m b : ℕ) → suc b + m ≡ length f → each Ending b ++ todo (suc b) (drop (suc b) f) (opens f (suc b) (suc b)) ≡ each Ending (length f)
  unfolding todo each
  reads zero b h =
      let e : suc b ≡ length f = omega arith in
      rw (e, drop-length f, ends_last (length f) (le_refl (length f)), ← e)
  reads (suc m) b h =
      let n : suc b < length f = omega arith in
      rw (drop-cons f (suc b) 0 n, ends (suc b) (suc b) (le_refl (suc b)) n, ← opens-next (suc b) n, ← append_assoc)
      (reads m (suc b) (omega arith))

-- the list of bright stretches is what the reading finds from the start on, with no run open
pub todo-stretches : (f : List ℕ) → todo 0 f [] ≡ stretches f
unfolding stretches opens todo each ended settled ending
todo-stretches [] = refl
todo-stretches (v ∷ ps) = rw (opens-next (v ∷ ps) 0 (omega arith)) at (reads (v ∷ ps) (length ps) 0 (omega arith))
