-- The stretches that hold a pixel x, in the list's order, are a chain: each one's base is the next one's level, and each lies in the next (`holders-chain`).
-- So what they rise over their bases, from a length L on, adds up to the greatest level among them (`gain_reaching`).
--   holders x ss          those stretches of ss that hold x
--   Chain l a e ss        ss is a chain from the level l on, of stretches that start at a or before and end at e or after
--   gain_of L ss          what those of ss that are at least L long rise over their bases
-- Assumes nothing.
use mathlib.Core.Path.{◌≡◌, refl, sym, ap, ◌∙◌}
use mathlib.Core.Bool.{Bool, true, false, cond, ◌&&◌, false≢true}
use mathlib.Core.List.{List, [], ◌∷◌, ◌++◌}
use Prim.Native.Nat.{ℕ, zero, suc, ◌+◌, ◌-◌, ◌≤◌, ◌<◌, max}
use native.Mathlib.Nat.{le_refl}
use native.Mathlib.Omega.{arith}
use lib.Dec.{ltb, leb}
use lib.ListN.{length, get_or}
use borrow.Author.Tests.{ltb-true, ltb-false, lt-ltb, le-ltb, le-leb, lt-leb, leb-true}
use Rattle.lists.specs.Tables.{keep}
use Rattle.lists.specs.Extremes.{greatest}
use Rattle.bright.specs.declared.Stretch.{Stretch}
use Rattle.bright.specs.Stretches.{stretches, long}
use Rattle.bright.specs.Reading.{Run, top_level, top_holds, top_below, closed, ended, settled, climbed, ending, todo}
use Rattle.bright.proofs.Model.{todo-stretches}
use Rattle.bright.proofs.Turn.{ended-none, low-top}
use Rattle.bridge.specs.Reach.{in_stretch, reaching}

unfoldable pub holders : ℕ → List Stretch → List Stretch
holders x [] = []
holders x (s ∷ ss) = keep (in_stretch x s) s ++ holders x ss

-- a chain from the level l on, of stretches that start at a or before and end at e or after
pub Chain : ℕ → ℕ → ℕ → List Stretch → Type 0
Chain l a e [] = l ≡ 0
Chain l a e (s ∷ ss) = (s.level ≡ l) × (s.start ≤ a) × (e ≤ s.end) × (s.base ≤ l) × Chain s.base s.start s.end ss

chain-wide : (l a e b d : ℕ) (ss : List Stretch) → a ≤ b → d ≤ e → Chain l a e ss → Chain l b d ss
unfolding Chain
chain-wide l a e b d [] p q c = c
chain-wide l a e b d (s ∷ ss) p q c = (c.0, omega (arith, c.1), omega (arith, c.2), c.3, c.4)

-- open runs below one another: starts before b, and neither starts nor levels rise downwards
Stack : ℕ → List Run → Type 0
Stack b [] = Unit {0}
Stack b (r ∷ rs) = (r.start < b) × (top_level rs ≤ r.level) × Stack (suc r.start) rs

stack_more : (b d : ℕ) (rs : List Run) → b ≤ d → Stack b rs → Stack d rs
unfolding Stack
stack_more b d [] h s = tt
stack_more b d (r ∷ rs) h s = (omega (arith, s.0), s.1, s.2)

low_below : (v : ℕ) (rs : List Run) → top_below v rs ≡ true → top_level rs ≤ v
low_below v [] h = omega arith
low_below v (r ∷ rs) h = omega (arith, ltb-true r.level v h)

settled-top : (v : ℕ) (rs : List Run) → top_level (settled v rs) ≤ v
unfolding settled
settled-top v [] = omega arith
settled-top v (r ∷ rs) = go (ltb v r.level) refl (top_holds v rs) (settled-top v rs)
  where
    go : (t : Bool) → ltb v r.level ≡ t → (u : Bool) → top_level (settled v rs) ≤ v
        → top_level (cond t (cond u (settled v rs) (record { start = r.start; level = v } ∷ rs)) (r ∷ rs)) ≤ v
    go true t true ih = ih
    go true t false ih = le_refl v
    go false t u ih = ltb-false v r.level t

stack_settled : (b v : ℕ) (rs : List Run) → Stack b rs → Stack b (settled v rs)
unfolding settled Stack
stack_settled b v [] s = tt
stack_settled b v (r ∷ rs) s =
    go (ltb v r.level) (top_holds v rs) refl (stack_settled b v rs (stack_more (suc r.start) b rs s.0 s.2))
  where
    go : (t u : Bool) → top_holds v rs ≡ u → Stack b (settled v rs)
        → Stack b (cond t (cond u (settled v rs) (record { start = r.start; level = v } ∷ rs)) (r ∷ rs))
    go true true e ih = ih
    go true false e ih = (s.0, low-top v rs e, s.2)
    go false u e ih = s

stack_climbed : (b v : ℕ) (rs : List Run) → Stack b rs → Stack (suc b) (climbed b v rs)
unfolding Stack
stack_climbed b v rs s = go (top_below v rs) refl
  where
    go : (t : Bool) → top_below v rs ≡ t → Stack (suc b) (cond t (record { start = b; level = v } ∷ rs) rs)
    go true t = (le_refl (suc b), low_below v rs t, stack_more b (suc b) rs (omega arith) s)
    go false t = stack_more b (suc b) rs (omega arith) s

-- the innermost open run that holds x
abbrev inner_level : ℕ → List Run → ℕ
inner_level x [] = 0
inner_level x (r ∷ rs) = cond (leb r.start x) r.level (inner_level x rs)

abbrev inner_start : ℕ → List Run → ℕ
inner_start x [] = 0
inner_start x (r ∷ rs) = cond (leb r.start x) r.start (inner_start x rs)

-- below a run that holds x it is the topmost
inner_top : (x a : ℕ) (rs : List Run) → a ≤ x → Stack (suc a) rs → (inner_level x rs ≡ top_level rs) × (inner_start x rs ≤ a)
unfolding Stack
inner_top x a [] h s = (refl, omega arith)
inner_top x a (r ∷ rs) h s =
    let e : leb r.start x ≡ true = le-leb r.start x (omega (arith, s.0)) in
    rw e (refl, omega (arith, s.0))

inner_climbed : (x b v : ℕ) (rs : List Run) → x < b → (inner_level x (climbed b v rs) ≡ inner_level x rs) × (inner_start x (climbed b v rs) ≡ inner_start x rs)
inner_climbed x b v rs h = go (top_below v rs)
  where
    e : leb b x ≡ false
    e = lt-leb b x h

    go : (t : Bool) → (inner_level x (cond t (record { start = b; level = v } ∷ rs) rs) ≡ inner_level x rs)
        × (inner_start x (cond t (record { start = b; level = v } ∷ rs) rs) ≡ inner_start x rs)
    go true = (rw e, rw e)
    go false = (refl, refl)

hold_top : (v : ℕ) (rs : List Run) → top_holds v rs ≡ true → v ≤ top_level rs
hold_top v [] h = absurd (false≢true h)
hold_top v (r ∷ rs) h = leb-true v r.level h

-- ---- the chain of a pixel that has been read

held-append : (x : ℕ) (xs ys : List Stretch) → holders x (xs ++ ys) ≡ holders x xs ++ holders x ys
unfolding holders
held-append x [] ys = refl
held-append x (s ∷ xs) ys = go (in_stretch x s) (held-append x xs ys)
  where
    go : (t : Bool) → holders x (xs ++ ys) ≡ holders x xs ++ holders x ys → keep t s ++ holders x (xs ++ ys) ≡ (keep t s ++ holders x xs) ++ holders x ys
    go true ih = ap (λ (l : List Stretch). s ∷ l) ih
    go false ih = ih

module _ (x b v : ℕ) (h : x < b) (hs : List Stretch) where
  inside : ltb x b ≡ true
  inside = lt-ltb x b h

  Before : List Run → Type 0
  Before rs = Chain (inner_level x rs) (inner_start x rs) b (holders x (ended b v rs) ++ hs)

  After : List Run → Type 0
  After rs = Chain (inner_level x (settled v rs)) (inner_start x (settled v rs)) b hs

  ended-chain : (rs : List Run) → Stack b rs → After rs → Before rs
  unfolding Before After holders Chain ended settled Stack
  ended-chain [] s c = c
  ended-chain (r ∷ rs) s c =
      go (ltb v r.level) refl (top_holds v rs) refl (leb r.start x) refl (ended-chain rs (stack_more (suc r.start) b rs s.0 s.2)) c
    where
      go : (t : Bool) → ltb v r.level ≡ t → (u : Bool) → top_holds v rs ≡ u → (o : Bool) → leb r.start x ≡ o
          → (After rs → Before rs) → After (r ∷ rs) → Before (r ∷ rs)
      go true t true u false o ih c = simp (t, o) (ih (simp (t, u) at c))
      go true t true u true o ih c =
          let i = inner_top x r.start rs (leb-true r.start x o) s.2 in
          let m : inner_level x rs ≡ max v (top_level rs) = omega (arith, i.0, hold_top v rs u) in
          let d : Before rs = ih (simp (t, u) at c) in
          simp (t, o, inside) (
            refl,
            le_refl r.start,
            le_refl b,
            omega (arith, ltb-true v r.level t, s.1),
            chain-wide (max v (top_level rs)) (inner_start x rs) b r.start b (holders x (ended b v rs) ++ hs) i.1 (le_refl b) (rw m at d),
          )
      go true t false u false o ih c = simp (t, o, ended-none b v rs (low-top v rs u)) (simp (t, u, o) at c)
      go true t false u true o ih c =
          let m : v ≡ max v (top_level rs) = omega (arith, low-top v rs u) in
          let d : Chain v r.start b hs = simp (t, u, o) at c in
          simp (t, o, inside, ended-none b v rs (low-top v rs u))
          (refl, le_refl r.start, le_refl b, omega (arith, ltb-true v r.level t, s.1), (rw m at d))
      go false t u w o p ih c = simp t (simp t at c)

ending-chain : (x b : ℕ) → x < b → (rs : List Run) → Stack b rs → Chain (inner_level x rs) (inner_start x rs) b (holders x (ending b rs))
unfolding Chain ending holders Stack
ending-chain x b h [] s = refl
ending-chain x b h (r ∷ rs) s = go (leb r.start x) refl (ending-chain x b h rs (stack_more (suc r.start) b rs s.0 s.2))
  where
    go : (o : Bool) → leb r.start x ≡ o → Chain (inner_level x rs) (inner_start x rs) b (holders x (ending b rs))
        → Chain (inner_level x (r ∷ rs)) (inner_start x (r ∷ rs)) b (holders x (ending b (r ∷ rs)))
    go true o ih =
        let i = inner_top x r.start rs (leb-true r.start x o) s.2 in
        simp (o, lt-ltb x b h) (
          refl,
          le_refl r.start,
          le_refl b,
          s.1,
          chain-wide (top_level rs) (inner_start x rs) b r.start b (holders x (ending b rs)) i.1 (le_refl b) (rw i.0 at ih),
        )
    go false o ih = simp o ih

-- of a pixel that has been read
read-chain : (ps : List ℕ) (x b : ℕ) (rs : List Run) → x < b → Stack b rs → Chain (inner_level x rs) (inner_start x rs) b (holders x (todo b ps rs))
unfolding todo Before After
read-chain [] x b rs h s = ending-chain x b h rs s
read-chain (v ∷ ps) x b rs h s =
    let t : Stack (suc b) (climbed b v (settled v rs)) = stack_climbed b v (settled v rs) (stack_settled b v rs s) in
    let c = read-chain ps x (suc b) (climbed b v (settled v rs)) (omega arith) t in
    let i = inner_climbed x b v (settled v rs) h in
    rw (held-append x (ended b v rs) (todo (suc b) ps (climbed b v (settled v rs))))
    (ended-chain x b v h (holders x (todo (suc b) ps (climbed b v (settled v rs)))) rs s
    (chain-wide (inner_level x (settled v rs)) (inner_start x (settled v rs)) (suc b) (inner_start x (settled v rs)) b
    (holders x (todo (suc b) ps (climbed b v (settled v rs)))) (le_refl _) (omega arith) (rw (i.0, i.1) at c)))

-- ---- of a pixel that has not: what ends before it does not hold it

none-held : (x b v : ℕ) (rs : List Run) → b ≤ x → holders x (ended b v rs) ≡ []
unfolding holders ended
none-held x b v [] h = refl
none-held x b v (r ∷ rs) h = go (ltb v r.level) (leb r.start x) (none-held x b v rs h)
  where
    e : ltb x b ≡ false
    e = le-ltb x b h

    go : (t o : Bool) → holders x (ended b v rs) ≡ [] → holders x (cond t (closed r b (max v (top_level rs)) ∷ ended b v rs) []) ≡ []
    go true o ih = simp e (not_held (leb r.start x))
      where
        not_held : (o : Bool) → keep (o && false) (closed r b (max v (top_level rs))) ++ holders x (ended b v rs) ≡ []
        not_held true = ih
        not_held false = ih
    go false o ih = refl

-- the run on top after a pixel v is at its level
new_top : (b v : ℕ) (rs : List Run) → Stack b rs → inner_level b (climbed b v (settled v rs)) ≡ v
unfolding Stack
new_top b v rs s = go (settled v rs) (settled-top v rs) (stack_settled b v rs s)
  where
    go : (ss : List Run) → top_level ss ≤ v → Stack b ss → inner_level b (climbed b v ss) ≡ v
    go [] h s = rw (le-leb b b (le_refl b))
    go (r ∷ ss) h s = by_level (ltb r.level v) refl
      where
        by_level : (t : Bool) → ltb r.level v ≡ t → inner_level b (cond t (record { start = b; level = v } ∷ (r ∷ ss)) (r ∷ ss)) ≡ v
        by_level true t = rw (le-leb b b (le_refl b))
        by_level false t =
            let q : leb r.start b ≡ true = le-leb r.start b (omega (arith, s.0)) in
            rw q (omega (arith, ltb-false r.level v t))

inner_start_lem : (x : ℕ) (rs : List Run) → inner_start x rs ≤ x
inner_start_lem x [] = omega arith
inner_start_lem x (r ∷ rs) = go (leb r.start x) refl (inner_start_lem x rs)
  where
    go : (t : Bool) → leb r.start x ≡ t → inner_start x rs ≤ x → cond t r.start (inner_start x rs) ≤ x
    go true t ih = leb-true r.start x t
    go false t ih = ih

unread : (ps : List ℕ) (i x b : ℕ) (rs : List Run) → x ≡ b + i → i < length ps → Stack b rs
    → Chain (get_or ps i 0) x (suc x) (holders x (todo b ps rs))
unfolding todo
unread [] i x b rs e h s = absurd (omega arith)
unread (v ∷ ps) zero x b rs e h s =
    let q : x ≡ b = omega arith in
    let t : Stack (suc b) (climbed b v (settled v rs)) = stack_climbed b v (settled v rs) (stack_settled b v rs s) in
    let c = read-chain ps b (suc b) (climbed b v (settled v rs)) (le_refl (suc b)) t in
    rw (q, held-append b (ended b v rs) (todo (suc b) ps (climbed b v (settled v rs))), none-held b b v rs (le_refl b))
    (chain-wide v (inner_start b (climbed b v (settled v rs))) (suc b) b (suc b) (holders b (todo (suc b) ps (climbed b v (settled v rs))))
    (inner_start_lem b (climbed b v (settled v rs))) (le_refl (suc b)) (rw (new_top b v rs s) at c))
unread (v ∷ ps) (suc i) x b rs e h s =
    let t : Stack (suc b) (climbed b v (settled v rs)) = stack_climbed b v (settled v rs) (stack_settled b v rs s) in
    rw (held-append x (ended b v rs) (todo (suc b) ps (climbed b v (settled v rs))), none-held x b v rs (omega arith))
    (unread ps i x (suc b) (climbed b v (settled v rs)) (omega arith) (omega arith) t)

-- the stretches that hold a pixel are a chain from the pixel's own level on
pub holders-chain : (f : List ℕ) (x : ℕ) → x < length f → Chain (get_or f x 0) x (suc x) (holders x (stretches f))
unfolding Stack
holders-chain f x h = rw (todo-stretches f) at (unread f x x 0 [] (omega arith) h tt)

-- ---- what a chain rises over its bases

unfoldable pub gain_of : ℕ → List Stretch → ℕ
gain_of L [] = 0
gain_of L (s ∷ ss) = cond (leb L (long s)) (s.level - s.base) 0 + gain_of L ss

pub long_levels : ℕ → List Stretch → List ℕ
long_levels L [] = []
long_levels L (s ∷ ss) = keep (leb L (long s)) s.level ++ long_levels L ss

pub gain_whole : (L l a e : ℕ) (ss : List Stretch) → L ≤ e - a → Chain l a e ss → (gain_of L ss ≡ l) × (greatest (long_levels L ss) ≡ l)
unfolding gain_of long_levels Chain greatest
gain_whole L l a e [] h c = (sym c, sym c)
gain_whole L l a e (s ∷ ss) h c =
    let t : leb L (long s) ≡ true = le-leb L (long s) (omega (arith, c.1, c.2)) in
    let k = gain_whole L s.base s.start s.end ss (omega (arith, c.1, c.2)) c.4 in
    (rw t (omega (arith, k.0, c.0, c.3)), rw t (omega (arith, k.1, c.0, c.3)))

gain_long : (L l a e : ℕ) (ss : List Stretch) → Chain l a e ss → gain_of L ss ≡ greatest (long_levels L ss)
unfolding gain_of long_levels Chain greatest
gain_long L l a e [] c = refl
gain_long L l a e (s ∷ ss) c = go (leb L (long s)) refl (gain_long L s.base s.start s.end ss c.4)
  where
    go : (t : Bool) → leb L (long s) ≡ t → gain_of L ss ≡ greatest (long_levels L ss)
        → cond t (s.level - s.base) 0 + gain_of L ss ≡ greatest (keep t s.level ++ long_levels L ss)
    go true t ih =
        let k = gain_whole L s.base s.start s.end ss (leb-true L (long s) t) c.4 in
        omega (arith, k.0, k.1, c.0, c.3)
    go false t ih = omega (arith, ih)

reach_long : (L x : ℕ) (ss : List Stretch) → reaching L x ss ≡ long_levels L (holders x ss)
unfolding reaching long_levels holders
reach_long L x [] = refl
reach_long L x (s ∷ ss) = go (leb L (long s)) refl (in_stretch x s) refl (reach_long L x ss)
  where
    go : (t : Bool) → leb L (long s) ≡ t → (u : Bool) → in_stretch x s ≡ u → reaching L x ss ≡ long_levels L (holders x ss)
        → keep (leb L (long s) && in_stretch x s) s.level ++ reaching L x ss ≡ long_levels L (keep (in_stretch x s) s ++ holders x ss)
    go true t true u ih = simp (t, u, ih)
    go true t false u ih = simp (t, u, ih)
    go false t true u ih = simp (t, u, ih)
    go false t false u ih = simp (t, u, ih)

-- at each pixel the stretches that hold it, from a length on, rise over their bases to the greatest level among them
pub gain_reaching : (f : List ℕ) (L x : ℕ) → x < length f → gain_of L (holders x (stretches f)) ≡ greatest (reaching L x (stretches f))
gain_reaching f L x h = gain_long L (get_or f x 0) x (suc x) (holders x (stretches f)) (holders-chain f x h) ∙ sym (ap greatest (reach_long L x (stretches f)))
