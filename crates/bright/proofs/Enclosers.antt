-- Which stretch of the list encloses which: the laws of places.
--   shortest_mem, -le, -none        the place chosen is one of those, none of those is of a shorter stretch, and it is the own place where there are none
--   Surrounds ss i j                the stretch at j is another that encloses that at i; enclosing_in, in_enclosing: by the test, and as facts
--   shortest-other                  where there is such a one, the place chosen is that of the shortest
--   low-once                       only one place is the next low one
--   Stands f s                      s is a stretch of f, with its four numbers; listed_at: each of the list is
--   stretch-at, start-inside        each stretch is at some place of the list, and starts on the line
--   crossing, later-longer          two stretches that share a pixel are one within the other, and the later in the list is the longer
--   whole-last, last-whole          the whole line is the last of the list, and no other is
--   encloser_shortest               each but the last has another that encloses it
--   shortest-next                   the shortest that does is at the next low place
--   encloser_next, next_encloser    so there is the encloser: the fast rule; encloser_own: the last has its own place
--   encloser_inside                 each encloser is in the list
--   encloser_right, right-once      the place chosen is right, and no other is
--   encloser_base                   the base of a stretch is the level of its encloser
-- Assumes nothing.
use mathlib.Core.Path.{◌≡◌, refl, sym, ap, ◌∙◌}
use mathlib.Core.Bool.{Bool, true, false, not, cond, ◌&&◌}
use mathlib.Core.List.Memᴰ
use mathlib.Core.List.{List, [], ◌∷◌, Memᴰ}
use mathlib.Core.Logic.{◌⊎◌, inl, inr, ⊎_elim}
use Prim.Native.Nat.{ℕ, suc, ◌-◌, ◌≤◌, ◌<◌}
use native.Mathlib.Nat.{le_refl}
use native.Mathlib.Omega.{arith}
use lib.Dec.{ltb, leb, eqb}
use lib.ListN.{length}
use borrow.Author.Tests.{ltb-true, ltb-false, leb-true, le-leb, eqb-false, ne_eqb, not-true}
use Rattle.lists.proofs.Cases.{less_or_not, both_left, both_right}
use Rattle.lists.proofs.Members.{all-at, mem_at}
use Rattle.lists.proofs.Picks.{those_mem, those_in}
use Rattle.bright.specs.declared.Stretch.{Stretch}
use Rattle.bright.specs.Stretches.{level_of, base_of, stretch_of, long, stretches, Bright, ListedBefore, no_stretch}
use Rattle.bright.specs.Nesting.{stretch_at, encloses, enclosing, shortest, encloser_of, WholeLine, ShortestOther, RightPlace, NextLow}
use Rattle.bright.proofs.Levels.{level-pixel}
use Rattle.bright.proofs.Listed.{all_intro, stretch-listed}
use Rattle.bright.proofs.Order.{stretches-ordered, ordered-before}
use Rattle.bright.proofs.Nest.{Encloser, base_encloser}

-- ---- of any list

module _ (ss : List Stretch) where
  shortest_mem : (own : ℕ) (js : List ℕ) (k : ℕ) → Memᴰ k js → Memᴰ (shortest ss own js) js
  unfolding shortest
  shortest_mem own [] k m = absurd (Memᴰ.not-nil m)
  shortest_mem own (j ∷ []) k m = Memᴰ.head refl
  shortest_mem own (j ∷ (l ∷ ls)) k m = go (ltb (long (stretch_at ss r)) (long (stretch_at ss j))) (shortest_mem own (l ∷ ls) l (Memᴰ.head refl))
    where
      r : ℕ
      r = shortest ss own (l ∷ ls)

      go : (t : Bool) → Memᴰ r (l ∷ ls) → Memᴰ (cond t r j) (j ∷ (l ∷ ls))
      go true n = Memᴰ.tail n
      go false n = Memᴰ.head refl

  shortest_le : (own : ℕ) (js : List ℕ) (k : ℕ) → Memᴰ k js → long (stretch_at ss (shortest ss own js)) ≤ long (stretch_at ss k)
  unfolding shortest
  shortest_le own [] k m = absurd (Memᴰ.not-nil m)
  shortest_le own (j ∷ []) k m = let e : k ≡ j = Memᴰ.eq_of_singleton m in rw e (le_refl (long (stretch_at ss j)))
  shortest_le own (j ∷ (l ∷ ls)) k m = go (ltb (long (stretch_at ss r)) (long (stretch_at ss j))) refl (Memᴰ.cases_cons m) (shortest_le own (l ∷ ls) k)
    where
      r : ℕ
      r = shortest ss own (l ∷ ls)

      go : (t : Bool) → ltb (long (stretch_at ss r)) (long (stretch_at ss j)) ≡ t → (k ≡ j) ⊎ Memᴰ k (l ∷ ls)
          → (Memᴰ k (l ∷ ls) → long (stretch_at ss r) ≤ long (stretch_at ss k)) → long (stretch_at ss (cond t r j)) ≤ long (stretch_at ss k)
      go true t (inl e) ih = rw e (omega (arith, ltb-true (long (stretch_at ss r)) (long (stretch_at ss j)) t))
      go true t (inr n) ih = ih n
      go false t (inl e) ih = rw e (le_refl (long (stretch_at ss j)))
      go false t (inr n) ih = omega (arith, ltb-false (long (stretch_at ss r)) (long (stretch_at ss j)) t, ih n)

  shortest-none : (own : ℕ) (js : List ℕ) → ((j : ℕ) → Memᴰ j js → ⊥) → shortest ss own js ≡ own
  unfolding shortest
  shortest-none own [] h = refl
  shortest-none own (j ∷ js) h = absurd (h j (Memᴰ.head refl))

  record Surrounds (i j : ℕ) : Type 0 where
    inside : j < length ss
    other : j ≡ i → ⊥
    starts : (stretch_at ss j).start ≤ (stretch_at ss i).start
    ends : (stretch_at ss i).end ≤ (stretch_at ss j).end

  -- the test by which `enclosing` picks
  abbrev is_outer : ℕ → ℕ → Bool
  is_outer i j = not (eqb j i) && encloses (stretch_at ss j) (stretch_at ss i)

  enclosing_in : (i j : ℕ) → Surrounds i j → Memᴰ j (enclosing ss i)
  enclosing_in i j s =
      those_in (is_outer i) (λ (k : ℕ). k) (length ss) j s.inside
      (rw (ne_eqb j i s.other, le-leb (stretch_at ss j).start (stretch_at ss i).start s.starts, le-leb (stretch_at ss i).end (stretch_at ss j).end s.ends))

  in_enclosing : (i j : ℕ) → Memᴰ j (enclosing ss i) → Surrounds i j
  in_enclosing i j m =
      let p = those_mem (is_outer i) (λ (k : ℕ). k) (length ss) j m in
      let e : j ≡ p.i = p.is in
      rw e (passed p.i p.below p.passed)
    where
      passed : (k : ℕ) → k < length ss → is_outer i k ≡ true → Surrounds i k
      passed k h t =
          let u = both_right (not (eqb k i)) (encloses (stretch_at ss k) (stretch_at ss i)) t in
          record {
            inside = h;
            other = eqb-false k i (not-true (eqb k i) (both_left (not (eqb k i)) (encloses (stretch_at ss k) (stretch_at ss i)) t));
            starts = leb-true _ _ (both_left (leb (stretch_at ss k).start (stretch_at ss i).start) (leb (stretch_at ss i).end (stretch_at ss k).end) u);
            ends = leb-true _ _ (both_right (leb (stretch_at ss k).start (stretch_at ss i).start) (leb (stretch_at ss i).end (stretch_at ss k).end) u);
          }

  shortest-other : (i k : ℕ) → Surrounds i k → ShortestOther ss i (encloser_of ss i)
  shortest-other i k s =
      let a = in_enclosing i (encloser_of ss i) (shortest_mem i (enclosing ss i) k (enclosing_in i k s)) in
      record {
        inside = a.inside;
        other = a.other;
        starts = a.starts;
        ends = a.ends;
        least = λ j p q r t. shortest_le i (enclosing ss i) j (enclosing_in i j (record { inside = p; other = q; starts = r; ends = t }));
      }

  low-once : (i j k : ℕ) → NextLow ss i j → NextLow ss i k → j ≡ k
  low-once i j k u v = go (less_or_not j k) (less_or_not k j)
    where
      go : (j < k) ⊎ (k ≤ j) → (k < j) ⊎ (j ≤ k) → j ≡ k
      go (inl p) q = absurd (omega (arith, u.low, v.between j u.after p))
      go (inr p) (inl q) = absurd (omega (arith, v.low, u.between k v.after q))
      go (inr p) (inr q) = omega arith

-- ---- of the list of a line

record Stands (f : List ℕ) (s : Stretch) : Type 0 where
  bright : Bright f s.start s.end
  level : s.level ≡ level_of f s.start s.end
  base : s.base ≡ base_of f s.start s.end

module _ (f : List ℕ) where
  abbrev ss : List Stretch
  ss = stretches f

  listed_at : (i : ℕ) → i < length ss → Stands f (stretch_at ss i)
  unfolding stretch_of
  listed_at i h = all-at (Stands f) no_stretch ss i (all_intro (Stands f) f (λ a b s. record { bright = s; level = refl; base = refl })) h

  stretch-at : (a b : ℕ) → Bright f a b → (k : ℕ) × (k < length ss) × (stretch_at ss k ≡ stretch_of f a b)
  stretch-at a b s = mem_at no_stretch (stretch_of f a b) ss (stretch-listed f a b s)

  pub start-inside : (i : ℕ) → i < length ss → (stretch_at ss i).start < length f
  start-inside i h = let s = (listed_at i h).bright in omega (arith, s.some, s.inside)

  listed_order : (i j : ℕ) → i < j → j < length ss → ListedBefore (stretch_at ss i) (stretch_at ss j)
  listed_order i j h k = ordered-before no_stretch ss i j (stretches-ordered f) h k

  later-ends : (i j : ℕ) → i < j → j < length ss → (stretch_at ss i).end ≤ (stretch_at ss j).end
  later-ends i j h k = ⊎_elim (λ p. omega arith) (λ p. omega (arith, p.0)) (listed_order i j h k)

  -- else the pixel before the later start and that at the earlier end would each be darker than the other
  crossing : (a b c d : ℕ) → Bright f a b → Bright f c d → a < c → c < b → b < d → ⊥
  crossing a b c d s t p q r =
      omega (
        arith,
        level-pixel f a b (c - 1) (omega arith) (omega arith) s.inside,
        level-pixel f c d b (omega arith) r t.inside,
        s.right (omega (arith, t.inside)),
        t.left (c - 1) (omega arith),
      )

  later-longer : (i j : ℕ) → i < j → j < length ss → (stretch_at ss j).start < (stretch_at ss i).end → long (stretch_at ss i) < long (stretch_at ss j)
  later-longer i j h k l = go (listed_order i j h k) (less_or_not (stretch_at ss i).start (stretch_at ss j).start)
    where
      s : Bright f (stretch_at ss i).start (stretch_at ss i).end
      s = (listed_at i (omega arith)).bright

      go : ListedBefore (stretch_at ss i) (stretch_at ss j) → ((stretch_at ss i).start < (stretch_at ss j).start) ⊎ ((stretch_at ss j).start ≤ (stretch_at ss i).start) → long (stretch_at ss i) < long (stretch_at ss j)
      go (inl p) (inl q) = absurd (crossing (stretch_at ss i).start (stretch_at ss i).end (stretch_at ss j).start (stretch_at ss j).end s (listed_at j k).bright q l p)
      go (inl p) (inr q) = omega (arith, s.some)
      go (inr p) q = omega (arith, p.0, p.1, s.some)

  -- ---- the whole line is the last

  pub whole-last : (i : ℕ) → i < length ss → WholeLine (length f) (stretch_at ss i) → i ≡ length ss - 1
  whole-last i h w =
      ⊎_elim
      (λ (p : i < length ss - 1).
      absurd (⊎_elim (λ q. omega (arith, w.1, (listed_at (length ss - 1) (omega arith)).bright.inside)) (λ q. omega (arith, q.1, w.0))
      (listed_order i (length ss - 1) p (omega arith))))
      (λ (p : length ss - 1 ≤ i). omega arith)
      (less_or_not i (length ss - 1))

  pub last-whole : 0 < length f → WholeLine (length f) (stretch_at ss (length ss - 1))
  unfolding stretch_of
  last-whole some =
      let p =
      stretch-at 0 (length f) (record { some = some; inside = le_refl (length f); left = λ j e. absurd (omega arith); right = λ h. absurd (omega arith) }) in
      let w : WholeLine (length f) (stretch_at ss p.0) = (ap (λ (s : Stretch). s.start) p.2, ap (λ (s : Stretch). s.end) p.2) in
      rw (whole-last p.0 p.1 w) at w

  -- the whole line encloses each other
  encloser_shortest : (i : ℕ) → suc i < length ss → ShortestOther ss i (encloser_of ss i)
  encloser_shortest i h =
      shortest-other ss i (length ss - 1) (record {
        inside = omega arith;
        other = λ e. omega arith;
        starts = omega (arith, (last-whole (omega (arith, start-inside i (omega arith)))).0);
        ends = later-ends i (length ss - 1) (omega arith) (omega arith);
      })

  -- ---- the fast rule

  -- the other stretches that enclose one are behind it in the list
  surrounds_later : (i j : ℕ) → i < length ss → (j ≡ i → ⊥) → (stretch_at ss j).start ≤ (stretch_at ss i).start → (stretch_at ss i).end ≤ (stretch_at ss j).end → i < j
  surrounds_later i j h n p q = go (less_or_not i j) (less_or_not j i)
    where
      go : (i < j) ⊎ (j ≤ i) → (j < i) ⊎ (i ≤ j) → i < j
      go (inl l) m = l
      go (inr l) (inl m) = absurd (⊎_elim (λ b. omega arith) (λ b. omega (arith, b.1)) (listed_order j i m h))
      go (inr l) (inr m) = absurd (n (omega arith))

  shortest-next : (i j : ℕ) → i < length ss → ShortestOther ss i j → NextLow ss i j
  shortest-next i j h s =
      record { after = surrounds_later i j h s.other s.starts s.ends; inside = s.inside; low = s.starts; between = between }
    where
      between : (k : ℕ) → i < k → k < j → (stretch_at ss i).start < (stretch_at ss k).start
      between k p q =
          ⊎_elim
          (λ (l : (stretch_at ss i).start < (stretch_at ss k).start). l)
          (λ (l : (stretch_at ss k).start ≤ (stretch_at ss i).start).
          let n : k < length ss = omega (arith, s.inside) in
          let e : (stretch_at ss i).end ≤ (stretch_at ss k).end = later-ends i k p n in
          absurd (omega (arith, s.least k n (λ z. omega arith) l e, later-longer k j q s.inside (omega (arith, s.starts, (listed_at i h).bright.some)))))
          (less_or_not (stretch_at ss i).start (stretch_at ss k).start)

  pub encloser_next : (i : ℕ) → suc i < length ss → NextLow ss i (encloser_of ss i)
  encloser_next i h = shortest-next i (encloser_of ss i) (omega arith) (encloser_shortest i h)

  -- the next in the list that does not start after one is the shortest other that encloses it
  pub next_encloser : (i j : ℕ) → NextLow ss i j → encloser_of ss i ≡ j
  next_encloser i j u = low-once ss i (encloser_of ss i) j (encloser_next i (omega (arith, u.after, u.inside))) u

  pub encloser_own : (i : ℕ) → i < length ss → i ≡ length ss - 1 → encloser_of ss i ≡ i
  encloser_own i h e =
      shortest-none ss i (enclosing ss i)
      (λ j m. let s = in_enclosing ss i j m in omega (arith, s.inside, surrounds_later i j h s.other s.starts s.ends))

  pub encloser_inside : (i : ℕ) → i < length ss → encloser_of ss i < length ss
  encloser_inside i h =
      ⊎_elim
      (λ (p : suc i < length ss). (encloser_next i p).inside)
      (λ (p : length ss ≤ suc i). rw (encloser_own i h (omega arith)) h)
      (less_or_not (suc i) (length ss))

  -- ---- exactly one place is right

  pub encloser_right : (i : ℕ) → i < length ss → RightPlace (length f) ss i (encloser_of ss i)
  encloser_right i h = go (less_or_not (suc i) (length ss))
    where
      go : (suc i < length ss) ⊎ (length ss ≤ suc i) → RightPlace (length f) ss i (encloser_of ss i)
      go (inl p) = inr ((λ w. omega (arith, whole-last i h w)), encloser_shortest i p)
      go (inr p) =
          let e : i ≡ length ss - 1 = omega arith in
          inl (rw e (last-whole (omega (arith, start-inside i h))), encloser_own i h e)

  pub right-once : (i j k : ℕ) → i < length ss → RightPlace (length f) ss i j → RightPlace (length f) ss i k → j ≡ k
  right-once i j k h (inl p) (inl q) = p.1 ∙ sym q.1
  right-once i j k h (inl p) (inr q) = absurd (q.0 p.0)
  right-once i j k h (inr p) (inl q) = absurd (p.0 q.0)
  right-once i j k h (inr p) (inr q) = low-once ss i j k (shortest-next i j h p.1) (shortest-next i k h q.1)

  -- ---- the base of a stretch is the level of its encloser

  pub encloser_base : (i : ℕ) → suc i < length ss → (stretch_at ss i).base ≡ (stretch_at ss (encloser_of ss i)).level
  unfolding stretch_of
  encloser_base i h = go (base_encloser f (stretch_at ss i).start (stretch_at ss i).end s.bright short)
    where
      s : Stands f (stretch_at ss i)
      s = listed_at i (omega arith)

      longer : (k : ℕ) → k < length ss → (k ≡ i → ⊥) → (stretch_at ss k).start ≤ (stretch_at ss i).start → (stretch_at ss i).end ≤ (stretch_at ss k).end → long (stretch_at ss i) < long (stretch_at ss k)
      longer k n o p q = later-longer i k (surrounds_later i k (omega arith) o p q) n (omega (arith, s.bright.some))

      short : long (stretch_at ss i) < length f
      short =
          let l = encloser_shortest i h in
          omega (arith, longer (encloser_of ss i) l.inside l.other l.starts l.ends, (listed_at (encloser_of ss i) l.inside).bright.inside)

      go : (c : ℕ) × (d : ℕ) × Encloser f (stretch_at ss i).start (stretch_at ss i).end c d × (level_of f c d ≡ base_of f (stretch_at ss i).start (stretch_at ss i).end)
          → (stretch_at ss i).base ≡ (stretch_at ss (encloser_of ss i)).level
      go w =
          let p = stretch-at w.0 w.1 w.2.bright in
          let q = found p.0 p.1 (ap (λ (t : Stretch). t.start) p.2) (ap (λ (t : Stretch). t.end) p.2) in
          s.base ∙ sym w.3 ∙ sym (ap (λ (t : Stretch). t.level) p.2) ∙ ap (λ (k : ℕ). (stretch_at ss k).level) (sym q)
        where
          found : (k : ℕ) → k < length ss → (stretch_at ss k).start ≡ w.0 → (stretch_at ss k).end ≡ w.1 → encloser_of ss i ≡ k
          found k n a b =
              next_encloser i k (shortest-next i k (omega arith) (record {
                inside = n;
                other = λ e. omega (arith, w.2.longer, ap (λ (j : ℕ). long (stretch_at ss j)) e);
                starts = omega (arith, w.2.before);
                ends = omega (arith, w.2.after);
                least = λ j m o p q.
                    let t = w.2.shortest (stretch_at ss j).start (stretch_at ss j).end (listed_at j m).bright p q (longer j m o p q) in omega (arith, t.0, t.1);
              }))
