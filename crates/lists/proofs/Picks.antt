-- Lists of those numbers that a test picks: what stands in them, and what they are where the test picks one number or one stretch.
--   map_each, map-keep, map-those, map-table    a function over such a list
--   each_mem, each_in             what stands in a list made of lists stands in one of them, and the other way round
--   keep_mem, those_mem, those_in what is kept passed its test, and what passes is there
--   those-same                    tests and values alike
--   those-one                     the one number that is t below u
--   those-stretch                 the numbers from `from` on, count of them
--   those-reached                 the greatest of them is one of them
-- Assumes nothing.
use mathlib.Core.Path.{◌≡◌, refl, sym, ap, ap₂, ◌∙◌, subst}
use mathlib.Core.Bool.{Bool, true, false, ◌&&◌}
use mathlib.Core.Logic.{◌⊎◌, inl, inr}
use mathlib.Core.List.Memᴰ
use mathlib.Core.List.{List, [], ◌∷◌, ◌++◌, map, map-append, append-nil, Memᴰ}
use Prim.Native.Nat.{ℕ, zero, suc, ◌+◌, ◌-◌, ◌≤◌, ◌<◌, min}
use native.Mathlib.Omega.{arith}
use borrow.Author.Tests.{eq-eqb, ne_eqb, leb-true, leb-false, ltb-true, ltb-false}
use lib.Dec.{leb, ltb, eqb}
use Rattle.lists.specs.Tables.{each, keep, table, those}
use Rattle.lists.specs.Extremes.{greatest}
use Rattle.lists.proofs.Cases.{less_or_not}
use Rattle.lists.proofs.Tables.{each_same, each_none}
use Rattle.lists.proofs.Extremes.{greatest-none_or}

-- ---- a function over such a list

module _ {A B : Type 0} (h : A → B) where
  pub map-keep : (b : Bool) (a : A) → map h (keep b a) ≡ keep b (h a)
  map-keep true a = refl
  map-keep false a = refl

  pub map_each : (f : ℕ → List A) (n : ℕ) → map h (each f n) ≡ each (λ (i : ℕ). map h (f i)) n
  unfolding each
  map_each f zero = refl
  map_each f (suc n) = map-append h (each f n) (f n) ∙ ap (λ (l : List B). l ++ map h (f n)) (map_each f n)

  pub map-those : (p : ℕ → Bool) (g : ℕ → A) (n : ℕ) → map h (those p g n) ≡ those p (λ (i : ℕ). h (g i)) n
  map-those p g n =
      map_each (λ (i : ℕ). keep (p i) (g i)) n
      ∙ each_same (λ (i : ℕ). map h (keep (p i) (g i))) (λ (i : ℕ). keep (p i) (h (g i))) n (λ i l. map-keep (p i) (g i))

  pub map-table : (g : ℕ → A) (n : ℕ) → map h (table g n) ≡ table (λ (i : ℕ). h (g i)) n
  map-table g n = map_each (λ (i : ℕ). g i ∷ []) n

-- ---- what stands in such a list

module _ {A : Type 0} where
  pub record In (f : ℕ → List A) (n : ℕ) (a : A) : Type 0 where
    pub i : ℕ
    pub below : i < n
    pub there : Memᴰ a (f i)

  pub each_mem : (f : ℕ → List A) (n : ℕ) (a : A) → Memᴰ a (each f n) → In f n a
  unfolding each
  each_mem f zero a m = absurd (Memᴰ.not-nil m)
  each_mem f (suc n) a m = go (each_mem f n a) (Memᴰ.append_cases (each f n) m)
    where
      go : (Memᴰ a (each f n) → In f n a) → Memᴰ a (each f n) ⊎ Memᴰ a (f n) → In f (suc n) a
      go ih (inl h) = let k = ih h in record { i = k.i; below = omega (arith, k.below); there = k.there }
      go ih (inr h) = record { i = n; below = omega arith; there = h }

  pub each_in : (f : ℕ → List A) (n i : ℕ) (a : A) → i < n → Memᴰ a (f i) → Memᴰ a (each f n)
  unfolding each
  each_in f zero i a h m = absurd (omega arith)
  each_in f (suc n) i a h m = go (each_in f n i a) (less_or_not i n)
    where
      go : (i < n → Memᴰ a (f i) → Memᴰ a (each f n)) → (i < n) ⊎ (n ≤ i) → Memᴰ a (each f (suc n))
      go ih (inl l) = Memᴰ.append_left (f n) (ih l m)
      go ih (inr l) =
          let q : i ≡ n = omega arith in
          Memᴰ.append_right (each f n) (subst (λ (k : ℕ). Memᴰ a (f k)) q m)

  pub keep_mem : (t : Bool) (a b : A) → Memᴰ a (keep t b) → (t ≡ true) × (a ≡ b)
  keep_mem true a b m = (refl, Memᴰ.eq_of_singleton m)
  keep_mem false a b m = absurd (Memᴰ.not-nil m)

  pub record Picked (p : ℕ → Bool) (g : ℕ → A) (n : ℕ) (a : A) : Type 0 where
    pub i : ℕ
    pub below : i < n
    pub passed : p i ≡ true
    pub is : a ≡ g i

  pub those_mem : (p : ℕ → Bool) (g : ℕ → A) (n : ℕ) (a : A) → Memᴰ a (those p g n) → Picked p g n a
  those_mem p g n a m =
      let e = each_mem (λ (i : ℕ). keep (p i) (g i)) n a m in
      let k = keep_mem (p e.i) a (g e.i) e.there in
      record { i = e.i; below = e.below; passed = k.0; is = k.1 }

  pub those_in : (p : ℕ → Bool) (g : ℕ → A) (n i : ℕ) → i < n → p i ≡ true → Memᴰ (g i) (those p g n)
  those_in p g n i h e = each_in (λ (i : ℕ). keep (p i) (g i)) n i (g i) h (rw e (Memᴰ.head refl))

  -- ---- what such a list is

  pub those-same : (p q : ℕ → Bool) (g h : ℕ → A) (n : ℕ) → ((i : ℕ) → i < n → p i ≡ q i) → ((i : ℕ) → i < n → g i ≡ h i) → those p g n ≡ those q h n
  those-same p q g h n e f =
      each_same (λ (i : ℕ). keep (p i) (g i)) (λ (i : ℕ). keep (q i) (h i)) n (λ i l. ap₂ keep (e i l) (f i l))

  pub those-none : (p : ℕ → Bool) (g : ℕ → A) (n : ℕ) → ((i : ℕ) → i < n → p i ≡ false) → those p g n ≡ []
  those-none p g n e = each_none (λ (i : ℕ). keep (p i) (g i)) n (λ i l. ap (λ (t : Bool). keep t (g i)) (e i l))

  pub those-stretch : (p : ℕ → Bool) (g : ℕ → A) (n from count : ℕ) → from + count ≤ n
      → ((i : ℕ) → from ≤ i → i < from + count → p i ≡ true) → ((i : ℕ) → i < from → p i ≡ false) → ((i : ℕ) → from + count ≤ i → i < n → p i ≡ false)
      → those p g n ≡ table (λ (i : ℕ). g (from + i)) count
  unfolding each
  those-stretch p g n from count fits inside before behind =
      let all : min (n - from) count ≡ count = omega arith in
      upto n (omega arith) ∙ ap (table (λ (i : ℕ). g (from + i))) all
    where
      upto : (m : ℕ) → m ≤ n → those p g m ≡ table (λ (i : ℕ). g (from + i)) (min (m - from) count)
      upto zero h = let none : min (0 - from) count ≡ 0 = omega arith in sym (ap (table (λ (i : ℕ). g (from + i))) none)
      upto (suc m) h = next (upto m (omega arith)) (less_or_not m from) (less_or_not m (from + count))
        where
          off : those p g m ≡ table (λ (i : ℕ). g (from + i)) (min (m - from) count) → p m ≡ false → min (m - from) count ≡ min (suc m - from) count
              → those p g (suc m) ≡ table (λ (i : ℕ). g (from + i)) (min (suc m - from) count)
          off ih e k = ap (λ (t : Bool). those p g m ++ keep t (g m)) e ∙ append-nil (those p g m) ∙ ih ∙ ap (table (λ (i : ℕ). g (from + i))) k

          next : those p g m ≡ table (λ (i : ℕ). g (from + i)) (min (m - from) count) → (m < from) ⊎ (from ≤ m) → (m < from + count) ⊎ (from + count ≤ m)
              → those p g (suc m) ≡ table (λ (i : ℕ). g (from + i)) (min (suc m - from) count)
          next ih (inl a) b = off ih (before m a) (omega arith)
          next ih (inr a) (inr b) = off ih (behind m b (omega arith)) (omega arith)
          next ih (inr a) (inl b) =
              let k : min (m - from) count ≡ m - from = omega arith in
              let s : min (suc m - from) count ≡ suc (m - from) = omega arith in
              let q : from + (m - from) ≡ m = omega arith in
              ap₂ ◌++◌ (ih ∙ ap (table (λ (i : ℕ). g (from + i))) k) (ap (λ (t : Bool). keep t (g m)) (inside m a b) ∙ ap (λ (x : ℕ). g x ∷ []) (sym q))
              ∙ sym (ap (table (λ (i : ℕ). g (from + i))) s)

  pub those-one : (g : ℕ → A) (t u n : ℕ) → those (λ (b : ℕ). eqb (b + t) u) g n ≡ keep (leb t u && ltb u (t + n)) (g (u - t))
  unfolding each
  those-one g t u n = go (leb t u) refl (ltb u (t + n)) refl
    where
      none : ((b : ℕ) → b < n → b + t ≡ u → ⊥) → those (λ (b : ℕ). eqb (b + t) u) g n ≡ []
      none h = those-none (λ (b : ℕ). eqb (b + t) u) g n (λ b l. ne_eqb (b + t) u (h b l))

      go : (v : Bool) → leb t u ≡ v → (w : Bool) → ltb u (t + n) ≡ w → those (λ (b : ℕ). eqb (b + t) u) g n ≡ keep (leb t u && ltb u (t + n)) (g (u - t))
      go true d true e =
          let l = leb-true t u d in
          let h = ltb-true u (t + n) e in
          let k : u - t + 0 ≡ u - t = omega arith in
          rw (d, e)
          (those-stretch (λ (b : ℕ). eqb (b + t) u) g n (u - t) 1 (omega arith)
          (λ i a b. let q : i + t ≡ u = omega arith in eq-eqb (i + t) u q) (λ i a. ne_eqb (i + t) u (λ q. omega arith)) (λ i a b. ne_eqb (i + t) u (λ q. omega arith))
          ∙ ap (λ (x : ℕ). g x ∷ []) k)
      go true d false e = let k = ltb-false u (t + n) e in rw (d, e) (none (λ b l w. omega arith))
      go false d w e = let k = leb-false t u d in rw d (none (λ b l w. omega arith))

-- the greatest of those values that a test picks is one of them, and 0 where there is none
pub those-reached : (p : ℕ → Bool) (g : ℕ → ℕ) (n : ℕ)
    → ((i : ℕ) × (i < n) × (p i ≡ true) × (g i ≡ greatest (those p g n))) ⊎ (((i : ℕ) → i < n → p i ≡ true → ⊥) × (greatest (those p g n) ≡ 0))
unfolding greatest
those-reached p g n = go (greatest-none_or (those p g n))
  where
    go : (those p g n ≡ []) ⊎ Memᴰ (greatest (those p g n)) (those p g n)
        → ((i : ℕ) × (i < n) × (p i ≡ true) × (g i ≡ greatest (those p g n))) ⊎ (((i : ℕ) → i < n → p i ≡ true → ⊥) × (greatest (those p g n) ≡ 0))
    go (inl e) = inr ((λ i h t. Memᴰ.not-nil (subst (Memᴰ (g i)) e (those_in p g n i h t))), ap greatest e)
    go (inr m) = let q = those_mem p g n (greatest (those p g n)) m in inl (q.i, q.below, q.passed, sym q.is)
