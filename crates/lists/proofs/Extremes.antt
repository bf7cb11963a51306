-- The least, the greatest and the total of a list, by their bounds.
--   least_le, le_least              the least is below each number, and above whatever is below each
--   least_mem, le_least_mem         the same by what stands in the list
--   least-cons, least_snoc          the least of a list with one number more, at its front or at its end
--   least_in, least_mem_of          the least is one of the numbers
--   greatest-none_or                so is the greatest, where there are any
--   le_those, those_le              the greatest of those values that a test picks, likewise
--   total-append, total-table       the total of two lists, and of a table one value longer
--   total_add, total-zero           the total of a table of sums, and of zeros
-- Assumes nothing.
use mathlib.Core.Path.{◌≡◌, refl, ap, subst, ◌∙◌}
use mathlib.Core.Bool.{Bool, true, false, false≢true}
use mathlib.Core.List.Memᴰ
use mathlib.Core.List.{List, [], ◌∷◌, ◌++◌, Memᴰ}
use mathlib.Core.Logic.{◌⊎◌, inl, inr, ⊎_elim}
use Prim.Native.Nat.{ℕ, zero, suc, ◌+◌, ◌≤◌, ◌<◌, min, max, zero-le, suc-le-suc}
use native.Mathlib.Nat.{not-suc-le-zero, le_of_suc-le-suc, eq-or-lt_of_le, le_refl, le_trans, min-le_left, min-le_right, le-min, le-max_left, max-le}
use native.Mathlib.Omega.{arith}
use lib.ListN.{length, get_or}
use Rattle.lists.specs.Tables.{each, keep, table, those}
use Rattle.lists.specs.Extremes.{least, greatest, total}
use Rattle.lists.proofs.Cases.{less_or_not}

-- ---- the least

pub least_le : (l : List ℕ) (j : ℕ) → j < length l → least l ≤ get_or l j 0
unfolding least
least_le [] j h = absurd (not-suc-le-zero h)
least_le (x ∷ []) zero h = le_refl x
least_le (x ∷ []) (suc j) h = absurd (not-suc-le-zero (le_of_suc-le-suc h))
least_le (x ∷ (y ∷ ys)) zero h = min-le_left x (least (y ∷ ys))
least_le (x ∷ (y ∷ ys)) (suc j) h = le_trans (min-le_right x (least (y ∷ ys))) (least_le (y ∷ ys) j (le_of_suc-le-suc h))

pub le_least : (k : ℕ) (l : List ℕ) → 0 < length l → ((j : ℕ) → j < length l → k ≤ get_or l j 0) → k ≤ least l
unfolding least
le_least k [] h a = absurd (not-suc-le-zero h)
le_least k (x ∷ []) h a = a 0 h
le_least k (x ∷ (y ∷ ys)) h a = le-min (a 0 (omega arith)) (le_least k (y ∷ ys) (omega arith) (λ j l. a (suc j) (suc-le-suc l)))

pub least-cons : (x : ℕ) (xs : List ℕ) → 0 < length xs → least (x ∷ xs) ≡ min x (least xs)
unfolding least
least-cons x [] h = absurd (not-suc-le-zero h)
least-cons x (y ∷ ys) h = refl

pub least_snoc : (xs : List ℕ) (v : ℕ) → 0 < length xs → least (xs ++ (v ∷ [])) ≡ min (least xs) v
unfolding least
least_snoc [] v h = absurd (not-suc-le-zero h)
least_snoc (x ∷ []) v h = refl
least_snoc (x ∷ (y ∷ ys)) v h = omega (arith, least_snoc (y ∷ ys) v (omega arith))

pub least_mem : (a : ℕ) (l : List ℕ) → Memᴰ a l → least l ≤ a
unfolding least
least_mem a [] m = absurd (Memᴰ.not-nil m)
least_mem a (x ∷ []) m = ⊎_elim (λ q. omega arith) (λ n. absurd (Memᴰ.not-nil n)) (Memᴰ.cases_cons m)
least_mem a (x ∷ (y ∷ ys)) m =
    ⊎_elim
    (λ q. omega (arith, min-le_left x (least (y ∷ ys))))
    (λ n. le_trans (min-le_right x (least (y ∷ ys))) (least_mem a (y ∷ ys) n))
    (Memᴰ.cases_cons m)

pub le_least_mem : (k : ℕ) (l : List ℕ) (a : ℕ) → Memᴰ a l → ((b : ℕ) → Memᴰ b l → k ≤ b) → k ≤ least l
unfolding least
le_least_mem k [] a m h = absurd (Memᴰ.not-nil m)
le_least_mem k (x ∷ []) a m h = h x (Memᴰ.head refl)
le_least_mem k (x ∷ (y ∷ ys)) a m h =
    le-min (h x (Memᴰ.head refl)) (le_least_mem k (y ∷ ys) y (Memᴰ.head refl) (λ b n. h b (Memᴰ.tail n)))

pub least_in : (x : ℕ) (xs : List ℕ) → Memᴰ (least (x ∷ xs)) (x ∷ xs)
unfolding least
least_in x [] = Memᴰ.head refl
least_in x (y ∷ ys) = go (least_in y ys) (less_or_not x (least (y ∷ ys)))
  where
    go : Memᴰ (least (y ∷ ys)) (y ∷ ys) → (x < least (y ∷ ys)) ⊎ (least (y ∷ ys) ≤ x) → Memᴰ (min x (least (y ∷ ys))) (x ∷ (y ∷ ys))
    go m (inl lo) = let e : min x (least (y ∷ ys)) ≡ x = omega arith in Memᴰ.head e
    go m (inr hi) = let e : least (y ∷ ys) ≡ min x (least (y ∷ ys)) = omega arith in Memᴰ.tail (subst (λ (v : ℕ). Memᴰ v (y ∷ ys)) e m)

pub least_mem_of : (a : ℕ) (l : List ℕ) → Memᴰ a l → Memᴰ (least l) l
least_mem_of a [] m = absurd (Memᴰ.not-nil m)
least_mem_of a (x ∷ xs) m = least_in x xs

-- ---- the greatest

pub greatest-append : (s t : List ℕ) → greatest (s ++ t) ≡ max (greatest s) (greatest t)
unfolding greatest
greatest-append [] t = omega arith
greatest-append (x ∷ s) t = ap (max x) (greatest-append s t) ∙ omega arith

greatest-keep : (b : Bool) (x : ℕ) → b ≡ true → x ≤ greatest (keep b x)
unfolding greatest
greatest-keep true x e = le-max_left x 0
greatest-keep false x e = absurd (false≢true e)

keep_le : (b : Bool) (x k : ℕ) → (b ≡ true → x ≤ k) → greatest (keep b x) ≤ k
unfolding greatest
keep_le true x k h = max-le (h refl) zero-le
keep_le false x k h = zero-le

pub le_those : (p : ℕ → Bool) (g : ℕ → ℕ) (n i : ℕ) → i < n → p i ≡ true → g i ≤ greatest (those p g n)
unfolding each
le_those p g zero i h e = absurd (not-suc-le-zero h)
le_those p g (suc n) i h e =
    let s : greatest (those p g n ++ keep (p n) (g n)) ≡ max (greatest (those p g n)) (greatest (keep (p n) (g n))) =
    greatest-append (those p g n) (keep (p n) (g n)) in
    ⊎_elim
    (λ q. let l : g n ≤ greatest (keep (p n) (g n)) = greatest-keep (p n) (g n) (rw q at e) in rw q (omega arith))
    (λ q. let l : g i ≤ greatest (those p g n) = le_those p g n i q e in omega arith)
    (eq-or-lt_of_le (le_of_suc-le-suc h))

pub those_le : (p : ℕ → Bool) (g : ℕ → ℕ) (n k : ℕ) → ((i : ℕ) → i < n → p i ≡ true → g i ≤ k) → greatest (those p g n) ≤ k
unfolding each greatest
those_le p g zero k a = zero-le
those_le p g (suc n) k a =
    rw (greatest-append (those p g n) (keep (p n) (g n)))
    (max-le (those_le p g n k (λ i h e. a i (omega arith) e)) (keep_le (p n) (g n) k (a n (omega arith))))

greatest_in : (x : ℕ) (xs : List ℕ) → Memᴰ (greatest (x ∷ xs)) (x ∷ xs)
unfolding greatest
greatest_in x [] = let e : max x 0 ≡ x = omega arith in Memᴰ.head e
greatest_in x (y ∷ ys) = go (greatest_in y ys) (less_or_not x (greatest (y ∷ ys)))
  where
    go : Memᴰ (greatest (y ∷ ys)) (y ∷ ys) → (x < greatest (y ∷ ys)) ⊎ (greatest (y ∷ ys) ≤ x) → Memᴰ (max x (greatest (y ∷ ys))) (x ∷ (y ∷ ys))
    go m (inr lo) = let e : max x (greatest (y ∷ ys)) ≡ x = omega arith in Memᴰ.head e
    go m (inl hi) = let e : greatest (y ∷ ys) ≡ max x (greatest (y ∷ ys)) = omega arith in Memᴰ.tail (subst (λ (v : ℕ). Memᴰ v (y ∷ ys)) e m)

pub greatest-none_or : (l : List ℕ) → (l ≡ []) ⊎ Memᴰ (greatest l) l
greatest-none_or [] = inl refl
greatest-none_or (x ∷ xs) = inr (greatest_in x xs)

-- ---- the total

pub total-append : (s t : List ℕ) → total (s ++ t) ≡ total s + total t
unfolding total
total-append [] t = omega arith
total-append (x ∷ s) t = omega (arith, total-append s t)

pub total-table : (g : ℕ → ℕ) (n : ℕ) → total (table g (suc n)) ≡ total (table g n) + g n
unfolding each total
total-table g n = total-append (table g n) (g n ∷ []) ∙ omega arith

pub total_add : (g h : ℕ → ℕ) (n : ℕ) → total (table (λ (i : ℕ). g i + h i) n) ≡ total (table g n) + total (table h n)
unfolding each total
total_add g h zero = refl
total_add g h (suc n) = omega (arith, total-table (λ (i : ℕ). g i + h i) n, total-table g n, total-table h n, total_add g h n)

pub total-zero : (n : ℕ) → total (table (λ (i : ℕ). 0) n) ≡ 0
unfolding each total
total-zero zero = refl
total-zero (suc n) = omega (arith, total-table (λ (i : ℕ). 0) n, total-zero n)
