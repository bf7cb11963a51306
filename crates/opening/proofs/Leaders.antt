-- The greatest of some numbers, and the lowest index that reaches it, one number more at a time: ties stay with the first.
--   greatest-one, greatest-more     the greatest of one number more
--   first_one, first_more           the lowest index that reaches it
-- Assumes nothing.
use mathlib.Core.Path.{◌≡◌, refl, sym, ap, ◌∙◌}
use mathlib.Core.Bool.{Bool, true, cond}
use mathlib.Core.Logic.{◌⊎◌, inl, inr}
use mathlib.Core.List.{[], ◌∷◌}
use Prim.Native.Nat.{ℕ, zero, suc, ◌+◌, ◌≤◌, ◌<◌, max}
use native.Mathlib.Nat.{le_antisymm}
use native.Mathlib.Numerals.{add-one}
use native.Mathlib.Omega.{arith}
use borrow.Author.Tests.{eq-eqb, eqb-true, lt-ltb, le-ltb}
use lib.Dec.{eqb, ltb}
use Rattle.lists.specs.Tables as tables
use Rattle.lists.specs.Tables.{table, those}
use Rattle.lists.specs.Extremes as extremes
use Rattle.lists.specs.Extremes.{greatest}
use Rattle.lists.proofs.Cases.{less_or_not}
use Rattle.lists.proofs.Extremes.{greatest-append, le_those, least_mem, le_least_mem}
use Rattle.lists.proofs.Picks.{those_mem, those_in}
use Rattle.opening.specs.Pixels as pixels
use Rattle.opening.specs.Pixels.{first_greatest}

pub greatest-one : (v : ℕ → ℕ) → greatest (table v 1) ≡ v 0
unfolding tables.each extremes.greatest
greatest-one v = omega arith

pub greatest-more : (v : ℕ → ℕ) (n : ℕ) → greatest (table v (n + 1)) ≡ max (greatest (table v n)) (v n)
unfolding tables.each extremes.greatest
greatest-more v n = rw add-one (greatest-append (table v n) (v n ∷ []) ∙ omega arith)

below-greatest : (v : ℕ → ℕ) (n k : ℕ) → k < n → v k ≤ greatest (table v n)
below-greatest v n k h = le_those (λ (i : ℕ). true) v n k h refl

-- w is the first index below n that reaches the greatest
record First (v : ℕ → ℕ) (n w : ℕ) : Type 0 where
  there : w < n
  reaches : v w ≡ greatest (table v n)
  alone : (k : ℕ) → k < w → v k < greatest (table v n)

first-is : (v : ℕ → ℕ) (n w : ℕ) → First v n w → first_greatest v n ≡ w
unfolding pixels.first_greatest
first-is v n w p =
    let test : ℕ → Bool = λ (k : ℕ). eqb (v k) (greatest (table v n)) in
    let in' = those_in test (λ (k : ℕ). k) n w p.there (eq-eqb (v w) (greatest (table v n)) p.reaches) in
    le_antisymm
    (least_mem w (those test (λ (k : ℕ). k) n) in')
    (le_least_mem w (those test (λ (k : ℕ). k) n) w in'
    (λ a m.
    let q = those_mem test (λ (k : ℕ). k) n a m in
    late q.i (eqb-true (v q.i) (greatest (table v n)) q.passed) a q.is (less_or_not q.i w)))
  where
    late : (i : ℕ) → v i ≡ greatest (table v n) → (a : ℕ) → a ≡ i → (i < w) ⊎ (w ≤ i) → w ≤ a
    late i e a q (inl l) = absurd (omega (arith, p.alone i l))
    late i e a q (inr l) = omega arith

pub first_one : (v : ℕ → ℕ) → first_greatest v 1 ≡ 0
unfolding tables.each extremes.greatest
first_one v = first-is v 1 0 (record { there = omega arith; reaches = omega arith; alone = λ k h. absurd (omega arith) })

record Leader (v : ℕ → ℕ) (n : ℕ) : Type 0 where
  w : ℕ
  first : First v n w

next : (v : ℕ → ℕ) (n w : ℕ) → First v n w → (greatest (table v n) < v n) ⊎ (v n ≤ greatest (table v n)) → First v (n + 1) (cond (ltb (greatest (table v n)) (v n)) n w)
next v n w p (inl l) =
    let more = greatest-more v n in
    rw (lt-ltb (greatest (table v n)) (v n) l)
    (record { there = omega arith; reaches = omega arith; alone = λ k h. omega (arith, below-greatest v n k h) })
next v n w p (inr l) =
    let more = greatest-more v n in
    rw (le-ltb (greatest (table v n)) (v n) l)
    (record { there = omega (arith, p.there); reaches = omega (arith, p.reaches); alone = λ k h. omega (arith, p.alone k h) })

leader : (v : ℕ → ℕ) (n : ℕ) → Leader v (n + 1)
unfolding tables.each extremes.greatest
leader v zero = record { w = 0; first = record { there = omega arith; reaches = omega arith; alone = λ k h. absurd (omega arith) } }
leader v (suc n) = go (leader v n)
  where
    go : Leader v (n + 1) → Leader v (suc n + 1)
    go p =
        let e : n + 1 + 1 ≡ suc n + 1 = omega arith in
        let q = next v (n + 1) p.w p.first (less_or_not (greatest (table v (n + 1))) (v (n + 1))) in
        record { w = cond (ltb (greatest (table v (n + 1))) (v (n + 1))) (n + 1) p.w; first = rw e at q }

-- a later index takes the place only where its number is above the greatest before it
pub first_more : (v : ℕ → ℕ) (n : ℕ) → 1 ≤ n → first_greatest v (n + 1) ≡ cond (ltb (greatest (table v n)) (v n)) n (first_greatest v n)
first_more v zero h = absurd (omega arith)
first_more v (suc n) h =
    let e : n + 1 ≡ suc n = omega arith in
    let p = leader v n in
    let q = rw e at p.first in
    first-is v (suc n + 1) _ (next v (suc n) p.w q (less_or_not (greatest (table v (suc n))) (v (suc n))))
    ∙ ap (cond (ltb (greatest (table v (suc n))) (v (suc n))) (suc n)) (sym (first-is v (suc n) p.w q))
