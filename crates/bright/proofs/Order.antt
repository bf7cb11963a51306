-- The list is in order and holds each stretch once: of two entries the later has the later end, or the same end and the earlier start.
--   Ordered ss             each entry is listed before all behind it
--   stretches-ordered      the list is so
--   ordered-before         of two entries of such a list the one of the lower index is listed before the other; before_differs: so they differ
-- Assumes nothing.
use mathlib.Core.Path.{◌≡◌, refl, sym, ap}
use mathlib.Core.Bool.{Bool, true, false}
use mathlib.Core.List.{List, [], ◌∷◌, ◌++◌}
use mathlib.Core.Logic.{inl, inr}
use Prim.Native.Nat.{ℕ, zero, suc, ◌≤◌, ◌<◌}
use native.Mathlib.Nat.{le_refl}
use native.Mathlib.Omega.{arith}
use lib.ListN.{length, get_or}
use Rattle.lists.specs.Tables.{each, keep}
use Rattle.lists.specs.Members.{All}
use Rattle.lists.proofs.Members.{all_map, all_append, all-at}
use Rattle.bright.specs.declared.Stretch.{Stretch}
use Rattle.bright.specs.Stretches.{is_stretch, stretch_of, ending_at, stretches, ListedBefore}

unfoldable pub Ordered : List Stretch → Type 0
Ordered [] = Unit {0}
Ordered (s ∷ ss) = All (ListedBefore s) ss × Ordered ss

ordered-append : (xs ys : List Stretch) → Ordered xs → Ordered ys → All (λ (s : Stretch). All (ListedBefore s) ys) xs → Ordered (xs ++ ys)
unfolding Ordered All
ordered-append [] ys p q a = q
ordered-append (x ∷ xs) ys p q a = (all_append (ListedBefore x) xs ys p.0 a.0, ordered-append xs ys p.1 q a.1)

module _ (f : List ℕ) where
  abbrev Here : ℕ → ℕ → Stretch → Type 0
  Here b k s = (s.end ≡ b) × (s.start < k)

  abbrev Ending : ℕ → List Stretch
  Ending b = ending_at f (suc b) (suc b)

  at_here : (k b : ℕ) → All (Here b k) (ending_at f b k)
  unfolding All ending_at stretch_of
  at_here zero b = tt
  at_here (suc a) b = go (is_stretch f a b) (all_map (Here b a) (Here b (suc a)) (ending_at f b a) (λ s h. (h.0, omega (arith, h.1))) (at_here a b))
    where
      go : (t : Bool) → All (Here b (suc a)) (ending_at f b a) → All (Here b (suc a)) (keep t (stretch_of f a b) ++ ending_at f b a)
      go true ih = ((refl, le_refl (suc a)), ih)
      go false ih = ih

  at-ordered : (k b : ℕ) → Ordered (ending_at f b k)
  unfolding Ordered ending_at stretch_of
  at-ordered zero b = tt
  at-ordered (suc a) b = go (is_stretch f a b) (at-ordered a b)
    where
      go : (t : Bool) → Ordered (ending_at f b a) → Ordered (keep t (stretch_of f a b) ++ ending_at f b a)
      go true ih = (all_map (Here b a) (ListedBefore (stretch_of f a b)) (ending_at f b a) (λ s h. inr (sym h.0, h.1)) (at_here a b), ih)
      go false ih = ih

  each_early : (n : ℕ) → All (λ (s : Stretch). s.end ≤ n) (each Ending n)
  unfolding All each
  each_early zero = tt
  each_early (suc n) =
      all_append (λ (s : Stretch). s.end ≤ suc n) (each Ending n) (Ending n)
      (all_map (λ (s : Stretch). s.end ≤ n) (λ (s : Stretch). s.end ≤ suc n) (each Ending n) (λ s h. omega arith) (each_early n))
      (all_map (Here (suc n) (suc n)) (λ (s : Stretch). s.end ≤ suc n) (Ending n) (λ s h. omega (arith, h.0)) (at_here (suc n) (suc n)))

  each-ordered : (n : ℕ) → Ordered (each Ending n)
  unfolding Ordered each
  each-ordered zero = tt
  each-ordered (suc n) =
      ordered-append (each Ending n) (Ending n) (each-ordered n) (at-ordered (suc n) (suc n))
      (all_map (λ (s : Stretch). s.end ≤ n) (λ (s : Stretch). All (ListedBefore s) (Ending n)) (each Ending n)
      (λ s h. all_map (Here (suc n) (suc n)) (ListedBefore s) (Ending n) (λ t k. inl (omega (arith, k.0))) (at_here (suc n) (suc n)))
      (each_early n))

  pub stretches-ordered : Ordered (stretches f)
  unfolding stretches
  stretches-ordered = each-ordered (length f)

pub ordered-before : (d : Stretch) (ss : List Stretch) (i j : ℕ) → Ordered ss → i < j → j < length ss → ListedBefore (get_or ss i d) (get_or ss j d)
unfolding Ordered
ordered-before d [] i j o h k = absurd (omega arith)
ordered-before d (s ∷ ss) i zero o h k = absurd (omega arith)
ordered-before d (s ∷ ss) zero (suc j) o h k = all-at (ListedBefore s) d ss j o.0 (omega arith)
ordered-before d (s ∷ ss) (suc i) (suc j) o h k = ordered-before d ss i j o.1 (omega arith) (omega arith)

pub before_differs : (s t : Stretch) → ListedBefore s t → s ≡ t → ⊥
before_differs s t (inl h) e = omega (arith, ap (λ (u : Stretch). u.end) e)
before_differs s t (inr h) e = omega (arith, h.1, ap (λ (u : Stretch). u.start) e)
