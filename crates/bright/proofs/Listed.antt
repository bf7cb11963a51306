-- What the list of bright stretches holds: every stretch, and nothing else.
--   bright-test, test-bright      the facts of a stretch, and the test of it
--   all_intro, all_elim           what holds of every stretch holds all over the list, and the other way round
--   stretch-listed                the list holds every stretch
--   listed-stretch                and nothing else
-- Assumes nothing.
use mathlib.Core.Path.{◌≡◌, refl, sym, ◌∙◌}
use mathlib.Core.Bool.{Bool, true, false, false≢true}
use mathlib.Core.List.{List, ◌++◌, Memᴰ}
use mathlib.Core.Logic.{⊎_elim}
use Prim.Native.Nat.{ℕ, zero, suc, ◌≤◌, ◌<◌}
use native.Mathlib.Nat.{le_refl}
use native.Mathlib.Omega.{arith}
use lib.Dec.{ltb}
use lib.ListN.{length, get_or}
use borrow.Author.Tests.{ltb-true, ltb-false, lt-ltb}
use Rattle.lists.specs.Tables.{each, keep}
use Rattle.lists.specs.Members.{All}
use Rattle.lists.proofs.Cases.{less_or_not, both_left, both_right}
use Rattle.lists.proofs.Members.{all_append, all-parts, all_in, all_self}
use Rattle.bright.specs.declared.Stretch.{Stretch}
use Rattle.bright.specs.Stretches.{level_of, is_stretch, stretch_of, ending_at, stretches, Bright}
use Rattle.bright.proofs.Model.{is_open, open_suc, stretch_mid, stretch_end}

module _ (f : List ℕ) where
  open_intro : (a b : ℕ) → ((j : ℕ) → a ≡ suc j → get_or f j 0 < level_of f a b) → is_open f a b ≡ true
  unfolding is_open
  open_intro zero b h = refl
  open_intro (suc a) b h = open_suc f a b ∙ lt-ltb _ _ (h a refl)

  open_elim : (a b : ℕ) → is_open f a b ≡ true → (j : ℕ) → a ≡ suc j → get_or f j 0 < level_of f a b
  open_elim zero b h j e = absurd (omega arith)
  open_elim (suc a) b h j e =
      let q : j ≡ a = omega arith in
      rw q (ltb-true _ _ (sym (open_suc f a b) ∙ h))

  pub bright-test : (a b : ℕ) → Bright f a b → is_stretch f a b ≡ true
  bright-test a b s = go (ltb b (length f)) refl
    where
      o : is_open f a b ≡ true
      o = open_intro a b s.left

      go : (t : Bool) → ltb b (length f) ≡ t → is_stretch f a b ≡ true
      go true t =
          let n : b < length f = ltb-true _ _ t in
          stretch_mid f a b n ∙ rw (o, lt-ltb (get_or f b 0) (level_of f a b) (s.right n))
      go false t =
          let e : b ≡ length f = omega (arith, ltb-false b (length f) t, s.inside) in
          rw e (stretch_end f a ∙ (rw e at o))

  pub test-bright : (a b : ℕ) → a < b → b ≤ length f → is_stretch f a b ≡ true → Bright f a b
  test-bright a b h n t = record { some = h; inside = n; left = go (ltb b (length f)) refl; right = right }
    where
      right : b < length f → get_or f b 0 < level_of f a b
      right k = ltb-true _ _ (both_right (is_open f a b) (ltb (get_or f b 0) (level_of f a b)) (sym (stretch_mid f a b k) ∙ t))

      go : (u : Bool) → ltb b (length f) ≡ u → (j : ℕ) → a ≡ suc j → get_or f j 0 < level_of f a b
      go true u = open_elim a b (both_left (is_open f a b) (ltb (get_or f b 0) (level_of f a b)) (sym (stretch_mid f a b (ltb-true _ _ u)) ∙ t))
      go false u =
          let e : b ≡ length f = omega (arith, ltb-false b (length f) u) in
          open_elim a b (rw e (sym (stretch_end f a) ∙ (rw e at t)))

-- ---- the list holds every stretch, and nothing else

module _ (P : Stretch → Type 0) (f : List ℕ) where
  at_intro : (k b : ℕ) → k ≤ b → b ≤ length f → ((a : ℕ) → Bright f a b → P (stretch_of f a b)) → All P (ending_at f b k)
  unfolding All ending_at
  at_intro zero b h n q = tt
  at_intro (suc a) b h n q = go (is_stretch f a b) refl (at_intro a b (omega arith) n q)
    where
      go : (t : Bool) → is_stretch f a b ≡ t → All P (ending_at f b a) → All P (keep (is_stretch f a b) (stretch_of f a b) ++ ending_at f b a)
      go true t ih = rw t (q a (test-bright f a b h n t), ih)
      go false t ih = rw t ih

  at_elim : (k b : ℕ) → All P (ending_at f b k) → (a : ℕ) → a < k → is_stretch f a b ≡ true → P (stretch_of f a b)
  unfolding All ending_at
  at_elim zero b p a h t = absurd (omega arith)
  at_elim (suc k) b p a h t = go (ltb a k) refl (is_stretch f k b) refl p (at_elim k b)
    where
      go : (u : Bool) → ltb a k ≡ u → (v : Bool) → is_stretch f k b ≡ v → All P (keep (is_stretch f k b) (stretch_of f k b) ++ ending_at f b k)
          → (All P (ending_at f b k) → (a : ℕ) → a < k → is_stretch f a b ≡ true → P (stretch_of f a b)) → P (stretch_of f a b)
      go true u true v p ih = ih (rw v at p).1 a (ltb-true _ _ u) t
      go true u false v p ih = ih (rw v at p) a (ltb-true _ _ u) t
      go false u true v p ih =
          let e : a ≡ k = omega (arith, ltb-false a k u) in
          rw e (rw v at p).0
      go false u false v p ih =
          let e : a ≡ k = omega (arith, ltb-false a k u) in
          let z : ◌≡◌ {A = Bool} false true = sym v ∙ (rw e at t) in
          absurd (false≢true z)

  each_intro : (n : ℕ) → n ≤ length f → ((a b : ℕ) → Bright f a b → P (stretch_of f a b)) → All P (each (λ (b : ℕ). ending_at f (suc b) (suc b)) n)
  unfolding All each
  each_intro zero h q = tt
  each_intro (suc n) h q =
      all_append P (each (λ (b : ℕ). ending_at f (suc b) (suc b)) n) (ending_at f (suc n) (suc n)) (each_intro n (omega arith) q)
      (at_intro (suc n) (suc n) (le_refl (suc n)) h (λ a s. q a (suc n) s))

  each_elim : (n : ℕ) → All P (each (λ (b : ℕ). ending_at f (suc b) (suc b)) n) → (a b : ℕ) → a < b → b ≤ n → is_stretch f a b ≡ true → P (stretch_of f a b)
  unfolding All each
  each_elim zero p a b h l t = absurd (omega arith)
  each_elim (suc n) p a b h l t =
      ⊎_elim
      (λ q. each_elim n parts.0 a b h (omega arith) t)
      (λ q.
      let e : b ≡ suc n = omega arith in
      rw e (at_elim (suc n) (suc n) parts.1 a (omega arith) (rw e at t)))
      (less_or_not b (suc n))
    where
      parts : All P (each (λ (b : ℕ). ending_at f (suc b) (suc b)) n) × All P (ending_at f (suc n) (suc n))
      parts = all-parts P (each (λ (b : ℕ). ending_at f (suc b) (suc b)) n) (ending_at f (suc n) (suc n)) p

  -- what holds of every stretch holds all over the list
  pub all_intro : ((a b : ℕ) → Bright f a b → P (stretch_of f a b)) → All P (stretches f)
  unfolding stretches
  all_intro q = each_intro (length f) (le_refl (length f)) q

  -- what holds all over the list holds of every stretch
  pub all_elim : All P (stretches f) → (a b : ℕ) → Bright f a b → P (stretch_of f a b)
  unfolding stretches
  all_elim p a b s = each_elim (length f) p a b s.some s.inside (bright-test f a b s)

-- ---- the same, by membership

-- the list holds every stretch
pub stretch-listed : (f : List ℕ) (a b : ℕ) → Bright f a b → Memᴰ (stretch_of f a b) (stretches f)
stretch-listed f a b s = all_elim (λ (t : Stretch). Memᴰ t (stretches f)) f (all_self (stretches f)) a b s

-- and nothing else
pub listed-stretch : (f : List ℕ) (s : Stretch) → Memᴰ s (stretches f) → (a : ℕ) × (b : ℕ) × Bright f a b × (s ≡ stretch_of f a b)
listed-stretch f s m =
    all_in (λ (t : Stretch). (a : ℕ) × (b : ℕ) × Bright f a b × (t ≡ stretch_of f a b)) (stretches f)
    (all_intro (λ (t : Stretch). (a : ℕ) × (b : ℕ) × Bright f a b × (t ≡ stretch_of f a b)) f (λ a b t. (a, b, t, refl))) s m
