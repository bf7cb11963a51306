-- The opening at a pixel is the greatest level among the listed stretches, at least as long as the window, that hold it.
--   opened-at-stretches, opened-stretches
-- A stretch that reaches has a window that holds the pixel, no darker than the stretch;
-- and a window that holds it lies in a stretch that reaches, at the window's level or above.
-- Assumes nothing.
use mathlib.Core.Path.{◌≡◌, refl, ◌∙◌}
use mathlib.Core.Bool.{Bool, true, false, ◌&&◌, false≢true}
use mathlib.Core.List.{List, [], ◌∷◌, ◌++◌}
use Prim.Native.Nat.{ℕ, ◌+◌, ◌-◌, ◌≤◌, ◌<◌, min}
use native.Mathlib.Nat.{le_refl, le_antisymm}
use native.Mathlib.Omega.{arith}
use lib.Dec.{ltb, leb}
use lib.ListN.{length, get_or}
use borrow.Author.Tests.{leb-true, ltb-true, le-leb, lt-ltb}
use Rattle.lists.specs.Tables.{keep}
use Rattle.lists.specs.Members.{All}
use Rattle.lists.specs.Extremes.{greatest}
use Rattle.lists.proofs.Cases.{both, both_left, both_right}
use Rattle.line.specs.Windows.{darkest, opened_at, opened}
use Rattle.line.proofs.Windows.{le_opened-at, opened-at_le, opened-at}
use Rattle.bright.specs.declared.Stretch.{Stretch}
use Rattle.bright.specs.Stretches.{level_of, stretch_of, stretches, Bright, long}
use Rattle.bright.proofs.Levels.{level-part}
use Rattle.bright.proofs.Listed.{all_intro, all_elim}
use Rattle.bright.proofs.Nest.{Around, extend, around-bright}
use Rattle.bridge.specs.Reach.{in_stretch, reaching}

-- ---- the greatest of the levels that reach, by its bounds

keep_le : (t : Bool) (v m : ℕ) (vs : List ℕ) → (t ≡ true → v ≤ m) → greatest vs ≤ m → greatest (keep t v ++ vs) ≤ m
unfolding greatest
keep_le true v m vs h k = omega (arith, h refl)
keep_le false v m vs h k = k

le_keep : (t : Bool) (v m : ℕ) (vs : List ℕ) → greatest (keep t v ++ vs) ≤ m → (t ≡ true → v ≤ m) × (greatest vs ≤ m)
unfolding greatest
le_keep true v m vs h = (λ e. omega arith, omega arith)
le_keep false v m vs h = (λ e. absurd (false≢true e), h)

module _ (L x : ℕ) where
  abbrev Low : ℕ → Stretch → Type 0
  Low m s = L ≤ long s → s.start ≤ x → x < s.end → s.level ≤ m

  reaching_le : (m : ℕ) (ss : List Stretch) → All (Low m) ss → greatest (reaching L x ss) ≤ m
  unfolding reaching All greatest
  reaching_le m [] h = omega arith
  reaching_le m (s ∷ ss) h =
      keep_le (leb L (long s) && in_stretch x s) s.level m (reaching L x ss)
      (λ e.
      let held : in_stretch x s ≡ true = both_right (leb L (long s)) (in_stretch x s) e in
      h.0 (leb-true L (long s) (both_left (leb L (long s)) (in_stretch x s) e)) (leb-true s.start x (both_left (leb s.start x) (ltb x s.end) held))
      (ltb-true x s.end (both_right (leb s.start x) (ltb x s.end) held)))
      (reaching_le m ss h.1)

  le_reaching : (m : ℕ) (ss : List Stretch) → greatest (reaching L x ss) ≤ m → All (Low m) ss
  unfolding reaching All
  le_reaching m [] h = tt
  le_reaching m (s ∷ ss) h =
      let k = le_keep (leb L (long s) && in_stretch x s) s.level m (reaching L x ss) h in (
        (λ p q r. k.0 (both (leb L (long s)) (in_stretch x s) (le-leb L (long s) p) (both (leb s.start x) (ltb x s.end) (le-leb s.start x q) (lt-ltb x s.end r)))),
        le_reaching m ss k.1,
      )

-- ---- windows and stretches

module _ (f : List ℕ) (L x : ℕ) (some : 1 ≤ L) where
  window-level : (i : ℕ) → level_of f i (i + L) ≡ darkest f i L
  unfolding level_of
  window-level i =
      let e : i + L - i ≡ L = omega arith in
      rw e

  stretch_le : (a b : ℕ) → Bright f a b → L ≤ b - a → a ≤ x → x < b → level_of f a b ≤ opened_at f L x
  stretch_le a b s l p q =
      let i : ℕ = min x (b - L) in
      let part : level_of f a b ≤ level_of f i (i + L) = level-part f a b i (i + L) (omega arith) (omega arith) (omega arith) s.inside in
      let held : darkest f i L ≤ opened_at f L x = le_opened-at f L x i (omega (arith, s.inside)) (omega (arith, s.inside)) (omega arith) (omega arith) in
      omega (arith, part, held, window-level i)

  window_le : (i : ℕ) → i + L ≤ length f → i ≤ x → x < i + L → darkest f i L ≤ greatest (reaching L x (stretches f))
  unfolding stretch_of
  window_le i n p q = go (extend f i (i + L) (darkest f i L) (omega arith) n (omega (arith, window-level i)))
    where
      every : All (Low L x (greatest (reaching L x (stretches f)))) (stretches f)
      every = le_reaching L x (greatest (reaching L x (stretches f))) (stretches f) (le_refl (greatest (reaching L x (stretches f))))

      go : Around f i (i + L) (darkest f i L) → darkest f i L ≤ greatest (reaching L x (stretches f))
      go s =
          let reach = all_elim (Low L x (greatest (reaching L x (stretches f)))) f every s.from s.to (around-bright f i (i + L) (darkest f i L) (omega arith) s)
          (omega (arith, s.before, s.after)) (omega (arith, s.before)) (omega (arith, s.after)) in
          omega (arith, s.high, reach)

  pub opened-at-stretches : opened_at f L x ≡ greatest (reaching L x (stretches f))
  unfolding stretch_of
  opened-at-stretches =
      le_antisymm
      (opened-at_le f L x (greatest (reaching L x (stretches f))) window_le)
      (reaching_le L x (opened_at f L x) (stretches f) (all_intro (Low L x (opened_at f L x)) f stretch_le))

-- for every length and pixel the opening is the highest level among the listed runs at least that long that hold it, 0 if none
pub opened-stretches : (f : List ℕ) (L x : ℕ) → 1 ≤ L → x < length f → get_or (opened f L) x 0 ≡ greatest (reaching L x (stretches f))
opened-stretches f L x some h = opened-at f L x h ∙ opened-at-stretches f L x some
