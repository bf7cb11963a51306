-- Each run whose pixels are w or more lies in a stretch whose neighbours are darker than w; and the base of a stretch is the level of the shortest other that encloses it.
--   Around f a b w              the stretch so found around the pixels a to b − 1; around-level, around-bright
--   extend                      it is there
--   Encloser f a b c d          the stretch from c to d is the shortest other that encloses that from a to b
--   base_encloser, base-whole   the base is its level, and 0 for the whole line
-- Assumes nothing.
use mathlib.Core.Path.{◌≡◌, refl}
use mathlib.Core.Bool.{Bool, true, false}
use mathlib.Core.List.{List}
use Prim.Native.Nat.{ℕ, zero, suc, ◌+◌, ◌-◌, ◌≤◌, ◌<◌}
use native.Mathlib.Nat.{le_refl}
use native.Mathlib.Omega.{arith}
use lib.Dec.{ltb, leb}
use lib.ListN.{length, get_or}
use borrow.Author.Tests.{ltb-true, ltb-false, leb-true, leb-false}
use Rattle.lists.specs.Extremes.{greatest}
use Rattle.bright.specs.Stretches.{level_of, base_of, Bright}
use Rattle.bright.proofs.Levels.{level-down, level-up, level-part, level-pixel}
use Rattle.bright.proofs.Model.{behind_mid, behind_end}

-- ---- a run lies in a stretch

module _ (f : List ℕ) where
  -- the run from a to b, wherever it can go on over pixels of w or more, to both sides
  pub record Around (a b w : ℕ) : Type 0 where
    pub from : ℕ
    pub to : ℕ
    pub before : from ≤ a
    pub after : b ≤ to
    pub inside : to ≤ length f
    pub high : w ≤ level_of f from to
    pub left : (j : ℕ) → from ≡ suc j → get_or f j 0 < w
    pub right : to < length f → get_or f to 0 < w

  Left : ℕ → ℕ → ℕ → Type 0
  Left a b w = (c : ℕ) × (c ≤ a) × (w ≤ level_of f c b) × ((j : ℕ) → c ≡ suc j → get_or f j 0 < w)

  extend-left : (a b w : ℕ) → a < b → b ≤ length f → w ≤ level_of f a b → Left a b w
  unfolding Left
  extend-left zero b w h n k = (0, omega arith, k, λ j e. absurd (omega arith))
  extend-left (suc a) b w h n k = go (leb w (get_or f a 0)) refl (extend-left a b w (omega arith) n)
    where
      go : (t : Bool) → leb w (get_or f a 0) ≡ t → (w ≤ level_of f a b → Left a b w) → Left (suc a) b w
      go true t ih =
          let r = ih (omega (arith, leb-true w (get_or f a 0) t, level-down f a b h n)) in
          (r.0, omega (arith, r.1), r.2, r.3)
      go false t ih = (suc a, le_refl (suc a), k, λ j e. let q : j ≡ a = omega arith in rw q (leb-false w (get_or f a 0) t))

  Right : ℕ → ℕ → ℕ → Type 0
  Right a b w = (c : ℕ) × (b ≤ c) × (c ≤ length f) × (w ≤ level_of f a c) × (c < length f → get_or f c 0 < w)

  extend-right : (m a b w : ℕ) → b + m ≡ length f → a < b → w ≤ level_of f a b → Right a b w
  unfolding Right
  extend-right zero a b w h p k = (b, le_refl b, omega arith, k, λ q. absurd (omega arith))
  extend-right (suc m) a b w h p k = go (leb w (get_or f b 0)) refl (extend-right m a (suc b) w (omega arith) (omega arith))
    where
      go : (t : Bool) → leb w (get_or f b 0) ≡ t → (w ≤ level_of f a (suc b) → Right a (suc b) w) → Right a b w
      go true t ih =
          let r = ih (omega (arith, leb-true w (get_or f b 0) t, level-up f a b p (omega arith))) in
          (r.0, omega (arith, r.1), r.2, r.3, r.4)
      go false t ih = (b, le_refl b, omega arith, k, λ q. leb-false w (get_or f b 0) t)

  pub extend : (a b w : ℕ) → a < b → b ≤ length f → w ≤ level_of f a b → Around a b w
  unfolding Left Right
  extend a b w h n k =
      let l = extend-left a b w h n k in
      let r = extend-right (length f - b) l.0 b w (omega arith) (omega (arith, l.1)) l.2 in
      record { from = l.0; to = r.0; before = l.1; after = r.1; inside = r.2; high = r.3; left = l.3; right = r.4 }

  -- it is a stretch, at level w where the run has a pixel or a level of w
  pub around-level : (a b w : ℕ) → a < b → level_of f a b ≤ w → (s : Around a b w) → level_of f s.from s.to ≡ w
  around-level a b w h k s = omega (arith, s.high, level-part f s.from s.to a b s.before h s.after s.inside)

  pub around-bright : (a b w : ℕ) → a < b → (s : Around a b w) → Bright f s.from s.to
  around-bright a b w h s =
      record {
        some = omega (arith, s.before, s.after);
        inside = s.inside;
        left = λ j e. omega (arith, s.left j e, s.high);
        right = λ q. omega (arith, s.right q, s.high);
      }

-- ---- which stretch encloses which

module _ (f : List ℕ) where
  -- the stretch from c to d is the shortest other than that from a to b that encloses it: each other that does encloses both
  pub record Encloser (a b c d : ℕ) : Type 0 where
    pub bright : Bright f c d
    pub before : c ≤ a
    pub after : b ≤ d
    pub longer : b - a < d - c
    pub shortest : (x y : ℕ) → Bright f x y → x ≤ a → b ≤ y → b - a < y - x → (x ≤ c) × (d ≤ y)

  base-left : (a b j : ℕ) → a ≡ suc j → get_or f j 0 ≤ base_of f a b
  unfolding greatest
  base-left a b j e = rw e (omega arith)

  base-right : (a b : ℕ) → b < length f → get_or f b 0 ≤ base_of f a b
  unfolding greatest
  base-right zero b n = rw (behind_mid f b n) (omega arith)
  base-right (suc a) b n = rw (behind_mid f b n) (omega arith)

  Wider : ℕ → ℕ → ℕ → Type 0
  Wider a b w = (c : ℕ) × (d : ℕ) × (c ≤ a) × (b ≤ d) × (d ≤ length f) × (b - a < d - c) × (level_of f c d ≡ w)

  wider : (a b : ℕ) → Bright f a b → b - a < length f → Wider a b (base_of f a b)
  unfolding Wider greatest
  wider zero b s h =
      let n : b < length f = omega arith in
      let k : level_of f 0 (suc b) ≡ base_of f 0 b =
      rw (behind_mid f b n) (omega (arith, level-up f 0 b s.some n, s.right n)) in
      (0, suc b, omega arith, omega arith, n, omega arith, k)
  wider (suc a) b s h = go (ltb b (length f)) refl (leb (get_or f b 0) (get_or f a 0)) refl
    where
      left : get_or f a 0 < level_of f (suc a) b
      left = s.left a refl

      down : level_of f a b ≡ get_or f a 0
      down = omega (arith, left, level-down f a b s.some s.inside)

      go : (t : Bool) → ltb b (length f) ≡ t → (u : Bool) → leb (get_or f b 0) (get_or f a 0) ≡ u → Wider (suc a) b (base_of f (suc a) b)
      go true t true u =
          let n : b < length f = ltb-true b (length f) t in
          let k : level_of f a b ≡ base_of f (suc a) b = rw (behind_mid f b n) (omega (arith, down, leb-true (get_or f b 0) (get_or f a 0) u)) in
          (a, b, omega arith, omega arith, s.inside, omega (arith, s.some), k)
      go true t false u =
          let n : b < length f = ltb-true b (length f) t in
          let k : level_of f (suc a) (suc b) ≡ base_of f (suc a) b =
          rw (behind_mid f b n) (omega (arith, leb-false (get_or f b 0) (get_or f a 0) u, level-up f (suc a) b s.some n, s.right n)) in
          (suc a, suc b, omega arith, omega arith, n, omega (arith, s.some), k)
      go false t u q =
          let e : b ≡ length f = omega (arith, ltb-false b (length f) t, s.inside) in
          let k : level_of f a b ≡ base_of f (suc a) b = (rw (e, behind_end f) (omega (arith, (rw e at down)))) in
          (a, b, omega arith, omega arith, s.inside, omega (arith, s.some), k)

  -- another stretch that encloses one is no brighter than its base
  other-low : (a b x y : ℕ) → a < b → Bright f x y → x ≤ a → b ≤ y → b - a < y - x → level_of f x y ≤ base_of f a b
  other-low a b x y h t p q l = go (ltb x a) refl
    where
      go : (u : Bool) → ltb x a ≡ u → level_of f x y ≤ base_of f a b
      go true u =
          let k : x < a = ltb-true x a u in
          omega (arith, level-pixel f x y (a - 1) (omega arith) (omega arith) t.inside, base-left a b (a - 1) (omega arith))
      go false u =
          let k : b < y = omega (arith, ltb-false x a u) in
          omega (arith, level-pixel f x y b (omega arith) k t.inside, base-right a b (omega (arith, t.inside)))

  -- a stretch that shares a run with a brighter one encloses it
  within : (a b c d x y : ℕ) → a < b → d ≤ length f → c ≤ a → b ≤ d → x ≤ a → b ≤ y → level_of f x y ≤ level_of f c d → Bright f x y → (x ≤ c) × (d ≤ y)
  within a b c d x y h n p q i j l t = (starts (leb x c) refl, ends (leb d y) refl)
    where
      starts : (u : Bool) → leb x c ≡ u → x ≤ c
      starts true u = leb-true x c u
      starts false u =
          let k : c < x = leb-false x c u in
          absurd (omega (arith, level-pixel f c d (x - 1) (omega arith) (omega arith) n, t.left (x - 1) (omega arith)))

      ends : (u : Bool) → leb d y ≡ u → d ≤ y
      ends true u = leb-true d y u
      ends false u =
          let k : y < d = leb-false d y u in
          absurd (omega (arith, level-pixel f c d y (omega arith) k n, t.right (omega arith)))

  -- the stretch around a wider run at the level of the base
  around-encloses : (a b : ℕ) (s : Bright f a b) (c d : ℕ) → c ≤ a → b ≤ d → b - a < d - c → (x : Around f c d (base_of f a b))
      → Encloser a b x.from x.to
  around-encloses a b s c d p q l x =
      let k : c < d = omega (arith, s.some) in
      let g : base_of f a b ≤ level_of f x.from x.to = x.high in
      record {
        bright = around-bright f c d (base_of f a b) k x;
        before = omega (arith, x.before);
        after = omega (arith, x.after);
        longer = omega (arith, x.before, x.after);
        shortest = λ y z t i j e.
            within a b x.from x.to y z s.some x.inside (omega (arith, x.before)) (omega (arith, x.after)) i j
            (omega (arith, other-low a b y z s.some t i j e)) t;
      }

  -- the base of a stretch that is not the whole line is the level of the shortest other that encloses it
  pub base_encloser : (a b : ℕ) → Bright f a b → b - a < length f → (c : ℕ) × (d : ℕ) × Encloser a b c d × (level_of f c d ≡ base_of f a b)
  unfolding Wider
  base_encloser a b s h = around (wider a b s h)
    where
      around : Wider a b (base_of f a b) → (c : ℕ) × (d : ℕ) × Encloser a b c d × (level_of f c d ≡ base_of f a b)
      around p = found (extend f p.0 p.1 (base_of f a b) (omega (arith, p.2, p.3, s.some)) p.4 (omega (arith, p.6)))
        where
          found : Around f p.0 p.1 (base_of f a b) → (c : ℕ) × (d : ℕ) × Encloser a b c d × (level_of f c d ≡ base_of f a b)
          found x = (
            x.from,
            x.to,
            around-encloses a b s p.0 p.1 p.2 p.3 p.5 x,
            around-level f p.0 p.1 (base_of f a b) (omega (arith, p.2, p.3, s.some)) (omega (arith, p.6)) x,
          )

  -- the base of the whole line is 0
  pub base-whole : base_of f 0 (length f) ≡ 0
  unfolding greatest
  base-whole = rw (behind_end f)
