-- The level of the pixels a to b − 1, as the run grows at either end, and against its parts and pixels.
--   level-one                   the run of one pixel
--   level-down, level-up        one pixel more, before or behind
--   level-part, level-pixel     a run is no brighter than a part of it, or than a pixel of it
-- Assumes nothing.
use mathlib.Core.Path.{◌≡◌}
use mathlib.Core.List.{List}
use Prim.Native.Nat.{ℕ, zero, suc, ◌+◌, ◌-◌, ◌≤◌, ◌<◌, min}
use native.Mathlib.Nat.{add-zero, add-suc}
use native.Mathlib.Omega.{arith}
use lib.ListN.{length, get_or, take, drop, length-take, length-drop}
use lib.Seq.{drop-cons, take-suc, get_or-drop}
use Rattle.lists.specs.Extremes.{least}
use Rattle.lists.proofs.Extremes.{least-cons, least_snoc}
use Rattle.bright.specs.Stretches.{level_of}

module _ (f : List ℕ) where
  pub level-one : (a : ℕ) → a < length f → level_of f a (suc a) ≡ get_or f a 0
  unfolding level_of least
  level-one a h =
      let e : suc a - a ≡ 1 = omega arith in
      rw (e, drop-cons f a 0 h)

  pub level-down : (a b : ℕ) → suc a < b → b ≤ length f → level_of f a b ≡ min (get_or f a 0) (level_of f (suc a) b)
  unfolding level_of
  level-down a b h k =
      let e : b - a ≡ suc (b - suc a) = omega arith in
      let l : a < length f = omega arith in
      rw (e, drop-cons f a 0 l) (least-cons (get_or f a 0) (take (b - suc a) (drop (suc a) f)) (simp (length-take, length-drop) (omega arith)))

  pub level-up : (a b : ℕ) → a < b → b < length f → level_of f a (suc b) ≡ min (level_of f a b) (get_or f b 0)
  unfolding level_of
  level-up a b h k =
      let e : suc b - a ≡ suc (b - a) = omega arith in
      let i : a + (b - a) ≡ b = omega arith in
      let l : b - a < length (drop a f) = simp length-drop (omega arith) in
      rw (e, take-suc (drop a f) (b - a) 0 l, get_or-drop a f (b - a) 0, i)
      (least_snoc (take (b - a) (drop a f)) (get_or f b 0) (simp (length-take, length-drop) (omega arith)))

  -- a run that ends later, or starts earlier, is no brighter
  level-later : (a b d : ℕ) → a < b → b + d ≤ length f → level_of f a (b + d) ≤ level_of f a b
  level-later a b zero h k = simp add-zero (omega arith)
  level-later a b (suc d) h k = simp add-suc (omega (arith, level-later a b d h (omega arith), level-up a (b + d) (omega arith) (omega arith)))

  level_earlier : (a d b : ℕ) → a + d < b → b ≤ length f → level_of f a b ≤ level_of f (a + d) b
  level_earlier a zero b h k = simp add-zero (omega arith)
  level_earlier a (suc d) b h k = simp add-suc (omega (arith, level_earlier a d b (omega arith) k, level-down (a + d) b (omega arith) k))

  pub level-part : (a b c d : ℕ) → a ≤ c → c < d → d ≤ b → b ≤ length f → level_of f a b ≤ level_of f c d
  level-part a b c d p q r n =
      let e : d + (b - d) ≡ b = omega arith in
      let g : a + (c - a) ≡ c = omega arith in
      let k : d + (b - d) ≤ length f = omega arith in
      let later : level_of f c b ≤ level_of f c d = rw e at (level-later c d (b - d) q k) in
      let earlier : level_of f a b ≤ level_of f c b = rw g at (level_earlier a (c - a) b (omega arith) n) in
      omega arith

  pub level-pixel : (a b x : ℕ) → a ≤ x → x < b → b ≤ length f → level_of f a b ≤ get_or f x 0
  level-pixel a b x p q n = omega (arith, level-part a b x (suc x) p (omega arith) q n, level-one x (omega arith))
