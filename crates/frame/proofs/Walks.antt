-- The sweep has document 01's lines: the line of index u has the number u − low, and its pixels are those where the sweep has a hit, in line order.
--   hits, hit-at, hit-below, hit-past, value_on, value-off    what a hit says, and what a line's value is
--   number_is         the number of a pixel's line, by the line's index
--   cell-place        the byte of a line at a major coordinate is a pixel's
--   pixels_are        the pixels of a line; places_are: their bytes; values_are: what a frame has there
--   pixels-none       a number below every index has no pixels
--   cells_mem         what is among a line's bytes
--   cell_reach        each byte of a line lies before the last pixel's end
-- Assumes nothing.
use mathlib.Core.Path.{◌≡◌, refl, sym, ap, ◌∙◌}
use mathlib.Core.Bool.{Bool, true, false, cond, and-false}
use mathlib.Core.List.{List, [], map, map-map, Memᴰ}
use Prim.Native.Nat.{ℕ, ◌+◌, ◌-◌, ◌*◌, ◌≤◌, ◌<◌}
use native.Mathlib.Omega.{arith}
use native.Mathlib.Nat.{mul-le-mul_right}
use borrow.Author.Tests.{leb-true, leb-false, ltb-true, le-leb, lt-leb, lt-ltb, le-ltb}
use lib.Dec.{leb, ltb}
use lib.ListN.{get_or}
use lib.IntN.{ℤ, pos, negsuc, nat_abs, sub_ℕ, ◌-ℤ◌, ◌*ℤ◌}
use Rattle.lists.specs.Tables.{each, those}
use Rattle.lists.proofs.Cases.{both_left, both_right}
use Rattle.lists.proofs.Tables.{each_same, each_none}
use Rattle.lists.proofs.Picks.{map-those, Picked, those_mem, those-same, those-none, those-one}
use Rattle.frame.specs.declared.direction.Direction.{Direction}
use Rattle.frame.specs.declared.shape.Shape.{Shape}
use Rattle.frame.specs.declared.sweep.Sweep.{Sweep}
use Rattle.frame.specs.Direction.{shallow, opposite}
use Rattle.frame.specs.Lines.{r, eq_z, Pixel, at, pixels, place, gathered}
use Rattle.frame.specs.Sweep.{sweeping, sweep_of, shift, low, hit, cell, cells, value, values_at, Reach}
use Rattle.frame.proofs.Numbers.{eq_z_true, sub_shift, eq_z_sub, rising-is, falling_is}
use Rattle.frame.proofs.Rounding.{r-up}

-- ---- a hit

pub hits : (s : Sweep) (u i : ℕ) → hit s u i ≡ true → (shift s i ≤ u) × (u < shift s i + s.minors)
unfolding hit
hits s u i e = (
  leb-true (shift s i) u (both_left (leb (shift s i) u) (ltb u (shift s i + s.minors)) e),
  ltb-true u (shift s i + s.minors) (both_right (leb (shift s i) u) (ltb u (shift s i + s.minors)) e),
)

pub hit-at : (s : Sweep) (u i : ℕ) → shift s i ≤ u → u < shift s i + s.minors → hit s u i ≡ true
unfolding hit
hit-at s u i h k = rw (le-leb (shift s i) u h, lt-ltb u (shift s i + s.minors) k)

pub hit-below : (s : Sweep) (u i : ℕ) → u < shift s i → hit s u i ≡ false
unfolding hit
hit-below s u i h = rw (lt-leb (shift s i) u h)

pub hit-past : (s : Sweep) (u i : ℕ) → shift s i + s.minors ≤ u → hit s u i ≡ false
unfolding hit
hit-past s u i h = rw (le-ltb u (shift s i + s.minors) h, and-false)

pub value_on : (s : Sweep) (f : List ℕ) (u i : ℕ) → hit s u i ≡ true → value s f u i ≡ get_or f (cell s u i) 0
unfolding value
value_on s f u i e = rw e

pub value-off : (s : Sweep) (f : List ℕ) (u i : ℕ) → hit s u i ≡ false → value s f u i ≡ 0
unfolding value
value-off s f u i e = rw e

pub cells_mem : (s : Sweep) (u n c : ℕ) → Memᴰ c (cells s u n) → Picked (hit s u) (cell s u) n c
unfolding cells
cells_mem s u n c m = those_mem (hit s u) (cell s u) n c m

pub cell_reach : (s : Sweep) (u i n : ℕ) → i < s.majors → hit s u i ≡ true → Reach s n → cell s u i < n
unfolding cell
cell_reach s u i n h e k =
    let a = hits s u i e in
    let p : i * s.pace ≤ (s.majors - 1) * s.pace = mul-le-mul_right s.pace (omega arith) in
    let q : (u - shift s i) * s.sidestep ≤ (s.minors - 1) * s.sidestep = mul-le-mul_right s.sidestep (omega arith) in
    omega arith

-- ---- the lines of a sweep

-- the number of the line of the pixel with major coordinate i and minor coordinate j, by the sign
unfoldable number_at : Bool → ℕ → ℕ → ℕ → ℕ → ℤ
number_at f a b i j = pos j -ℤ cond f (negsuc 0) (pos 1) *ℤ pos (r a b i)

module _ (m n major-step minor-step a b : ℕ) (moves : 1 ≤ a) where
  number_is : (f : Bool) (i j : ℕ) → i < m → number_at f a b i j ≡ sub_ℕ (j + shift (sweeping m n major-step minor-step a b f) i) (low (sweeping m n major-step minor-step a b f))
  unfolding number_at shift low
  number_is true i j h = falling_is j (r a b i)
  number_is false i j h =
      let k : r a b i ≤ r a b (m - 1) = r-up a b i (m - 1) moves (omega arith) in
      rising-is j (r a b i) ∙ sub_shift j (r a b i) (j + (r a b (m - 1) - r a b i)) (r a b (m - 1)) (omega arith)

  module _ {A : Type 0} (f : Bool) (g : ℕ → ℕ → A) where
    swept : (u : ℕ)
        → each (λ (i : ℕ). those (λ (j : ℕ). eq_z (number_at f a b i j) (sub_ℕ u (low (sweeping m n major-step minor-step a b f)))) (g i) n) m
        ≡ those (hit (sweeping m n major-step minor-step a b f) u) (λ (i : ℕ). g i (u - shift (sweeping m n major-step minor-step a b f) i)) m
    unfolding hit
    swept u =
        let s = sweeping m n major-step minor-step a b f in
        each_same _ _ m (λ i h.
        those-same _ _ (g i) (g i) n (λ j l. ap (λ (z : ℤ). eq_z z (sub_ℕ u (low s))) (number_is f i j h) ∙ eq_z_sub (j + shift s i) u (low s)) (λ j l. refl)
        ∙ those-one (g i) (shift s i) u n)

    unswept : (k : ℤ) → ((v : ℕ) → sub_ℕ v (low (sweeping m n major-step minor-step a b f)) ≡ k → ⊥)
        → each (λ (i : ℕ). those (λ (j : ℕ). eq_z (number_at f a b i j) k) (g i) n) m ≡ []
    unswept k none = each_none _ m (λ i h. those-none _ (g i) n (λ j l. off i j h (eq_z (number_at f a b i j) k) refl))
      where
        off : (i j : ℕ) → i < m → (t : Bool) → eq_z (number_at f a b i j) k ≡ t → eq_z (number_at f a b i j) k ≡ false
        off i j h true e = absurd (none (j + shift (sweeping m n major-step minor-step a b f) i) (sym (number_is f i j h) ∙ eq_z_true _ _ e))
        off i j h false e = e

-- ---- document 01's lines

-- the pixel with major coordinate i and minor coordinate j
abbrev pub spot : Direction → ℕ → ℕ → Pixel
spot d i j = cond (shallow d) (at i j) (at j i)

pub cell-place : (sh : Shape) (d : Direction) (u i : ℕ) → cell (sweep_of sh d) u i ≡ place sh (spot d i (u - shift (sweep_of sh d) i))
unfolding sweep_of cell
cell-place sh d u i = go (shallow d) refl
  where
    go : (t : Bool) → shallow d ≡ t → cell (sweep_of sh d) u i ≡ place sh (spot d i (u - shift (sweep_of sh d) i))
    go true e = rw e (omega arith)
    go false e = rw e (omega arith)

moving : (d : Direction) → 1 ≤ nat_abs d.p + nat_abs d.q → (t : Bool) → shallow d ≡ t → 1 ≤ cond t (nat_abs d.p) (nat_abs d.q)
moving d h true e = let k = leb-true (nat_abs d.q) (nat_abs d.p) e in omega arith
moving d h false e = let k = leb-false (nat_abs d.q) (nat_abs d.p) e in omega arith

module _ (sh : Shape) (d : Direction) (some : 1 ≤ nat_abs d.p + nat_abs d.q) where
  pub pixels_are : (u : ℕ)
      → pixels sh d (sub_ℕ u (low (sweep_of sh d))) ≡ those (hit (sweep_of sh d) u) (λ (i : ℕ). spot d i (u - shift (sweep_of sh d) i)) (sweep_of sh d).majors
  unfolding sweep_of number_at
  pixels_are u = go (shallow d) refl
    where
      go : (t : Bool) → shallow d ≡ t
          → pixels sh d (sub_ℕ u (low (sweep_of sh d))) ≡ those (hit (sweep_of sh d) u) (λ (i : ℕ). spot d i (u - shift (sweep_of sh d) i)) (sweep_of sh d).majors
      go true e =
          rw e (swept sh.width sh.height 1 sh.stride (nat_abs d.p) (nat_abs d.q) (moving d some true e) (opposite d) (λ x y. at x y) u)
      go false e =
          rw e (swept sh.height sh.width sh.stride 1 (nat_abs d.q) (nat_abs d.p) (moving d some false e) (opposite d) (λ y x. at x y) u)

  pub pixels-none : (k : ℤ) → ((v : ℕ) → sub_ℕ v (low (sweep_of sh d)) ≡ k → ⊥) → pixels sh d k ≡ []
  unfolding sweep_of number_at
  pixels-none k none = go (shallow d) refl none
    where
      go : (t : Bool) → shallow d ≡ t → ((v : ℕ) → sub_ℕ v (low (sweep_of sh d)) ≡ k → ⊥) → pixels sh d k ≡ []
      go true e none =
          rw e (unswept sh.width sh.height 1 sh.stride (nat_abs d.p) (nat_abs d.q) (moving d some true e) (opposite d) (λ x y. at x y) k (rw e at none))
      go false e none =
          rw e (unswept sh.height sh.width sh.stride 1 (nat_abs d.q) (nat_abs d.p) (moving d some false e) (opposite d) (λ y x. at x y) k (rw e at none))

  pub places_are : (u : ℕ) → map (place sh) (pixels sh d (sub_ℕ u (low (sweep_of sh d)))) ≡ cells (sweep_of sh d) u (sweep_of sh d).majors
  unfolding cells
  places_are u =
      let s = sweep_of sh d in
      ap (map (place sh)) (pixels_are u)
      ∙ map-those (place sh) (hit s u) (λ (i : ℕ). spot d i (u - shift s i)) s.majors
      ∙ those-same (hit s u) (hit s u) _ _ s.majors (λ i l. refl) (λ i l. sym (cell-place sh d u i))

  pub values_are : (u : ℕ) (f : List ℕ) → gathered f sh d (sub_ℕ u (low (sweep_of sh d))) ≡ values_at f (cells (sweep_of sh d) u (sweep_of sh d).majors)
  values_are u f =
      sym (map-map (λ (c : ℕ). get_or f c 0) (place sh) (pixels sh d (sub_ℕ u (low (sweep_of sh d)))))
      ∙ ap (values_at f) (places_are u)
