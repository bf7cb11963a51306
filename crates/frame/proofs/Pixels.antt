-- Document 01 on the lines of a frame, as theorems about its definitions.
--   exactly_one-line         'Every pixel of a frame is on exactly one line.' Its two halves: on_its_line, its_line
--   line_interval            a line's pixels are an interval of the major coordinate; pixels-most: no more than the longer side
--   number, first-is, count-is    the number of a line's index, the first number and the count of the lines
--   pixels-past              a line past the last has no pixels; empty-none, empty-some: what no pixels say
--   line_among, among_line   the numbers of the lines that a frame has are an interval: line_count of them from first_line on
-- Assumes nothing.
use mathlib.Core.Path.{◌≡◌, refl, sym, ap, ap₂, ◌∙◌, subst}
use mathlib.Core.Bool.{Bool, true, false, cond, true≢false}
use mathlib.Core.Logic.{◌⊎◌, inl, inr, ⊎_elim}
use mathlib.Core.List.Memᴰ
use mathlib.Core.List.{List, [], ◌∷◌, map, Memᴰ}
use Prim.Native.Nat.{ℕ, zero, suc, ◌+◌, ◌-◌, ◌≤◌, ◌<◌, max, zero-le}
use native.Mathlib.Omega.{arith}
use borrow.Author.Tests.{le-ltb}
use lib.ListN.{length}
use lib.IntN.{ℤ, pos, neg_ℤ, nat_abs, sub_ℕ, ◌+ℤ◌, +ℤ_idr}
use Rattle.lists.specs.Tables.{each, table}
use Rattle.lists.proofs.Cases.{less_or_not}
use Rattle.lists.proofs.Tables.{length-table}
use Rattle.lists.proofs.Picks.{each_mem, each_in, keep_mem, those_in}
use Rattle.frame.specs.declared.direction.Direction.{Direction}
use Rattle.frame.specs.declared.shape.Shape.{Shape}
use Rattle.frame.specs.Direction.{shallow, opposite}
use Rattle.frame.specs.Lines.{r, line_of, eq_z, Pixel, at, pixel_on, pixels, place, empty, no_line, first_line, line_count}
use Rattle.frame.specs.Sweep.{sweep_of, shift, low, lines, hit, Accepted}
use Rattle.frame.specs.Span.{span_from, span_end}
use Rattle.frame.proofs.Numbers.{eq_z_true, eq_z-same, Index, indexed}
use Rattle.frame.proofs.Shapes.{accepted-some, sweep_sane}
use Rattle.frame.proofs.Walks.{spot, pixels_are, pixels-none, places_are}
use Rattle.frame.proofs.Spans.{spans, pixels_span, past-lines, line-some}

-- ---- every pixel is on exactly one line

by_x : Shape → Direction → ℤ → List Pixel
by_x sh d k = each (λ (x : ℕ). each (λ (y : ℕ). pixel_on d k x y) sh.height) sh.width

by_y : Shape → Direction → ℤ → List Pixel
by_y sh d k = each (λ (y : ℕ). each (λ (x : ℕ). pixel_on d k x y) sh.width) sh.height

by_major : (sh : Shape) (d : Direction) (k : ℤ) (t : Bool) → shallow d ≡ t → pixels sh d k ≡ cond t (by_x sh d k) (by_y sh d k)
unfolding by_x by_y
by_major sh d k t e = ap (λ (t : Bool). cond t (by_x sh d k) (by_y sh d k)) e

at-is : (d : Direction) (k : ℤ) (x y x' y' : ℕ) → Memᴰ (at x y) (pixel_on d k x' y') → (x ≡ x') × (y ≡ y') × (line_of d x y ≡ k)
at-is d k x y x' y' m =
    let h = keep_mem (eq_z (line_of d x' y') k) (at x y) (at x' y') m in
    let p : x ≡ x' = ap (λ (c : Pixel). c.x) h.1 in
    let q : y ≡ y' = ap (λ (c : Pixel). c.y) h.1 in
    (p, q, ap₂ (line_of d) p q ∙ eq_z_true (line_of d x' y') k h.0)

-- a pixel of line k is a pixel of the frame, and its line's number is k
pub its_line : (sh : Shape) (d : Direction) (k : ℤ) (x y : ℕ) → Memᴰ (at x y) (pixels sh d k) → (x < sh.width) × (y < sh.height) × (line_of d x y ≡ k)
unfolding by_x by_y
its_line sh d k x y m = go (shallow d) refl
  where
    go : (t : Bool) → shallow d ≡ t → (x < sh.width) × (y < sh.height) × (line_of d x y ≡ k)
    go true e =
        let a = each_mem (λ (x : ℕ). each (λ (y : ℕ). pixel_on d k x y) sh.height) sh.width (at x y) (subst (Memᴰ (at x y)) (by_major sh d k true e) m) in
        let b = each_mem (λ (y : ℕ). pixel_on d k a.i y) sh.height (at x y) a.there in
        let c = at-is d k x y a.i b.i b.there in
        (omega (arith, c.0, a.below), omega (arith, c.1, b.below), c.2)
    go false e =
        let a = each_mem (λ (y : ℕ). each (λ (x : ℕ). pixel_on d k x y) sh.width) sh.height (at x y) (subst (Memᴰ (at x y)) (by_major sh d k false e) m) in
        let b = each_mem (λ (x : ℕ). pixel_on d k x a.i) sh.width (at x y) a.there in
        let c = at-is d k x y b.i a.i b.there in
        (omega (arith, c.0, b.below), omega (arith, c.1, a.below), c.2)

-- each pixel of the frame is on the line of its number
pub on_its_line : (sh : Shape) (d : Direction) (x y : ℕ) → x < sh.width → y < sh.height → Memᴰ (at x y) (pixels sh d (line_of d x y))
unfolding by_x by_y
on_its_line sh d x y h l = go (shallow d) refl
  where
    here : Memᴰ (at x y) (pixel_on d (line_of d x y) x y)
    here = rw (eq_z-same (line_of d x y) (line_of d x y) refl) (Memᴰ.head refl)

    go : (t : Bool) → shallow d ≡ t → Memᴰ (at x y) (pixels sh d (line_of d x y))
    go true e =
        subst (Memᴰ (at x y)) (sym (by_major sh d (line_of d x y) true e))
        (each_in (λ (x' : ℕ). each (λ (y' : ℕ). pixel_on d (line_of d x y) x' y') sh.height) sh.width x (at x y) h
        (each_in (λ (y' : ℕ). pixel_on d (line_of d x y) x y') sh.height y (at x y) l here))
    go false e =
        subst (Memᴰ (at x y)) (sym (by_major sh d (line_of d x y) false e))
        (each_in (λ (y' : ℕ). each (λ (x' : ℕ). pixel_on d (line_of d x y) x' y') sh.width) sh.height y (at x y) l
        (each_in (λ (x' : ℕ). pixel_on d (line_of d x y) x' y) sh.width x (at x y) h here))

pub exactly_one-line : (sh : Shape) (d : Direction) (x y : ℕ) → x < sh.width → y < sh.height
    → Memᴰ (at x y) (pixels sh d (line_of d x y)) × ((k : ℤ) → Memᴰ (at x y) (pixels sh d k) → k ≡ line_of d x y)
exactly_one-line sh d x y h l = (on_its_line sh d x y h l, λ k m. sym (its_line sh d k x y m).2)

-- ---- the lines of an accepted frame and direction

pub empty-none : (cs : List Pixel) → length cs ≡ 0 → empty cs ≡ true
empty-none [] e = refl
empty-none (c ∷ cs) e = absurd (omega arith)

pub empty-some : (cs : List Pixel) → (length cs ≡ 0 → ⊥) → empty cs ≡ false
empty-some [] h = absurd (h refl)
empty-some (c ∷ cs) h = refl

pub empty_not : (cs : List Pixel) (c : Pixel) → Memᴰ c cs → empty cs ≡ false
empty_not [] c m = absurd (Memᴰ.not-nil m)
empty_not (b ∷ cs) c m = refl

map-none : (h : Pixel → ℕ) (cs : List Pixel) → map h cs ≡ [] → cs ≡ []
map-none h [] e = refl
map-none h (c ∷ cs) e = absurd (true≢false (sym (ap none e)))
  where
    none : List ℕ → Bool
    none [] = true
    none (x ∷ xs) = false

-- the pixels of line k: those with the major coordinates from `from` on, count of them, each with its minor coordinate
pub record Interval (sh : Shape) (d : Direction) (k : ℤ) : Type 0 where
  pub from : ℕ
  pub count : ℕ
  pub minor : ℕ → ℕ
  pub fits : from + count ≤ cond (shallow d) sh.width sh.height
  pub is : pixels sh d k ≡ table (λ (i : ℕ). spot d (from + i) (minor i)) count

-- line k is one of line_count lines from first_line on
pub record Among (sh : Shape) (d : Direction) (k : ℤ) : Type 0 where
  pub u : ℕ
  pub below : u < line_count sh d
  pub is : first_line sh d +ℤ pos u ≡ k

pub number : (sh : Shape) (d : Direction) (u : ℕ) → first_line sh d +ℤ pos u ≡ sub_ℕ u (low (sweep_of sh d))
unfolding sweep_of low
number sh d u = go (shallow d) refl (opposite d) refl
  where
    down : (t : ℕ) → neg_ℤ (pos t) +ℤ pos u ≡ sub_ℕ u t
    down zero = rw (le-ltb u 0 zero-le) (ap pos (omega arith))
    down (suc t) = refl

    go : (t : Bool) → shallow d ≡ t → (f : Bool) → opposite d ≡ f → first_line sh d +ℤ pos u ≡ sub_ℕ u (low (sweep_of sh d))
    go true e true f = rw (e, f) (down 0)
    go true e false f = rw (e, f) (down (r (nat_abs d.p) (nat_abs d.q) (sh.width - 1)))
    go false e true f = rw (e, f) (down 0)
    go false e false f = rw (e, f) (down (r (nat_abs d.q) (nat_abs d.p) (sh.height - 1)))

majors_are : (sh : Shape) (d : Direction) → (sweep_of sh d).majors ≡ cond (shallow d) sh.width sh.height
unfolding sweep_of
majors_are sh d = go (shallow d) refl
  where
    go : (t : Bool) → shallow d ≡ t → (sweep_of sh d).majors ≡ cond (shallow d) sh.width sh.height
    go true e = rw e
    go false e = rw e

pub first-is : (sh : Shape) (d : Direction) → first_line sh d ≡ sub_ℕ 0 (low (sweep_of sh d))
first-is sh d = sym (+ℤ_idr (first_line sh d)) ∙ number sh d 0

pub count-is : (sh : Shape) (d : Direction) → line_count sh d ≡ lines (sweep_of sh d)
unfolding sweep_of
count-is sh d = go (shallow d) refl
  where
    go : (t : Bool) → shallow d ≡ t → line_count sh d ≡ lines (sweep_of sh d)
    go true e = rw e
    go false e = rw e

module _ (sh : Shape) (d : Direction) (ok : Accepted sh d) where
  pub pixels-past : (u : ℕ) → lines (sweep_of sh d) ≤ u → pixels sh d (sub_ℕ u (low (sweep_of sh d))) ≡ []
  pixels-past u h =
      map-none (place sh) (pixels sh d (sub_ℕ u (low (sweep_of sh d))))
      (places_are sh d (accepted-some ok) u ∙ past-lines (sweep_of sh d) (sweep_sane ok) u h)

  pub line_interval : (k : ℤ) → Interval sh d k
  unfolding each
  line_interval k = go (indexed (low (sweep_of sh d)) k)
    where
      nothing : pixels sh d k ≡ [] → Interval sh d k
      nothing e = record { from = 0; count = 0; minor = λ i. 0; fits = omega arith; is = e }

      go : Index (low (sweep_of sh d)) k ⊎ ((u : ℕ) → sub_ℕ u (low (sweep_of sh d)) ≡ k → ⊥) → Interval sh d k
      go (inl x) =
          let s = sweep_of sh d in
          let u = x.u in
          ⊎_elim
          (λ h.
          record {
            from = span_from s u;
            count = span_end s u - span_from s u;
            minor = λ i. u - shift s (span_from s u + i);
            fits = omega (arith, (spans s (sweep_sane ok) u h).fits, majors_are sh d);
            is = ap (pixels sh d) (sym x.is)
                ∙ pixels_span sh d (accepted-some ok) u (span_from s u) (span_end s u - span_from s u)
                (spans s (sweep_sane ok) u h);
          })
          (λ h. nothing (ap (pixels sh d) (sym x.is) ∙ pixels-past u h))
          (less_or_not u (lines s))
      go (inr none) = nothing (pixels-none sh d (accepted-some ok) k none)

  -- so a line has no more pixels than the longer side
  pub pixels-most : (k : ℤ) → length (pixels sh d k) ≤ max sh.width sh.height
  pixels-most k = go (line_interval k) (shallow d) refl
    where
      longer : (t : Bool) → length (pixels sh d k) ≤ cond t sh.width sh.height → length (pixels sh d k) ≤ max sh.width sh.height
      longer true h = omega arith
      longer false h = omega arith

      go : Interval sh d k → (t : Bool) → shallow d ≡ t → length (pixels sh d k) ≤ max sh.width sh.height
      go p t e =
          let n = ap length p.is ∙ length-table (λ (i : ℕ). spot d (p.from + i) (p.minor i)) p.count in
          let side = rw e at p.fits in
          longer t (omega (arith, n, side))

  pub line_among : (k : ℤ) → no_line sh d k ≡ false → Among sh d k
  line_among k e = go (indexed (low (sweep_of sh d)) k)
    where
      go : Index (low (sweep_of sh d)) k ⊎ ((u : ℕ) → sub_ℕ u (low (sweep_of sh d)) ≡ k → ⊥) → Among sh d k
      go (inl x) =
          ⊎_elim
          (λ h. record { u = x.u; below = omega (arith, count-is sh d); is = number sh d x.u ∙ x.is })
          (λ h. absurd (true≢false (sym (ap empty (ap (pixels sh d) (sym x.is) ∙ pixels-past x.u h)) ∙ e)))
          (less_or_not x.u (lines (sweep_of sh d)))
      go (inr none) = absurd (true≢false (sym (ap empty (pixels-none sh d (accepted-some ok) k none)) ∙ e))

  pub among_line : (k : ℤ) → Among sh d k → no_line sh d k ≡ false
  among_line k a =
      let s = sweep_of sh d in
      let q : sub_ℕ a.u (low s) ≡ k = sym (number sh d a.u) ∙ a.is in
      let p = line-some s (sweep_sane ok) a.u (omega (arith, a.below, count-is sh d)) in
      let m = those_in (hit s a.u) (λ (i : ℕ). spot d i (a.u - shift s i)) s.majors p.i p.below p.on in
      empty_not (pixels sh d k) (spot d p.i (a.u - shift s p.i))
      (subst (Memᴰ (spot d p.i (a.u - shift s p.i))) (sym (pixels_are sh d (accepted-some ok) a.u) ∙ ap (pixels sh d) q) m)
