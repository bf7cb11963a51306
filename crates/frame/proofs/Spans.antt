-- At which major coordinates a line has its pixels: a stretch, whose ends are found by division.
--   passed_is, skipped-is     the first major coordinate at which a line has moved more than so far aside
--   shift_falling, shift-rising, shift_le    by the slope's sign; a line moves aside by at most `top`
--   from_falling, end_falling, from-rising, end_rising    its ends, by the slope's sign
--   span_ordered, spans       the stretch of a line
--   span_holds, cells_span, values_span, pixels_span    every pixel of the line is within it; the line's bytes, values and pixels, by it
--   past-lines, line-some     a line of an index past the last has no pixel, and every line below has one
-- Assumes nothing.
use mathlib.Core.Path.{◌≡◌, refl, sym, ap, ◌∙◌}
use mathlib.Core.Bool.{Bool, true, false, cond, true≢false}
use mathlib.Core.Logic.{⊎_elim}
use mathlib.Core.List.{List, []}
use Prim.Native.Nat.{ℕ, ◌+◌, ◌-◌, ◌*◌, ◌/◌, ◌≤◌, ◌<◌, min}
use native.Mathlib.Nat.{add-mul, mul-add, mul-zero, mul_assoc, mul_comm, mul-le-mul_right, div-lt_iff_lt-mul, le-div_iff_mul-le, div-mul-le_self, div-eq_of_lt, le_trans}
use native.Mathlib.Omega.{arith}
use borrow.Author.Tests.{eqb-true, eqb-false, ltb-true, ltb-false}
use lib.Dec.{ltb, eqb}
use lib.ListN.{get_or}
use lib.IntN.{nat_abs, sub_ℕ}
use Rattle.lists.specs.Tables.{table, those}
use Rattle.lists.proofs.Cases.{less_or_not}
use Rattle.lists.proofs.Picks.{map-table, those-none, those-stretch}
use Rattle.frame.specs.declared.direction.Direction.{Direction}
use Rattle.frame.specs.declared.shape.Shape.{Shape}
use Rattle.frame.specs.declared.sweep.Sweep.{Sweep}
use Rattle.frame.specs.Lines.{r, pixels}
use Rattle.frame.specs.Sweep.{sweep_of, shift, low, lines, hit, cell, cells, values_at, Sane}
use Rattle.frame.specs.Span.{passed, skipped, span_from, span_end, Spans}
use Rattle.frame.proofs.Rounding.{r-up, r-zero, r-step, At, reached}
use Rattle.frame.proofs.Walks.{hit-at, hit-below, hit-past, spot, pixels_are}

-- ---- by division

-- e is the first i below n with y < r a b i + x, and n where there is none
pub record Passes (a b n x y e : ℕ) : Type 0 where
  pub most : e ≤ n
  pub under : (i : ℕ) → i < e → r a b i + x ≤ y
  pub over : (i : ℕ) → e ≤ i → i < n → y < r a b i + x

turn : (i b : ℕ) → i * (2 * b) ≡ 2 * i * b
turn i b = sym (mul_assoc i 2 b) ∙ ap (λ (n : ℕ). n * b) (mul_comm i 2)

odd : (x a : ℕ) → (2 * x + 1) * a + a ≡ (x + 1) * (2 * a)
odd x a = omega (arith, add-mul (2 * x) 1 a, turn (x + 1) a, ap (λ (n : ℕ). n * a) (mul-add 2 x 1), add-mul (2 * x) (2 * 1) a)

module _ (a b n x : ℕ) (some : 1 ≤ a) where
  -- a line without a slope stays
  level : b ≡ 0 → (i : ℕ) → r a b i ≤ x
  unfolding r
  level z i =
      let e : 2 * i * b ≡ 0 = ap (λ (n : ℕ). 2 * i * n) z ∙ mul-zero (2 * i) in
      let q : (2 * i * b + a) / (2 * a) ≡ 0 = div-eq_of_lt (omega arith) in
      omega arith

  one : a ≤ (2 * x + 1) * a
  one = omega (arith, add-mul (2 * x) 1 a)

  module _ (rises : 1 ≤ b) where
    before : (i : ℕ) → i ≤ ((2 * x + 1) * a - 1) / (2 * b) → r a b i ≤ x
    unfolding r
    before i h =
        let p : i * (2 * b) ≤ (2 * x + 1) * a - 1 = le_trans (mul-le-mul_right (2 * b) h) (div-mul-le_self ((2 * x + 1) * a - 1) (2 * b)) in
        let q : (2 * i * b + a) / (2 * a) < x + 1 =
        (div-lt_iff_lt-mul {k = 2 * a} {x = 2 * i * b + a} {y = x + 1} (omega arith)).1 (omega (arith, odd x a, turn i b, one)) in
        omega arith

    after : (i : ℕ) → ((2 * x + 1) * a - 1) / (2 * b) < i → x < r a b i
    unfolding r
    after i h =
        let p : (2 * x + 1) * a - 1 < i * (2 * b) = (div-lt_iff_lt-mul {k = 2 * b} {x = (2 * x + 1) * a - 1} {y = i} (omega arith)).0 h in
        let q : x + 1 ≤ (2 * i * b + a) / (2 * a) =
        (le-div_iff_mul-le {k = 2 * a} {x = x + 1} {y = 2 * i * b + a} (omega arith)).1 (omega (arith, odd x a, turn i b, one)) in
        omega arith

  pub passed_is : Passes a b n 0 x (passed a b n x)
  unfolding passed
  passed_is = go (eqb b 0) refl
    where
      go : (t : Bool) → eqb b 0 ≡ t → Passes a b n 0 x (cond t n (min n (((2 * x + 1) * a - 1) / (2 * b) + 1)))
      go true e =
          record {
            most = omega arith;
            under = λ i h. omega (arith, level (eqb-true b 0 e) i);
            over = λ i l h. absurd (omega arith);
          }
      go false e =
          let rises : 1 ≤ b = omega (arith, eqb-false b 0 e) in
          record {
            most = omega arith;
            under = λ i h. omega (arith, before rises i (omega arith));
            over = λ i l h. omega (arith, after rises i (omega arith));
          }

pub skipped-is : (a b n x y : ℕ) → 1 ≤ a → Passes a b n x y (skipped a b n x y)
unfolding skipped
skipped-is a b n x y some = go (ltb y x) refl
  where
    go : (t : Bool) → ltb y x ≡ t → Passes a b n x y (cond t 0 (passed a b n (y - x)))
    go true e =
        let l = ltb-true y x e in
        record { most = omega arith; under = λ i h. absurd (omega arith); over = λ i k h. omega arith }
    go false e =
        let l = ltb-false y x e in
        let p = passed_is a b n (y - x) some in
        record {
          most = p.most;
          under = λ i h. omega (arith, p.under i h);
          over = λ i k h. omega (arith, p.over i k h);
        }

-- ---- the stretch of a line

pub shift_falling : (s : Sweep) → s.falling ≡ true → (i : ℕ) → shift s i ≡ r s.run s.rise i
unfolding shift
shift_falling s f i = rw f

pub shift-rising : (s : Sweep) → s.falling ≡ false → (i : ℕ) → shift s i ≡ s.top - r s.run s.rise i
unfolding shift
shift-rising s f i = rw f

pub shift_le : (s : Sweep) → Sane s → (i : ℕ) → i < s.majors → shift s i ≤ s.top
unfolding shift
shift_le s h i k = go s.falling
  where
    go : (t : Bool) → cond t (r s.run s.rise i) (s.top - r s.run s.rise i) ≤ s.top
    go true = omega (arith, h.top, r-up s.run s.rise i (s.majors - 1) h.moves (omega arith))
    go false = omega arith

record Ends (s : Sweep) (u from end : ℕ) : Type 0 where
  ordered : from ≤ end
  fits : end ≤ s.majors
  inside : (i : ℕ) → from ≤ i → i < end → hit s u i ≡ true
  before : (i : ℕ) → i < from → hit s u i ≡ false
  behind : (i : ℕ) → end ≤ i → i < s.majors → hit s u i ≡ false

module _ (s : Sweep) (u : ℕ) (f : s.falling ≡ true) where
  pub from_falling : span_from s u ≡ skipped s.run s.rise s.majors s.minors u
  unfolding span_from
  from_falling = rw f

  pub end_falling : span_end s u ≡ passed s.run s.rise s.majors u
  unfolding span_end
  end_falling = rw f

module _ (s : Sweep) (u : ℕ) (f : s.falling ≡ false) where
  pub from-rising : span_from s u ≡ skipped s.run s.rise s.majors (u + 1) s.top
  unfolding span_from
  from-rising = rw f

  pub end_rising : span_end s u ≡ passed s.run s.rise s.majors (lines s - u - 1)
  unfolding span_end
  end_rising = rw f

module _ (s : Sweep) (sane : Sane s) (u : ℕ) (here : u < lines s) where
  falls : s.falling ≡ true → {from end : ℕ} → Passes s.run s.rise s.majors s.minors u from → Passes s.run s.rise s.majors 0 u end
      → Ends s u from end
  falls f {from} {end} p q =
      let at = shift_falling s f in
      record {
        ordered = ⊎_elim (λ l. absurd (omega (arith, p.under end l, q.over end (omega arith) (omega (arith, p.most))))) (λ l. l) (less_or_not end from);
        fits = q.most;
        inside = λ i l h. hit-at s u i (omega (arith, at i, q.under i h)) (omega (arith, at i, p.over i l (omega (arith, q.most))));
        before = λ i h. hit-past s u i (omega (arith, at i, p.under i h));
        behind = λ i l h. hit-below s u i (omega (arith, at i, q.over i l h));
      }

  rises : s.falling ≡ false → {from end : ℕ} → Passes s.run s.rise s.majors (u + 1) s.top from
      → Passes s.run s.rise s.majors 0 (lines s - u - 1) end
      → Ends s u from end
  rises f {from} {end} p q =
      let at = shift-rising s f in
      let high : (i : ℕ) → i < s.majors → r s.run s.rise i ≤ s.top =
      λ i h. omega (arith, r-up s.run s.rise i (s.majors - 1) sane.moves (omega arith), sane.top) in
      record {
        ordered = ⊎_elim (λ l. absurd (omega (arith, p.under end l, q.over end (omega arith) (omega (arith, p.most)), sane.wide))) (λ l. l) (less_or_not end from);
        fits = q.most;
        inside = λ i l h.
            let k : i < s.majors = omega (arith, q.most) in
            hit-at s u i (omega (arith, at i, p.over i l k)) (omega (arith, at i, high i k, q.under i h));
        before = λ i h. hit-below s u i (omega (arith, at i, p.under i h));
        behind = λ i l h. hit-past s u i (omega (arith, at i, high i h, q.over i l h));
      }

  ends : Ends s u (span_from s u) (span_end s u)
  ends = go s.falling refl
    where
      go : (t : Bool) → s.falling ≡ t → Ends s u (span_from s u) (span_end s u)
      go true f =
          rw (from_falling s u f, end_falling s u f)
          (falls f (skipped-is s.run s.rise s.majors s.minors u sane.moves) (passed_is s.run s.rise s.majors u sane.moves))
      go false f =
          rw (from-rising s u f, end_rising s u f)
          (rises f (skipped-is s.run s.rise s.majors (u + 1) s.top sane.moves) (passed_is s.run s.rise s.majors (lines s - u - 1) sane.moves))

  pub span_ordered : span_from s u ≤ span_end s u
  span_ordered = ends.ordered

  pub spans : Spans s u (span_from s u) (span_end s u - span_from s u)
  spans =
      let e = ends in
      let k : span_from s u + (span_end s u - span_from s u) ≡ span_end s u = omega (arith, e.ordered) in
      record {
        fits = omega (arith, e.fits);
        inside = λ i l h. e.inside i l (omega arith);
        before = e.before;
        behind = λ i l h. e.behind i (omega arith) h;
      }

module _ {s : Sweep} {u from count : ℕ} (p : Spans s u from count) where
  -- every pixel of line u is within its stretch
  pub span_holds : (i : ℕ) → i < s.majors → hit s u i ≡ true → (from ≤ i) × (i < from + count)
  span_holds i k e = (
    ⊎_elim (λ q. absurd (true≢false (sym e ∙ p.before i q))) (λ q. q) (less_or_not i from),
    ⊎_elim (λ q. q) (λ q. absurd (true≢false (sym e ∙ p.behind i q k))) (less_or_not i (from + count)),
  )

  those_span : {A : Type 0} (g : ℕ → A) → those (hit s u) g s.majors ≡ table (λ (i : ℕ). g (from + i)) count
  those_span g = those-stretch (hit s u) g s.majors from count p.fits p.inside p.before p.behind

  pub cells_span : cells s u s.majors ≡ table (λ (i : ℕ). cell s u (from + i)) count
  unfolding cells
  cells_span = those_span (cell s u)

  pub values_span : (f : List ℕ) → values_at f (cells s u s.majors) ≡ table (λ (i : ℕ). get_or f (cell s u (from + i)) 0) count
  values_span f = ap (values_at f) cells_span ∙ map-table (λ (c : ℕ). get_or f c 0) (λ (i : ℕ). cell s u (from + i)) count

-- a line's pixels are an interval of the major coordinate
pub pixels_span : (sh : Shape) (d : Direction) → 1 ≤ nat_abs d.p + nat_abs d.q → (u from count : ℕ) → Spans (sweep_of sh d) u from count
    → pixels sh d (sub_ℕ u (low (sweep_of sh d))) ≡ table (λ (i : ℕ). spot d (from + i) (u - shift (sweep_of sh d) (from + i))) count
pixels_span sh d some u from count p = pixels_are sh d some u ∙ those_span p (λ (i : ℕ). spot d i (u - shift (sweep_of sh d) i))

-- ---- the lines there are

pub past-lines : (s : Sweep) → Sane s → (u : ℕ) → lines s ≤ u → cells s u s.majors ≡ []
unfolding cells
past-lines s h u k = those-none (hit s u) (cell s u) s.majors (λ i l. hit-past s u i (omega (arith, shift_le s h i l)))

pub record Some (s : Sweep) (u : ℕ) : Type 0 where
  pub i : ℕ
  pub below : i < s.majors
  pub on : hit s u i ≡ true

pub line-some : (s : Sweep) → Sane s → (u : ℕ) → u < lines s → Some s u
line-some s h u k = go s.falling refl
  where
    at_value : (v : ℕ) → v ≤ s.top → At (r s.run s.rise) (s.majors - 1) v
    at_value v l =
        reached (r s.run s.rise) (r-zero s.run s.rise h.moves) (λ i. r-step s.run s.rise i h.moves h.slow) (s.majors - 1) v (omega (arith, h.top))

    go : (t : Bool) → s.falling ≡ t → Some s u
    go true e =
        let a = at_value (min u s.top) (omega arith) in
        let q = shift_falling s e a.i in
        record { i = a.i; below = omega (arith, a.below, h.some); on = hit-at s u a.i (omega (arith, q, a.is)) (omega (arith, q, a.is, h.wide)) }
    go false e =
        let a = at_value (s.top - min u s.top) (omega arith) in
        let q = shift-rising s e a.i in
        record { i = a.i; below = omega (arith, a.below, h.some); on = hit-at s u a.i (omega (arith, q, a.is)) (omega (arith, q, a.is, h.wide)) }
