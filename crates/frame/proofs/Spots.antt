-- A pixel among others, and on its line of the sweep.
--   index_at, index_in_lem     where a pixel stands in a list
--   Spot, spot_of, spot-cell   each pixel of a frame is on a line of the sweep, at a major coordinate; its byte
--   spot-line, spot_index      its line's number, and its index among the line's pixels
-- Assumes nothing.
use mathlib.Core.Path.{◌≡◌, refl, sym, ap, ap₂, ◌∙◌, subst}
use mathlib.Core.Bool.{Bool, true, false, and-false, true≢false}
use mathlib.Core.Logic.{⊎_elim}
use mathlib.Core.List.Memᴰ
use mathlib.Core.List.{List, [], ◌∷◌, Memᴰ}
use Prim.Native.Nat.{ℕ, zero, suc, ◌+◌, ◌-◌, ◌<◌}
use native.Mathlib.Nat.{le_of_suc-le-suc}
use native.Mathlib.Omega.{arith}
use borrow.Author.Tests.{eqb-true, eq-eqb, ne_eqb}
use lib.Dec.{eqb}
use lib.ListN.{length, get_or}
use lib.IntN.{sub_ℕ}
use Rattle.lists.specs.Tables.{table}
use Rattle.lists.proofs.Cases.{both_left, both_right}
use Rattle.lists.proofs.Tables.{length-table, get_d_table}
use Rattle.lists.proofs.Picks.{those_in}
use Rattle.frame.specs.declared.direction.Direction.{Direction}
use Rattle.frame.specs.declared.shape.Shape.{Shape}
use Rattle.frame.specs.Direction.{shallow}
use Rattle.frame.specs.Lines.{Pixel, at, line_of, pixels, place, same_pixel, index_in}
use Rattle.frame.specs.Sweep.{sweep_of, shift, low, lines, hit, cell, Accepted, Sane}
use Rattle.frame.specs.Span.{Spans}
use Rattle.frame.proofs.Shapes.{accepted-some, sweep_sane}
use Rattle.frame.proofs.Walks.{spot, hit-at, cell-place, pixels_are}
use Rattle.frame.proofs.Pixels.{its_line}
use Rattle.frame.proofs.Spans.{shift_le, span_holds, pixels_span}

-- ---- where a pixel stands among others

same-is : (c b : Pixel) → same_pixel c b ≡ true → c ≡ b
same-is c b e =
    ap₂ at (eqb-true c.x b.x (both_left (eqb c.x b.x) (eqb c.y b.y) e)) (eqb-true c.y b.y (both_right (eqb c.x b.x) (eqb c.y b.y) e))

same_self : (c b : Pixel) → c ≡ b → same_pixel c b ≡ true
same_self c b e = rw (← e) (rw (eq-eqb c.x c.x refl, eq-eqb c.y c.y refl))

pub index_at : (c : Pixel) (cs : List Pixel) (j : ℕ) → j < length cs → get_or cs j (at 0 0) ≡ c → ((k : ℕ) → k < j → same_pixel c (get_or cs k (at 0 0)) ≡ false) → index_in c cs ≡ j
unfolding index_in
index_at c [] j h e none = absurd (omega arith)
index_at c (b ∷ cs) zero h e none =
    let same : same_pixel c b ≡ true = rw e (rw (eq-eqb c.x c.x refl, eq-eqb c.y c.y refl)) in
    rw same
index_at c (b ∷ cs) (suc j) h e none =
    rw (none 0 (omega arith)) (ap suc (index_at c cs j (le_of_suc-le-suc h) e (λ k l. none (suc k) (omega arith))))

-- a pixel of a list stands at its index
pub index_in_lem : (c : Pixel) (cs : List Pixel) → Memᴰ c cs → (index_in c cs < length cs) × (get_or cs (index_in c cs) (at 0 0) ≡ c)
unfolding index_in
index_in_lem c [] m = absurd (Memᴰ.not-nil m)
index_in_lem c (b ∷ cs) m = go (index_in_lem c cs) (same_pixel c b) refl
  where
    go : (Memᴰ c cs → (index_in c cs < length cs) × (get_or cs (index_in c cs) (at 0 0) ≡ c)) → (t : Bool) → same_pixel c b ≡ t
        → (index_in c (b ∷ cs) < length (b ∷ cs)) × (get_or (b ∷ cs) (index_in c (b ∷ cs)) (at 0 0) ≡ c)
    go ih true e = rw e (omega arith, sym (same-is c b e))
    go ih false e =
        let there = ih (⊎_elim (λ q. absurd (true≢false (sym (same_self c b q) ∙ e))) (λ n. n) (Memᴰ.cases_cons m)) in
        rw e (omega (arith, there.0), there.1)

-- pixels with other major coordinates
spot-other : (d : Direction) (i j k l : ℕ) → (i ≡ k → ⊥) → same_pixel (spot d i j) (spot d k l) ≡ false
spot-other d i j k l apart = go (shallow d) refl
  where
    go : (t : Bool) → shallow d ≡ t → same_pixel (spot d i j) (spot d k l) ≡ false
    go true e = rw e (rw (ne_eqb i k apart))
    go false e = rw e (rw (ne_eqb i k apart, and-false))

-- ---- a pixel and its line

-- the pixel (x, y) is line u's at major coordinate i
pub record Spot (sh : Shape) (d : Direction) (x y : ℕ) : Type 0 where
  pub u : ℕ
  pub i : ℕ
  pub below : i < (sweep_of sh d).majors
  pub line : u < lines (sweep_of sh d)
  pub on : hit (sweep_of sh d) u i ≡ true
  pub stands : spot d i (u - shift (sweep_of sh d) i) ≡ at x y

pub spot-cell : {sh : Shape} {d : Direction} {x y : ℕ} (p : Spot sh d x y) → cell (sweep_of sh d) p.u p.i ≡ place sh (at x y)
spot-cell {sh} {d} {x} {y} p = cell-place sh d p.u p.i ∙ ap (place sh) p.stands

-- the line of the pixel with major coordinate i and minor coordinate j
spot-at : (sh : Shape) (d : Direction) (i j x y : ℕ) → Sane (sweep_of sh d) → i < (sweep_of sh d).majors → j < (sweep_of sh d).minors → spot d i j ≡ at x y → Spot sh d x y
spot-at sh d i j x y sane h l e =
    let s = sweep_of sh d in
    let back : j + shift s i - shift s i ≡ j = omega arith in
    record {
      u = j + shift s i;
      i = i;
      below = h;
      line = omega (arith, shift_le s sane i h);
      on = hit-at s (j + shift s i) i (omega arith) (omega arith);
      stands = ap (spot d i) back ∙ e;
    }

module _ (sh : Shape) (d : Direction) (ok : Accepted sh d) where
  pub spot_of : (x y : ℕ) → x < sh.width → y < sh.height → Spot sh d x y
  unfolding sweep_of
  spot_of x y h l = go (shallow d) refl
    where
      sane : Sane (sweep_of sh d)
      sane = sweep_sane ok

      go : (t : Bool) → shallow d ≡ t → Spot sh d x y
      go true e = spot-at sh d x y x y sane (rw e h) (rw e l) (rw e)
      go false e = spot-at sh d y x x y sane (rw e l) (rw e h) (rw e)

  -- and so is its line's number, and its index among the line's pixels
  pub spot-line : {x y : ℕ} (p : Spot sh d x y) → line_of d x y ≡ sub_ℕ p.u (low (sweep_of sh d))
  spot-line {x} {y} p =
      let s = sweep_of sh d in
      let k = sub_ℕ p.u (low s) in
      let member = those_in (hit s p.u) (λ (i : ℕ). spot d i (p.u - shift s i)) s.majors p.i p.below p.on in
      (its_line sh d k x y
      (subst (λ (c : Pixel). Memᴰ c (pixels sh d k)) p.stands
      (subst (Memᴰ (spot d p.i (p.u - shift s p.i))) (sym (pixels_are sh d (accepted-some ok) p.u)) member))).2

  pub spot_index : {x y from count : ℕ} (p : Spot sh d x y) → Spans (sweep_of sh d) p.u from count → index_in (at x y) (pixels sh d (line_of d x y)) ≡ p.i - from
  spot_index {x} {y} {from} {count} p w =
      let s = sweep_of sh d in
      let inside = span_holds w p.i p.below p.on in
      let here : from + (p.i - from) ≡ p.i = omega arith in
      ap₂ index_in (sym p.stands) (ap (pixels sh d) (spot-line p) ∙ pixels_span sh d (accepted-some ok) p.u from count w)
      ∙ index_at (spot d p.i (p.u - shift s p.i)) (table (λ (k : ℕ). spot d (from + k) (p.u - shift s (from + k))) count) (p.i - from)
      (omega (arith, length-table (λ (k : ℕ). spot d (from + k) (p.u - shift s (from + k))) count))
      (get_d_table (at 0 0) (λ (k : ℕ). spot d (from + k) (p.u - shift s (from + k))) count (p.i - from) (omega arith)
      ∙ ap (λ (k : ℕ). spot d k (p.u - shift s k)) here)
      (λ k l.
      ap (same_pixel (spot d p.i (p.u - shift s p.i))) (get_d_table (at 0 0) (λ (k : ℕ). spot d (from + k) (p.u - shift s (from + k))) count k (omega arith))
      ∙ spot-other d p.i (p.u - shift s p.i) (from + k) (p.u - shift s (from + k)) (λ q. omega arith))
