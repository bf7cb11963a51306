-- Along, a line is a row.
--   along-opened           an opened pixel, in a direction without a slope, by its row
--   numbered-along         the same of direction 0, where a length counts the pixels of a row
-- Assumes nothing.
use mathlib.Core.Path.{◌≡◌, refl, sym, ap, ap₂, ◌∙◌}
use mathlib.Core.Bool.{Bool, true, cond}
use mathlib.Core.List.{List}
use Prim.Native.Nat.{ℕ, ◌-◌, ◌≤◌, ◌<◌}
use native.Mathlib.Omega.{arith}
use lib.ListN.{length, get_or}
use lib.IntN.{nat_abs}
use Rattle.line.specs.Windows.{opened}
use Rattle.frame.specs.declared.direction.Direction.{Direction}
use Rattle.frame.specs.declared.shape.Shape.{Shape}
use Rattle.frame.specs.declared.sweep.Sweep.{Sweep}
use Rattle.frame.specs.Direction.{along}
use Rattle.frame.specs.Shape.{needed}
use Rattle.frame.specs.Lines.{at, line_read}
use Rattle.frame.specs.Sweep.{sweep_of, shift, hit, Accepted}
use Rattle.frame.specs.Span.{Spans}
use Rattle.frame.proofs.Walks.{hit-at}
use Rattle.frame.proofs.Pixels.{number}
use Rattle.frame.proofs.Spots.{Spot, spot-line, spot_index}
use Rattle.frame.proofs.Lengths.{pixels-along}
use Rattle.frame.proofs.Alongs.{flat-shallow, flat_sweep, flat-shift}
use Rattle.gathering.specs.Rows.{row_of}
use Rattle.gathering.proofs.LentRows.{along-row}
use Rattle.opening.specs.Pixels as opening
use Rattle.opening.specs.Pixels.{opened_pixel, in_direction}

module _ (f : List ℕ) (sh : Shape) (d : Direction) (ok : Accepted sh d) (flat : nat_abs d.q ≡ 0) (fits : needed sh ≤ length f) where
  wide : (sweep_of sh d).majors ≡ sh.width
  wide = ap (λ (s : Sweep). s.majors) (flat_sweep sh d flat)

  -- line y has a pixel in every column
  row-hit : (x y : ℕ) → y < sh.height → hit (sweep_of sh d) y x ≡ true
  row-hit x y l =
      let still = flat-shift sh d ok flat x in
      let high : (sweep_of sh d).minors ≡ sh.height = ap (λ (s : Sweep). s.minors) (flat_sweep sh d flat) in
      hit-at (sweep_of sh d) y x (omega arith) (omega arith)

  row-spans : (y : ℕ) → y < sh.height → Spans (sweep_of sh d) y 0 sh.width
  row-spans y l =
      record {
        fits = omega (arith, wide);
        inside = λ x lo hi. row-hit x y l;
        before = λ x h. absurd (omega arith);
        behind = λ x lo hi. absurd (omega (arith, wide));
      }

  row-spot : (x y : ℕ) → x < sh.width → y < sh.height → Spot sh d x y
  row-spot x y h l =
      let s = sweep_of sh d in
      let high : s.minors ≡ sh.height = ap (λ (s : Sweep). s.minors) (flat_sweep sh d flat) in
      let same : y - shift s x ≡ y = omega (arith, flat-shift sh d ok flat x) in
      record {
        u = y;
        i = x;
        below = omega (arith, wide);
        line = omega arith;
        on = row-hit x y l;
        stands = ap (λ (t : Bool). cond t (at x (y - shift s x)) (at (y - shift s x) x)) (flat-shallow d flat) ∙ ap (at x) same;
      }

  pub along-opened : (L x y : ℕ) → x < sh.width → y < sh.height → opened_pixel f sh d L x y ≡ get_or (opened (row_of f sh y) L) x 0
  unfolding opening.opened_pixel row-spot
  along-opened L x y h l =
      let p = row-spot x y h l in
      let here : x - 0 ≡ x = omega arith in
      ap₂ (λ (line : List ℕ) (j : ℕ). get_or (opened line L) j 0)
      (ap (line_read f sh d) (spot-line sh d ok p ∙ sym (number sh d y)) ∙ along-row sh d ok flat f fits y l)
      (spot_index sh d ok p (row-spans y l) ∙ here)

pub numbered-along : (f : List ℕ) (sh : Shape) → Accepted sh along → needed sh ≤ length f → (L : ℕ) → 1 ≤ L → (x y : ℕ) → x < sh.width → y < sh.height
    → in_direction f sh L x y 0 ≡ get_or (opened (row_of f sh y) L) x 0
numbered-along f sh ok fits L some x y h l =
    ap (λ (k : ℕ). opened_pixel f sh along k x y) (pixels-along L some) ∙ along-opened f sh along ok refl fits L x y h l
