-- A frame copied, and opened where it stands by passes over its rows (crate rows): that is the opened source, painted. The copy's rows may stand closer, or
-- further apart, than those of the source.
--   opened-spot                    an opened pixel is the opening of its line, over all major coordinates of the sweep, there
--   opened_in_place_lem            every line opened where it stands is the frame opened
--   copied-opened                  an opened pixel depends on the pixels alone: the copy's is the source's
--   opened_copy                    the copy, opened by `open_down` or `open_shallow`
-- Assumes nothing.
use mathlib.Core.Path.{◌≡◌, refl, sym, ap, ap₂, ◌∙◌}
use mathlib.Core.Bool.{Bool, true, false, ◌&&◌}
use mathlib.Core.List.{List, [], ◌∷◌, map, Memᴰ}
use mathlib.Core.Logic.{⊎_elim}
use Prim.Native.Nat.{ℕ, ◌+◌, ◌-◌, ◌≤◌, ◌<◌}
use native.Mathlib.Omega.{arith}
use lib.ListN.{length, get_or, get_or-eq_default}
use Rattle.lists.specs.Tables.{table}
use Rattle.lists.proofs.Cases.{less_or_not}
use Rattle.lists.proofs.Tables.{length-table, get_d_table}
use Rattle.line.specs.Windows.{opened}
use Rattle.line.proofs.Windows.{opened-at}
use Rattle.line.proofs.Rims.{eroded-to-one, reopened-one, reopened-whole}
use Rattle.line.proofs.Padding.{opened_inner}
use Rattle.frame.specs.declared.direction.Direction.{Direction}
use Rattle.frame.specs.declared.shape.Shape.{Shape}
use Rattle.frame.specs.declared.sweep.Sweep.{Sweep}
use Rattle.frame.specs.Direction.{shallow}
use Rattle.frame.specs.Shape.{shape, is_frame, needed}
use Rattle.frame.specs.Lines.{Pixel, at, line_of, pixels, place, line_read, index_in}
use Rattle.frame.specs.Painted.{Painted}
use Rattle.frame.specs.Sweep as sweep
use Rattle.frame.specs.Sweep.{sweep_of, shift, cell, value, Accepted}
use Rattle.frame.specs.Span.{Spans}
use Rattle.frame.proofs.Shapes.{accepted-some, sweep_sane}
use Rattle.frame.proofs.Walks.{hits, value_on, value-off, values_are}
use Rattle.frame.proofs.Pixels.{its_line}
use Rattle.frame.proofs.Spans.{spans, span_holds, values_span}
use Rattle.frame.proofs.Spots.{Spot, spot_of, spot-cell, spot-line, spot_index}
use Rattle.frame.proofs.Paintings.{painted_as, painted_again}
use Rattle.gathering.specs.Rows.{row_of}
use Rattle.gathering.proofs.LentRows.{row-length, row-pixel}
use Rattle.rows.specs.Rows as rows
use Rattle.rows.specs.Rows.{byte_of, lane, OpensLines, can_open, OpensIf}
use Rattle.rows.proofs.Acceptance.{opens-all}
use Rattle.opening.specs.Pixels as opening
use Rattle.opening.specs.Pixels.{opened_pixel}

-- ---- a line over all major coordinates, 0 where it has no pixel: only its pixels count in its opening

abbrev whole : Sweep → List ℕ → ℕ → List ℕ
whole s f u = table (value s f u) s.majors

whole_inner : {s : Sweep} {u from count : ℕ} → Spans s u from count → (f : List ℕ) (L : ℕ) → 1 ≤ L → (i : ℕ) → from ≤ i → i < from + count
    → get_or (opened (table (λ (k : ℕ). get_or f (cell s u (from + k)) 0) count) L) (i - from) 0 ≡ get_or (opened (whole s f u) L) i 0
whole_inner {s} {u} {from} {count} w f L some i lo hi =
    let line : ℕ → ℕ = λ (k : ℕ). get_or f (cell s u (from + k)) 0 in
    let long : length (whole s f u) ≡ s.majors = length-table (value s f u) s.majors in
    let wide : length (table line count) ≡ count = length-table line count in
    let fits : from + count ≤ s.majors = w.fits in
    let here : from + (i - from) ≡ i = omega arith in
    sym
    (opened_inner (whole s f u) (table line count) from (omega arith)
    (λ k m.
    line-is (from + k) (omega arith) ∙ value_on s f u (from + k) (w.inside (from + k) (omega arith) (omega arith)) ∙ sym (get_d_table 0 line count k (omega arith)))
    (λ k m. line-is k (omega arith) ∙ value-off s f u k (w.before k m))
    (λ k m.
    ⊎_elim
    (λ q. line-is k q ∙ value-off s f u k (w.behind k (omega arith) q))
    (λ q. get_or-eq_default (whole s f u) 0 (omega arith))
    (less_or_not k s.majors))
    L (i - from) some (omega arith))
    ∙ ap (λ (k : ℕ). get_or (opened (whole s f u) L) k 0) here
  where
    line-is : (k : ℕ) → k < s.majors → get_or (whole s f u) k 0 ≡ value s f u k
    line-is k h = get_d_table 0 (value s f u) s.majors k h

opened-spot : (sh : Shape) (d : Direction) (ok : Accepted sh d) (f : List ℕ) (L : ℕ) → 1 ≤ L → {x y : ℕ} (p : Spot sh d x y)
    → opened_pixel f sh d L x y ≡ get_or (opened (whole (sweep_of sh d) f p.u) L) p.i 0
unfolding opening.opened_pixel
opened-spot sh d ok f L some p =
    let w = spans (sweep_of sh d) (sweep_sane ok) p.u p.line in
    let in' = span_holds w p.i p.below p.on in
    ap₂ (λ (l : List ℕ) (j : ℕ). get_or (opened l L) j 0)
    (ap (line_read f sh d) (spot-line sh d ok p) ∙ values_are sh d (accepted-some ok) p.u f ∙ values_span w f)
    (spot_index sh d ok p w)
    ∙ whole_inner w f L some p.i in'.0 in'.1

-- ---- every line opened where it stands

-- the pixel that stands at major coordinate i and minor coordinate k
record PixelAt (sh : Shape) (d : Direction) (i k : ℕ) : Type 0 where
  pub x : ℕ
  pub y : ℕ
  pub wide : x < sh.width
  pub high : y < sh.height
  pub is : byte_of (sweep_of sh d) i k ≡ place sh (at x y)

module _ (sh : Shape) (d : Direction) where
  pixel-at : (i k : ℕ) → i < (sweep_of sh d).majors → k < (sweep_of sh d).minors → PixelAt sh d i k
  unfolding sweep.sweep_of
  pixel-at i k h n = go (shallow d) refl
    where
      go : (t : Bool) → shallow d ≡ t → PixelAt sh d i k
      go true e = record { x = i; y = k; wide = rw e at h; high = rw e at n; is = rw e (omega arith) }
      go false e = record { x = k; y = i; wide = rw e at n; high = rw e at h; is = rw e (omega arith) }

  lane-is : (g : List ℕ) (u : ℕ) → lane (shift (sweep_of sh d)) (byte_of (sweep_of sh d)) (sweep_of sh d).minors (sweep_of sh d).majors g u ≡ whole (sweep_of sh d) g u
  unfolding rows.lane_at sweep.value sweep.hit sweep.cell
  lane-is g u = refl

  opened_in_place_lem : {g g' : List ℕ} (L : ℕ) → Accepted sh d → 1 ≤ L → OpensLines (sweep_of sh d) L g g' → Painted sh (opened_pixel g sh d L) g g'
  unfolding sweep.cell
  opened_in_place_lem {g} {g'} L ok some o =
      record {
        same = o.same;
        pixels = λ x y h l.
            let s = sweep_of sh d in
            let p = spot_of sh d ok x y h l in
            let on = hits s p.u p.i p.on in
            let back : p.u - shift s p.i + shift s p.i ≡ p.u = omega arith in
            sym (ap (λ (k : ℕ). get_or g' k 0) (spot-cell p))
            ∙ o.within p.i (p.u - shift s p.i) p.below (omega arith)
            ∙ ap (λ (v : ℕ). get_or (opened (lane (shift s) (byte_of s) s.minors s.majors g v) L) p.i 0) back
            ∙ ap (λ (t : List ℕ). get_or (opened t L) p.i 0) (lane-is g p.u)
            ∙ sym (opened-spot sh d ok g L some p);
        gaps = λ k none. o.other k (λ i j h n e. let p = pixel-at i j h n in none p.x p.y p.wide p.high (e ∙ p.is));
      }

-- ---- the copy, whose rows stand `stride` apart

copied-pixel : (f : List ℕ) (sh : Shape) (x y : ℕ) → is_frame sh ≡ true → needed sh ≤ length f → x < sh.width → y < sh.height
    → get_or (opened (row_of f sh y) 1) x 0 ≡ get_or f (place sh (at x y)) 0
copied-pixel f sh x y ok fits h l =
    let row = row_of f sh y in
    let inside : x < length row = omega (arith, row-length f sh y ok fits l) in
    opened-at row 1 x inside
    ∙ sym (reopened-whole row 1 x (omega arith))
    ∙ reopened-one row 1 x inside
    ∙ eroded-to-one row x inside
    ∙ row-pixel f sh y ok fits l x h

map_same : (a b : Pixel → ℕ) (cs : List Pixel) → ((c : Pixel) → Memᴰ c cs → a c ≡ b c) → map a cs ≡ map b cs
map_same a b [] e = refl
map_same a b (c ∷ cs) e = ap₂ (λ (n : ℕ) (l : List ℕ). n ∷ l) (e c (Memᴰ.head refl)) (map_same a b cs (λ q m. e q (Memᴰ.tail m)))

module _ (f : List ℕ) (sh : Shape) (d : Direction) (stride : ℕ) (frame : is_frame sh ≡ true) (fits : needed sh ≤ length f)
    (ok : Accepted (shape sh.width sh.height stride) d) {g g₁ : List ℕ}
    (rows : Painted (shape sh.width sh.height stride) (λ (x y : ℕ). get_or (opened (row_of f sh y) 1) x 0) g g₁) where
  copied : Painted (shape sh.width sh.height stride) (λ (x y : ℕ). get_or f (place sh (at x y)) 0) g g₁
  copied = painted_as (λ (x y : ℕ). get_or f (place sh (at x y)) 0) rows (λ x y h l. copied-pixel f sh x y frame fits h l)

  copied-opened : (L x y : ℕ) → opened_pixel g₁ (shape sh.width sh.height stride) d L x y ≡ opened_pixel f sh d L x y
  unfolding opening.opened_pixel
  copied-opened L x y =
      let line = pixels sh d (line_of d x y) in
      ap (λ (l : List ℕ). get_or (opened l L) (index_in (at x y) line) 0)
      (map_same (λ (c : Pixel). get_or g₁ (place (shape sh.width sh.height stride) c) 0) (λ (c : Pixel). get_or f (place sh c) 0) line
      (λ c m. let on = its_line sh d (line_of d x y) c.x c.y m in copied.pixels c.x c.y on.0 on.1))

  pub opened_copy : {g₂ : List ℕ} {way : Bool} (L : ℕ) → 1 ≤ L → way ≡ true → needed (shape sh.width sh.height stride) ≤ length g
      → OpensIf (can_open (shape sh.width sh.height stride) d L (length g₁) && way) (sweep_of (shape sh.width sh.height stride) d) L g₁ g₂
      → Painted (shape sh.width sh.height stride) (opened_pixel f sh d L) g g₂
  opened_copy L some goes room o =
      let opened = o.done (opens-all ok goes L (length g₁) some (omega (arith, rows.same))) in
      painted_as (opened_pixel f sh d L) (painted_again copied (opened_in_place_lem (shape sh.width sh.height stride) d L ok some opened)) (λ x y h l. copied-opened L x y)
