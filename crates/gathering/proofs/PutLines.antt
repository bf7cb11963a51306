-- Values put back to a line of a frame, pixel by pixel.
--   LineSet                    the pixels of a line are set, and nothing else
--   put-line                   what values put to the line's places set
--   claim_raises, claim_names  what a claim leaves that is made
-- Assumes nothing.
use mathlib.Core.Path.{◌≡◌, sym, ap, ap₂, ◌∙◌, subst}
use mathlib.Core.Bool.{true}
use mathlib.Core.List.Memᴰ
use mathlib.Core.List.{List, map, Memᴰ}
use Prim.Native.Nat.{ℕ, ◌≤◌, ◌<◌, max}
use native.Mathlib.Omega.{arith}
use lib.ListN.{length, get_or, length-map}
use lib.IntN.{ℤ}
use Rattle.frame.specs.declared.direction.Direction.{Direction}
use Rattle.frame.specs.declared.shape.Shape.{Shape}
use Rattle.frame.specs.Shape.{needed}
use Rattle.frame.specs.Lines.{line_of, at, pixels, place, index_in}
use Rattle.frame.specs.Painted.{Gap}
use Rattle.frame.specs.Sweep.{Accepted}
use Rattle.frame.proofs.Pixels.{its_line, on_its_line}
use Rattle.frame.proofs.Partition.{place-once, line-once}
use Rattle.frame.proofs.Spots.{index_in_lem}
use Rattle.frame.proofs.ByLines.{map_at}
use Rattle.frame.proofs.Alongs.{row_ends}
use Rattle.gathering.specs.Scattering.{put}
use Rattle.gathering.specs.Claiming.{claims, claim_fits, ClaimsLine}
use Rattle.gathering.proofs.Puts.{put-length, put-off, put-at}
use Rattle.gathering.proofs.Claimings.{claim_fits_lem}

-- g' is g with F x y at each pixel (x, y) of line k
pub record LineSet (sh : Shape) (d : Direction) (k : ℤ) (F : ℕ → ℕ → ℕ) (g g' : List ℕ) : Type 0 where
  pub same : length g' ≡ length g
  pub on : (x y : ℕ) → x < sh.width → y < sh.height → line_of d x y ≡ k → get_or g' (place sh (at x y)) 0 ≡ F x y
  pub off : (x y : ℕ) → x < sh.width → y < sh.height → (line_of d x y ≡ k → ⊥) → get_or g' (place sh (at x y)) 0 ≡ get_or g (place sh (at x y)) 0
  pub gaps : (i : ℕ) → Gap sh i → get_or g' i 0 ≡ get_or g i 0

-- where a pixel of the line stands among its places
stands : (sh : Shape) (d : Direction) (k : ℤ) (x y : ℕ) → x < sh.width → y < sh.height → line_of d x y ≡ k
    → (index_in (at x y) (pixels sh d k) < length (pixels sh d k)) × (get_or (map (place sh) (pixels sh d k)) (index_in (at x y) (pixels sh d k)) 0 ≡ place sh (at x y))
stands sh d k x y h l e =
    let member = subst (λ (z : ℤ). Memᴰ (at x y) (pixels sh d z)) e (on_its_line sh d x y h l) in
    let here = index_in_lem (at x y) (pixels sh d k) member in
    (here.0, map_at (place sh) (pixels sh d k) (index_in (at x y) (pixels sh d k)) here.0 ∙ ap (place sh) here.1)

module _ (sh : Shape) (d : Direction) (ok : Accepted sh d) (k : ℤ) where
  -- a pixel of another line, and a byte that is no pixel's, are none of its places
  other : (x y : ℕ) → x < sh.width → (line_of d x y ≡ k → ⊥) → Memᴰ (place sh (at x y)) (map (place sh) (pixels sh d k)) → ⊥
  other x y h off m =
      let c = Memᴰ.of_map (place sh) (pixels sh d k) m in
      let own = its_line sh d k c.0.x c.0.y c.1 in
      let same = place-once sh ok.frame c.0.x c.0.y x y own.0 h c.2 in
      off (ap₂ (line_of d) (sym same.0) (sym same.1) ∙ own.2)

  none : (i : ℕ) → Gap sh i → Memᴰ i (map (place sh) (pixels sh d k)) → ⊥
  none i gap m =
      let c = Memᴰ.of_map (place sh) (pixels sh d k) m in
      let own = its_line sh d k c.0.x c.0.y c.1 in
      gap c.0.x c.0.y own.0 own.1 (sym c.2)

  inside : (n x y : ℕ) → needed sh ≤ n → x < sh.width → y < sh.height → place sh (at x y) < n
  inside n x y fits h l = omega (arith, row_ends sh y l)

  -- what changes at the line's places alone
  line_set : (F : ℕ → ℕ → ℕ) (g g' : List ℕ) → length g' ≡ length g → ((i : ℕ) → (Memᴰ i (map (place sh) (pixels sh d k)) → ⊥) → get_or g' i 0 ≡ get_or g i 0)
      → ((x y : ℕ) → x < sh.width → y < sh.height → line_of d x y ≡ k → get_or g' (place sh (at x y)) 0 ≡ F x y) → LineSet sh d k F g g'
  line_set F g g' same away on =
      record {
        same = same;
        on = on;
        off = λ x y h l apart. away (place sh (at x y)) (other x y h apart);
        gaps = λ i gap. away i (none i gap);
      }

  module _ (vs g : List ℕ) (fits : needed sh ≤ length g) (enough : length (pixels sh d k) ≤ length vs) where
    pub put-line : (op : ℕ → ℕ → ℕ → ℕ)
        → LineSet sh d k (λ (x y : ℕ). op (place sh (at x y)) (get_or g (place sh (at x y)) 0) (get_or vs (index_in (at x y) (pixels sh d k)) 0)) g (put op (map (place sh) (pixels sh d k)) vs g)
    put-line op =
        let ps = map (place sh) (pixels sh d k) in
        line_set _ g (put op ps vs g) (put-length op ps vs g) (put-off op ps vs g)
        (λ x y h l e.
        let at-line = stands sh d k x y h l e in
        let j = index_in (at x y) (pixels sh d k) in
        subst (λ (i : ℕ). get_or (put op ps vs g) i 0 ≡ op i (get_or g i 0) (get_or vs j 0)) at-line.1
        (put-at op ps vs g (line-once sh d ok k) j (omega (arith, at-line.0, length-map (pixels sh d k) (place sh))) (omega (arith, at-line.0))
        (rw at-line.1 (inside (length g) x y fits h l))))

-- ---- a claim that is made

module _ (sh : Shape) (d : Direction) (ok : Accepted sh d) (k : ℤ) (n : ℕ) (vs best best' g g' : List ℕ) (room : needed sh ≤ length best) (fits : needed sh ≤ length g) (enough : length (pixels sh d k) ≤ length vs)
    (p : ClaimsLine vs n sh d k best best' g g') where
  fitted : claim_fits sh d k (length vs) (length best) (length g) ≡ true
  fitted = claim_fits_lem vs n sh d k best g ok enough room fits

  pub claim_raises : LineSet sh d k (λ (x y : ℕ). max (get_or best (place sh (at x y)) 0) (get_or vs (index_in (at x y) (pixels sh d k)) 0)) best best'
  claim_raises = subst (LineSet sh d k _ best) (sym (rw fitted at p.raises)) (put-line sh d ok k vs best room enough (λ (p old new : ℕ). max old new))

  pub claim_names : LineSet sh d k (λ (x y : ℕ). claims (get_or best (place sh (at x y)) 0) n (get_or vs (index_in (at x y) (pixels sh d k)) 0) (get_or g (place sh (at x y)) 0)) g g'
  claim_names = subst (LineSet sh d k _ g) (sym (rw fitted at p.names)) (put-line sh d ok k vs g fits enough (λ (p old new : ℕ). claims (get_or best p 0) n new old))
