-- A frame's lines, one after the other.
--   count-is-lines                                  how many lines an accepted frame has
--   flat                                            a direction without a slope, by the bits of its q
--   line-short, line-room, line-dim                 a line is no longer than a side, has room in scratch, and is no brighter than the frame
--   gathered-line                                   gathering a line that the frame has is not refused
--   Summing                                         where the adding of the lines stands; summing_start, -more, -modest, -end
--   lit-some                                        of the entries for lengths to two longer sides there is one at least
--   frame_cleared                                   those set, and the others cleared, are bins and rest: behind them there is no light
--   frame-total                                     bins and rest of a frame together are the total of its pixels
-- Assumes nothing.
use mathlib.Core.Path.{◌≡◌, sym, ap, ap₂, ◌∙◌}
use mathlib.Core.Bool.{true, false}
use mathlib.Core.List.{List, [], ◌∷◌, ◌++◌, map}
use Prim.Native.Nat.{ℕ, zero, suc, ◌+◌, ◌-◌, ◌*◌, ◌≤◌, ◌<◌, ◌^◌, zero-le, min, max}
use native.Mathlib.Omega.{arith}
use lib.IntN.{ℤ, pos, negsuc, nat_abs, ◌+ℤ◌}
use mir.Syntax.{w64}
use mir.Val.{of_z}
use lib.ListN.{length, get_or, take, drop, replicate, length-map, length-append, length-drop, take-append-drop}
use lib.Seq.{ext_get_or, take_at, length-take-le}
use Rattle.lists.specs.Tables.{each, table}
use Rattle.lists.specs.Extremes.{total}
use Rattle.lists.specs.Stores.{front}
use Rattle.lists.proofs.Tables.{table_same}
use Rattle.lists.proofs.Extremes.{total-table, total-zero}
use Rattle.lists.proofs.Parts.{tail_lent, tail_front, tail_put}
use Rattle.lists.proofs.Totals.{total_mono, table-most}
use Rattle.std.specs.Prelude.{Result, Ok}
use Rattle.answer.specs.declared.Refusal.{Refusal}
use Rattle.answer.specs.Refusals.{counted}
use Rattle.answer.proofs.Refusals.{counted_once}
use Rattle.answer.specs.Limits.{longest, steepest}
use Rattle.answer.specs.Rules.{done}
use Rattle.frame.specs.declared.direction.Direction.{Direction}
use Rattle.frame.specs.declared.lines.Lines.{Lines}
use Rattle.frame.specs.declared.shape.Shape.{Shape}
use Rattle.frame.specs.Lines.{Pixel, pixels, no_line, place, first_line, line_count, lines_of, frame_light}
use Rattle.frame.specs.Length.{pixels_for}
use Rattle.frame.specs.Shape.{is_frame, scratch_for}
use Rattle.frame.specs.Sweep.{Accepted}
use Rattle.frame.specs.Direction.{is_direction}
use Rattle.frame.proofs.Shapes.{framed, directed}
use Rattle.frame.proofs.Firsts.{lines-accepted, count_most}
use Rattle.frame.proofs.Lengths.{pixels-some, pixels-one, pixels_double, pixels-next}
use Rattle.frame.proofs.Pixels.{pixels-most, among_line}
use Rattle.frame.proofs.Light.{lines-light}
use Rattle.gathering.specs.Gathering.{Gathers}
use Rattle.gathering.proofs.Calls.{gather_done}
use Rattle.bridge.specs.Sums.{sum_for}
use Rattle.sizes.specs.Sums.{sums_of, line_sums, line_at, pixel_sum, frame_sum, frame_sums}
use Rattle.sizes.specs.Steps.{Modest, Adds, Whole}
use Rattle.sizes.proofs.Bins.{sums-length, sums-behind, sums-total, sums-lines, sum-falls, sum_one, sum-short}
use Rattle.sizes.proofs.Spreads.{counted-falls}
use Rattle.sizes.proofs.Lights.{entry-most}
use Rattle.sizes.proofs.Calls.{zero-entry}

module _ (sh : Shape) (d : Direction) (ok : Accepted sh d) where
  pub count-is-lines : {l : Lines} → l ≡ lines_of sh d → l.count ≡ line_count sh d
  count-is-lines e = ap (λ (l : Lines). l.count) (e ∙ lines-accepted sh d ok)

-- a direction whose q is 0 by its bits has no slope
pub flat : (d : Direction) → is_direction d ≡ true → of_z w64 d.q ≡ 0 → nat_abs d.q ≡ 0
flat d ok e = go d.q (directed d ok).right e
  where
    go : (z : ℤ) → nat_abs z ≤ steepest → of_z w64 z ≡ 0 → nat_abs z ≡ 0
    go (pos n) h z = z
    go (negsuc n) h z = absurd (omega arith)

-- ---- the pixels of a line

module _ (f : List ℕ) (sh : Shape) (d : Direction) where
  line-length : (k : ℤ) → length (map (λ (c : Pixel). get_or f (place sh c) 0) (pixels sh d k)) ≡ length (pixels sh d k)
  line-length k = length-map (pixels sh d k) (λ (c : Pixel). get_or f (place sh c) 0)

  module _ (ok : Accepted sh d) (u : ℕ) where
    pub line-short : length (line_at f sh d u) ≤ max sh.width sh.height
    line-short = omega (arith, line-length (first_line sh d +ℤ pos u), pixels-most sh d ok (first_line sh d +ℤ pos u))

    pub line-room : (length (line_at f sh d u) ≤ longest) × (4 * length (line_at f sh d u) ≤ scratch_for sh)
    line-room = (omega (arith, line-short, framed sh ok.frame), omega (arith, line-short))

  -- gathering a line that the frame has is not refused, and an array of 4,096 bytes has room for it
  pub gathered-line : Whole sh d (length f) → (u : ℕ) → u < line_count sh d → (px px' : List ℕ) → length px ≡ longest → (r : Result ℕ Refusal) (k : ℤ)
      → k ≡ first_line sh d +ℤ pos u → Gathers f sh d k px px' (counted r) → (r ≡ Ok (length (line_at f sh d u))) × (px' ≡ front (line_at f sh d u) px)
  gathered-line w u h px px' size r k e g = (counted_once r (Ok (length (line_at f sh d u))) (says ∙ ap done count), rw says at (rw e at g.written))
    where
      there : no_line sh d k ≡ false
      there = among_line sh d w.ok k (record { u = u; below = h; is = sym e })

      room : length (pixels sh d k) ≤ length px
      room = omega (arith, pixels-most sh d w.ok k, framed sh w.ok.frame)

      says : counted r ≡ done (length (pixels sh d k))
      says = g.answers ∙ gather_done sh d k (length f) (length px) w.ok there w.source room

      count : length (pixels sh d k) ≡ length (line_at f sh d u)
      count = sym (line-length k) ∙ ap (λ (k : ℤ). length (map (λ (c : Pixel). get_or f (place sh c) 0) (pixels sh d k))) e

  pub line-dim : ((i : ℕ) → get_or f i 0 ≤ 255) → (u i : ℕ) → get_or (line_at f sh d u) i 0 ≤ 255
  line-dim dim u i = go (pixels sh d (first_line sh d +ℤ pos u)) i
    where
      go : (cs : List Pixel) (i : ℕ) → get_or (map (λ (c : Pixel). get_or f (place sh c) 0) cs) i 0 ≤ 255
      go [] i = zero-le
      go (c ∷ cs) zero = dim (place sh c)
      go (c ∷ cs) (suc i) = go cs i

-- ---- adding one line after the other

-- the lines below u are added up in s, a slice of n entries, entry by entry
pub record Summing (f : List ℕ) (sh : Shape) (d : Direction) (n u : ℕ) (s : List ℕ) : Type 0 where
  pub summed : (j : ℕ) → get_or s j 0 ≡ total (table (λ (v : ℕ). get_or (line_sums (line_at f sh d v) (n - 1)) j 0) u)

module _ (f : List ℕ) (sh : Shape) (d : Direction) (n : ℕ) where
  abbrev entry : ℕ → ℕ → ℕ
  entry j v = get_or (line_sums (line_at f sh d v) (n - 1)) j 0

  pub summing_start : (s : List ℕ) → s ≡ replicate n 0 → Summing f sh d n 0 s
  unfolding each total
  summing_start s e = record { summed = λ j. ap (λ (l : List ℕ). get_or l j 0) e ∙ zero-entry n j }

  pub summing_more : (u : ℕ) (s s' : List ℕ) → length s ≡ n → Summing f sh d n u s → Adds (line_at f sh d u) s s' → Summing f sh d n (u + 1) s'
  summing_more u s s' same g a =
      let more : u + 1 ≡ suc u = omega arith in
      record { summed = λ j. rw more ((rw same at (a.added j)) ∙ omega (arith, g.summed j, total-table (entry j) u)) }

  module _ (ok : Accepted sh d) (dim : (i : ℕ) → get_or f i 0 ≤ 255) where
    pub summing_modest : (u : ℕ) (s : List ℕ) → u ≤ line_count sh d → Summing f sh d n u s → Modest s
    summing_modest u s h g j =
        omega (
          arith,
          g.summed j,
          count_most sh d ok,
          table-most (entry j) u (2 ^ 20) (λ v l. entry-most (line_at f sh d v) (n - 1) j (line-room f sh d ok v).0 (line-dim f sh d dim v)),
        )

  pub summing_end : (s : List ℕ) → 1 ≤ n → length s ≡ n → Summing f sh d n (line_count sh d) s → s ≡ sums_of (pixel_sum f sh d) (n - 1)
  summing_end s some same g =
      ext_get_or 0 s (sums_of (pixel_sum f sh d) (n - 1)) (omega (arith, same, sums-length (pixel_sum f sh d) (n - 1)))
      (λ j l. g.summed j
      ∙ sym (sums-lines (λ (v k : ℕ). sum_for (line_at f sh d v) k) (line_count sh d) (λ v i. sum-falls (line_at f sh d v) i) (n - 1) j (omega (arith, same))))

-- ---- the entries that may have light

abbrev side : Shape → ℕ
side sh = max sh.width sh.height

pub lit-some : (sh : Shape) → is_frame sh ≡ true → (entries n : ℕ) → 1 ≤ entries → n ≡ min entries (2 * side sh) → (1 ≤ n) × (n ≤ entries)
lit-some sh frame entries n some e = (omega (arith, framed sh frame), omega arith)

module _ (f : List ℕ) (sh : Shape) (d : Direction) (ok : Accepted sh d) where
  frame-none : (L : ℕ) → 2 * side sh ≤ L → frame_sum f sh d L ≡ 0
  frame-none L h =
      let long : side sh < pixels_for d L = pixels_double d ok.direction (side sh) L (omega (arith, framed sh ok.frame)) h in
      ap total (table_same _ _ (line_count sh d) (λ u _. sum-short (line_at f sh d u) (pixels_for d L) (omega (arith, line-short f sh d ok u, long))))
      ∙ total-zero (line_count sh d)

  module _ (s : List ℕ) (n : ℕ) (some : 1 ≤ length s) (lit : n ≡ min (length s) (2 * side sh)) where
    fits : (1 ≤ n) × (n ≤ length s)
    fits = lit-some sh ok.frame (length s) n some lit

    frame-behind : frame_sums f sh d (n - 1) ++ replicate (length s - n) 0 ≡ frame_sums f sh d (length s - 1)
    frame-behind =
        let e : n - 1 + (length s - n) ≡ length s - 1 = omega (arith, fits) in
        rw e at (sym (sums-behind (frame_sum f sh d) (n - 1) (length s - n) (λ L lo hi. frame-none L (omega (arith, fits)))))

    -- p was set at the front of s, and z cleared behind it
    pub frame_cleared : (p z : List ℕ) → p ≡ frame_sums f sh d (length (take n s) - 1)
        → z ≡ replicate (length (take (length (p ++ drop n s) - n) (drop n (p ++ drop n s)))) 0
        → take n (p ++ drop n s) ++ (z ++ drop (length (p ++ drop n s) - n) (drop n (p ++ drop n s))) ≡ frame_sums f sh d (length s - 1)
    frame_cleared p z set cleared =
        sym (take-append-drop n (take n q ++ (z ++ drop (length q - n) (drop n q))))
        ∙ ap₂ ◌++◌ (tail_front n q z room ∙ take_at p (drop n s) n filled ∙ set ∙ ap (λ (m : ℕ). frame_sums f sh d (m - 1)) part)
        (tail_put n q z room ∙ cleared ∙ ap (λ (m : ℕ). replicate m 0) behind)
        ∙ frame-behind
      where
        q : List ℕ
        q = p ++ drop n s

        part : length (take n s) ≡ n
        part = length-take-le n s fits.1

        filled : length p ≡ n
        filled = rw set (omega (arith, sums-length (frame_sum f sh d) (length (take n s) - 1), part, fits))

        whole : length q ≡ length s
        whole = omega (arith, length-append p (drop n s), length-drop n s, filled, fits)

        room : n ≤ length q
        room = omega (arith, whole, fits)

        behind : length (take (length q - n) (drop n q)) ≡ length s - n
        behind = ap length (tail_lent n q) ∙ omega (arith, length-drop n q, whole)

-- ---- the light of a frame

module _ (f : List ℕ) (sh : Shape) (d : Direction) where
  pixel-falls : (i : ℕ) → pixel_sum f sh d (suc (suc i)) ≤ pixel_sum f sh d (suc i)
  pixel-falls i =
      let sum : ℕ → ℕ → ℕ = λ k u. sum_for (line_at f sh d u) k in
      total_mono (sum (suc i)) (sum (suc (suc i))) (line_count sh d) (λ u l. sum-falls (line_at f sh d u) i)

  pub frame-total : (K : ℕ) → Accepted sh d → total (frame_sums f sh d K) ≡ frame_light f sh
  frame-total K ok =
      sums-total (frame_sum f sh d) (λ i. counted-falls (pixel_sum f sh d) (pixels_for d) (pixels-some d) (pixels-next d) pixel-falls (suc i)) K
      ∙ ap (pixel_sum f sh d) (pixels-one d)
      ∙ ap total (table_same _ _ (line_count sh d) (λ u l. sum_one (line_at f sh d u)))
      ∙ lines-light f sh d ok
