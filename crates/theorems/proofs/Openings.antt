-- Demand 2: what a done call leaves, value by value, from its contract alone. The facts it must meet stand in specs/Equation.
--   erosion_is, dilation_is, opening_is          the values at the front of a line call's destination
--   erosion_rest, dilation_rest, opening_rest    what follows them is unchanged
--   no_brighter                                  no pixel of an opened line is brighter than the pixel it came from
--   frame_is                                     each pixel of an opened frame, on its own line; frame-lines: so each line is opened
--   opened-on                                    the same of the definition `opened_pixel`, which the next four speak of
--   highest_is, direction-is                     each pixel of the two frames that `highest` leaves: the highest over sixteen directions, and its direction
--   direction-reaches, direction-lowest          the two frames together: the opening in the direction stored is the brightness stored, and a lower number's is below it
--   frame_no_brighter, highest_no_brighter       no pixel of an opened frame, nor of the highest opening, is brighter than the pixel it came from
--   frame-gaps, highest_gaps, direction-gaps     bytes that are no pixel's never change
--   row_is, row-none                             the lent row, bytes of the caller's slice; the empty part where there is no such row
--   row_its_own                                  it is no other row, were it the same pixel by pixel
-- Assumes nothing.
use mathlib.Core.Path.{◌≡◌, refl, sym, ap, subst, ◌∙◌}
use mathlib.Core.Bool.{true, false}
use mathlib.Core.List.{List, [], ◌∷◌, map}
use Prim.Native.Nat.{ℕ, zero, suc, ◌+◌, ◌*◌, ◌≤◌, ◌<◌}
use native.Mathlib.Omega.{arith}
use lib.IntN.{ℤ}
use lib.ListN.{length, get_or, length-map}
use lib.Seq.{ext_get_or}
use denote.Ref.{Bor}
use Rattle.lists.specs.Stores.{front}
use Rattle.lists.proofs.Stores.{front_at, front-past}
use Rattle.answer.specs.declared.Answer.{Answer}
use Rattle.answer.proofs.Rules.{after-done}
use Rattle.line.specs.Windows.{eroded_count, eroded, dilated_count, dilated, opened}
use Rattle.line.specs.Erosion.{ErodesLine}
use Rattle.line.specs.Dilation.{DilatesLine}
use Rattle.line.specs.Opening.{OpensLine}
use Rattle.line.proofs.Windows.{eroded-length, eroded-at, dilated-length, dilated-at, opened-length, opened-at}
use Rattle.line.proofs.Calls.{erosion_fits, dilation_fits, opening_fits}
use Rattle.line.proofs.Laws.{opened-below}
use Rattle.frame.specs.declared.direction.Direction.{Direction}
use Rattle.frame.specs.declared.shape.Shape.{Shape}
use Rattle.frame.specs.Direction.{numbered_of}
use Rattle.frame.specs.Shape.{is_frame, needed}
use Rattle.frame.specs.Length.{pixels_for}
use Rattle.frame.specs.Lines.{Pixel, at, line_of, pixels, place, gathered, line_read, index_in}
use Rattle.frame.specs.Painted.{Gap}
use Rattle.frame.proofs.Shapes.{framed}
use Rattle.frame.proofs.Partition.{flat}
use Rattle.frame.proofs.Lengths.{pixels-some}
use Rattle.frame.proofs.Pixels.{its_line}
use Rattle.gathering.specs.Rows.{has_row, LendsRow}
use Rattle.gathering.proofs.LentRows.{row_from_lem, row-length, row-pixel}
use Rattle.opening.specs.Pixels.{opened_pixel, in_direction}
use Rattle.opening.specs.Frames.{OpensFrame}
use Rattle.opening.specs.Sixteen.{FindsHighest}
use Rattle.opening.proofs.Calls.{open_ready}
use Rattle.theorems.specs.Equation.{Darkest, Dilates, Opens, OpenedOn, PartOf, Highest, Leads}
use Rattle.theorems.proofs.Facts.{darkest-is, dilated-is, opened-is, opens-below, index_is, entry_in, entry_index, highest_of, leads_of}

-- ---- lines

module _ {src dst dst' : List ℕ} {L : ℕ} {a : Answer} where
  -- 'value i is the least of pixels i to i+L−1'
  pub erosion_is : ErodesLine src L dst dst' a → a.number ≡ 0 → (i : ℕ) → i + L ≤ length src → Darkest src i L (get_or dst' i 0)
  erosion_is p z i fit =
      let n : i < eroded_count (length src) L = omega arith in
      let e : dst' ≡ front (eroded src L) dst = p.written ∙ after-done a (front (eroded src L) dst) dst z in
      let v = ap (λ (l : List ℕ). get_or l i 0) e ∙ front_at (eroded src L) dst i 0 (omega (arith, eroded-length src L)) ∙ eroded-at src L i n in
      subst (Darkest src i L) (sym v) (darkest-is src i L (erosion_fits (length src) L (length dst) p.answers z).1 fit)

  pub erosion_rest : ErodesLine src L dst dst' a → a.number ≡ 0 → (k : ℕ) → eroded_count (length src) L ≤ k → get_or dst' k 0 ≡ get_or dst k 0
  erosion_rest p z k past =
      ap (λ (l : List ℕ). get_or l k 0) (p.written ∙ after-done a (front (eroded src L) dst) dst z)
      ∙ front-past (eroded src L) dst k 0 (omega (arith, eroded-length src L))

  -- 'Dilation of m values has m + L − 1; value x is the greatest of those values i that exist with x−L+1 ≤ i ≤ x.'
  pub dilation_is : DilatesLine src L dst dst' a → a.number ≡ 0 → (x : ℕ) → x + 1 < length src + L → Dilates src L x (get_or dst' x 0)
  dilation_is p z x fit =
      let n : x < dilated_count (length src) L = omega arith in
      let e : dst' ≡ front (dilated src L) dst = p.written ∙ after-done a (front (dilated src L) dst) dst z in
      let v = ap (λ (l : List ℕ). get_or l x 0) e ∙ front_at (dilated src L) dst x 0 (omega (arith, dilated-length src L)) ∙ dilated-at src L x n in
      let some = dilation_fits (length src) L (length dst) p.answers z in
      subst (Dilates src L x) (sym v) (dilated-is src L x some.0 some.1 fit)

  pub dilation_rest : DilatesLine src L dst dst' a → a.number ≡ 0 → (k : ℕ) → dilated_count (length src) L ≤ k → get_or dst' k 0 ≡ get_or dst k 0
  dilation_rest p z k past =
      ap (λ (l : List ℕ). get_or l k 0) (p.written ∙ after-done a (front (dilated src L) dst) dst z)
      ∙ front-past (dilated src L) dst k 0 (omega (arith, dilated-length src L))

module _ {src dst dst' scratch scratch' : List ℕ} {L : ℕ} {a : Answer} (p : OpensLine src L dst dst' scratch scratch' a) (z : a.number ≡ 0) where
  opened-value : (x : ℕ) → x < length src → get_or dst' x 0 ≡ get_or (opened src L) x 0
  opened-value x h =
      ap (λ (l : List ℕ). get_or l x 0) (p.written ∙ after-done a (front (opened src L) dst) dst z)
      ∙ front_at (opened src L) dst x 0 (omega (arith, opened-length src L))

  -- 'The opening equals equation (3)'
  pub opening_is : (x : ℕ) → x < length src → Opens src L x (get_or dst' x 0)
  opening_is x h =
      subst (Opens src L x) (sym (opened-value x h ∙ opened-at src L x h))
      (opened-is src L x (opening_fits (length src) L (length dst) (length scratch) p.answers z).0)

  -- 'no pixel of the result is brighter than the pixel it came from'
  pub no_brighter : (x : ℕ) → x < length src → get_or dst' x 0 ≤ get_or src x 0
  no_brighter x h = rw (opened-value x h) (opened-below src L x h)

  pub opening_rest : (k : ℕ) → length src ≤ k → get_or dst' k 0 ≡ get_or dst k 0
  opening_rest k past =
      ap (λ (l : List ℕ). get_or l k 0) (p.written ∙ after-done a (front (opened src L) dst) dst z)
      ∙ front-past (opened src L) dst k 0 (omega (arith, opened-length src L))

-- ---- frames

-- what `opened_pixel` computes is what equation (3) says; so are the sixteen values of highest_is and direction-is
pub opened-on : (f : List ℕ) (sh : Shape) (d : Direction) (k x y : ℕ) → 1 ≤ k → x < sh.width → y < sh.height → OpenedOn f sh d k x y (opened_pixel f sh d k x y)
unfolding opened_pixel
opened-on f sh d k x y some h l =
    let j : ℕ = index_in (at x y) (pixels sh d (line_of d x y)) in
    let stands = index_is sh d x y h l in
    let n = length-map (pixels sh d (line_of d x y)) (λ (c : Pixel). get_or f (place sh c) 0) in
    record {
      j = j;
      stands = stands;
      opens =
          subst (Opens (line_read f sh d (line_of d x y)) k j) (sym (opened-at (line_read f sh d (line_of d x y)) k j (omega (arith, n, stands.below))))
          (opened-is (line_read f sh d (line_of d x y)) k j some);
    }

map_at : (h : Pixel → ℕ) (cs : List Pixel) (j : ℕ) → j < length cs → get_or (map h cs) j 0 ≡ h (get_or cs j (at 0 0))
map_at h [] j l = absurd (omega arith)
map_at h (c ∷ cs) zero l = refl
map_at h (c ∷ cs) (suc j) l = map_at h cs j (omega arith)

on_below : (f : List ℕ) (sh : Shape) (d : Direction) (k x y v : ℕ) → OpenedOn f sh d k x y v → v ≤ get_or f (place sh (at x y)) 0
on_below f sh d k x y v o =
    let cs = pixels sh d (line_of d x y) in
    let h : Pixel → ℕ = λ (c : Pixel). get_or f (place sh c) 0 in
    let there : get_or (line_read f sh d (line_of d x y)) o.j 0 ≡ h (at x y) = map_at h cs o.j o.stands.below ∙ ap h o.stands.is in
    omega (arith, there, opens-below (line_read f sh d (line_of d x y)) k o.j v o.opens)

module _ {f : List ℕ} {sh : Shape} {d : Direction} {L : ℕ} {g g' t t' : List ℕ} {a : Answer} (p : OpensFrame f sh d L g g' t t' a) (z : a.number ≡ 0) where
  -- 'at each pixel, over all windows of L neighbouring pixels that hold it and lie wholly on its line'; 'Demand 2 reads k for L in frame calls'
  pub frame_is : (x y : ℕ) → x < sh.width → y < sh.height → OpenedOn f sh d (pixels_for d L) x y (get_or g' (place sh (at x y)) 0)
  frame_is x y h l = subst (OpenedOn f sh d (pixels_for d L) x y) (sym ((p.done z).pixels x y h l)) (opened-on f sh d (pixels_for d L) x y (pixels-some d L) h l)

  -- 'no pixel of the result is brighter than the pixel it came from'
  pub frame_no_brighter : (x y : ℕ) → x < sh.width → y < sh.height → get_or g' (place sh (at x y)) 0 ≤ get_or f (place sh (at x y)) 0
  frame_no_brighter x y h l = on_below f sh d (pixels_for d L) x y _ (frame_is x y h l)

  -- 'Bytes between rows and after the last pixel of a destination never change.'
  pub frame-gaps : (i : ℕ) → Gap sh i → get_or g' i 0 ≡ get_or g i 0
  frame-gaps = (p.done z).gaps

  -- 'A frame is opened line by line in one direction.'
  pub frame-lines : (k : ℤ) → gathered g' sh d k ≡ opened (line_read f sh d k) (pixels_for d L)
  unfolding opened_pixel
  frame-lines k =
      let cs = pixels sh d k in
      let n : length (gathered g' sh d k) ≡ length cs = length-map cs (λ (c : Pixel). get_or g' (place sh c) 0) in
      let m : length (opened (line_read f sh d k) (pixels_for d L)) ≡ length cs =
      opened-length (line_read f sh d k) (pixels_for d L) ∙ length-map cs (λ (c : Pixel). get_or f (place sh c) 0) in
      ext_get_or 0 (gathered g' sh d k) (opened (line_read f sh d k) (pixels_for d L)) (n ∙ sym m) (λ j h. value j (omega (arith, n)))
    where
      value : (j : ℕ) → j < length (pixels sh d k) → get_or (gathered g' sh d k) j 0 ≡ get_or (opened (line_read f sh d k) (pixels_for d L)) j 0
      value j h =
          let cs = pixels sh d k in
          let c : Pixel = get_or cs j (at 0 0) in
          let on = its_line sh d k c.x c.y (entry_in cs j h) in
          let ok = (open_ready sh L (length f) (length g) d (length t) p.answers z).ok in
          map_at (λ (c : Pixel). get_or g' (place sh c) 0) cs j h
          ∙ (p.done z).pixels c.x c.y on.0 on.1
          ∙ ap (λ (k : ℤ). get_or (opened (line_read f sh d k) (pixels_for d L)) (index_in c (pixels sh d k)) 0) on.2
          ∙ ap (λ (i : ℕ). get_or (opened (line_read f sh d k) (pixels_for d L)) i 0) (entry_index sh d ok k j h)

-- g' is the frame of the brightness, h' that of the directions' numbers
module _ {f : List ℕ} {sh : Shape} {L : ℕ} {g g' h h' t t' : List ℕ} {a : Answer} (p : FindsHighest f sh L g g' h h' t t' a) (z : a.number ≡ 0) where
  -- 'The highest opening takes, at each pixel, the greatest over the sixteen'
  pub highest_is : (x y : ℕ) → x < sh.width → y < sh.height
      → Highest (λ (n : ℕ). opened_pixel f sh (numbered_of n) (pixels_for (numbered_of n) L) x y) (get_or g' (place sh (at x y)) 0)
  highest_is x y wide high = subst (Highest (in_direction f sh L x y)) (sym ((p.brightness z).pixels x y wide high)) (highest_of (in_direction f sh L x y))

  -- 'the direction frame holds the lowest number that reaches it'
  pub direction-is : (x y : ℕ) → x < sh.width → y < sh.height
      → Leads (λ (n : ℕ). opened_pixel f sh (numbered_of n) (pixels_for (numbered_of n) L) x y) (get_or h' (place sh (at x y)) 0)
  direction-is x y wide high = subst (Leads (in_direction f sh L x y)) (sym ((p.directions z).pixels x y wide high)) (leads_of (in_direction f sh L x y))

  -- 'one call with two destinations': each pixel's brightness is that of the direction whose number is stored beside it
  pub direction-reaches : (x y : ℕ) → x < sh.width → y < sh.height → in_direction f sh L x y (get_or h' (place sh (at x y)) 0) ≡ get_or g' (place sh (at x y)) 0
  direction-reaches x y wide high =
      let top = highest_is x y wide high in
      let leader = direction-is x y wide high in
      let best = top.reached in
      omega (arith, best.2, leader.above best.0 best.1, top.above _ leader.numbered)

  -- 'the lowest number': in every direction with a lower one the pixel is darker
  pub direction-lowest : (x y : ℕ) → x < sh.width → y < sh.height → (n : ℕ) → n < get_or h' (place sh (at x y)) 0
      → in_direction f sh L x y n < get_or g' (place sh (at x y)) 0
  direction-lowest x y wide high n lower = omega (arith, direction-reaches x y wide high, (direction-is x y wide high).lowest n lower)

  pub highest_no_brighter : (x y : ℕ) → x < sh.width → y < sh.height → get_or g' (place sh (at x y)) 0 ≤ get_or f (place sh (at x y)) 0
  highest_no_brighter x y wide high =
      let top = (highest_is x y wide high).reached in
      let d = numbered_of top.0 in
      omega (arith, top.2, on_below f sh d (pixels_for d L) x y _ (opened-on f sh d (pixels_for d L) x y (pixels-some d L) wide high))

  pub highest_gaps : (i : ℕ) → Gap sh i → get_or g' i 0 ≡ get_or g i 0
  highest_gaps = (p.brightness z).gaps

  pub direction-gaps : (i : ℕ) → Gap sh i → get_or h' i 0 ≡ get_or h i 0
  direction-gaps = (p.directions z).gaps

-- ---- the lent row

-- 'A row of a frame is lent back without its gap, as the W bytes themselves in the caller's slice.'
pub row_is : {src part : Bor (List ℕ)} {sh : Shape} {y : ℕ} → LendsRow src sh y part → is_frame sh ≡ true → needed sh ≤ length src.now → y < sh.height
    → PartOf src (y * sh.stride) sh.width part
row_is {src} {part} {sh} {y} p ok fits here =
    record {
      memory = p.memory;
      begins = p.begins ∙ ap (λ (n : ℕ). src.ref_ptr.1 + n) (row_from_lem src.now sh y ok fits here);
      size = ap length p.contents ∙ row-length src.now sh y ok fits here;
      bytes = λ x h. ap (λ (l : List ℕ). get_or l x 0) p.contents ∙ row-pixel src.now sh y ok fits here x h;
    }

-- 'A row number of H or more, or a frame that rule 1 or 5 refuses, gives the empty part.'
pub row-none : {src part : Bor (List ℕ)} {sh : Shape} {y : ℕ} → LendsRow src sh y part → has_row sh y (length src.now) ≡ false → PartOf src 0 0 part
row-none p none =
    record { memory = p.memory; begins = rw none at p.begins; size = ap length (rw none at p.contents); bytes = λ x h. absurd (omega arith) }

-- one part is not lent as two rows of a frame
pub row_its_own : {src part : Bor (List ℕ)} {sh : Shape} {y z : ℕ} → LendsRow src sh y part → LendsRow src sh z part → is_frame sh ≡ true
    → needed sh ≤ length src.now → y < sh.height → z < sh.height → y ≡ z
row_its_own {src} {part} {sh} {y} {z} p q ok fits here there =
    let shaped = framed sh ok in
    let first = (row_is p ok fits here).begins in
    let second = (row_is q ok fits there).begins in
    (flat sh.stride 0 y 0 z (omega (arith, shaped)) (omega (arith, shaped)) (omega arith)).1
