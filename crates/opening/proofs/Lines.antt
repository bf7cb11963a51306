-- A frame treated line by line: the first lines, one more, and all of them.
--   lines-counted                 how many lines `lines_of` counts
--   line-there, line-back         there is a line of each index; its number, as it comes back from the machine
--   LinesSet                      the pixels of the first lines are set, each from what stood there: lines_more, lines-all
--   line-given, line-room, line-opened, line-value       a line gathered and opened, and the value that it has for one of its pixels
--   LinesClaimed                  the first lines have claimed pixels: lines_claimed, one more; all_claimed
-- Assumes nothing.
use mathlib.Core.Path.{◌≡◌, refl, sym, ap, ap₂, ◌∙◌, subst}
use mathlib.Core.Bool.{false}
use mathlib.Core.List.{List, ◌++◌, Memᴰ}
use mathlib.Core.Logic.{⊎_elim}
use Prim.Native.Nat.{ℕ, ◌+◌, ◌≤◌, ◌<◌, max}
use native.Mathlib.Nat.{eq-or-lt_of_le}
use native.Mathlib.Omega.{arith}
use lib.ListN.{length, get_or, take, drop, length-append, length-map, get_or-append}
use lib.Seq.{take-append_seam}
use borrow.Author.Tests.{le-ltb}
use lib.IntN.{ℤ, pos, ◌+ℤ◌}
use mir.Syntax.{w64}
use mir.Val.{to_z, of_z}
use Rattle.lists.specs.Stores.{front}
use Rattle.lists.proofs.Stores.{front_length}
use Rattle.std.specs.Prelude.{Result, Ok}
use Rattle.answer.specs.declared.Answer.{Answer}
use Rattle.answer.specs.declared.Refusal.{Refusal}
use Rattle.answer.specs.Limits.{longest}
use Rattle.answer.specs.Refusals.{counted}
use Rattle.answer.specs.Rules.{done}
use Rattle.answer.proofs.Refusals.{counted_once}
use Rattle.answer.proofs.Rules.{after-done}
use Rattle.line.specs.Windows.{opened}
use Rattle.line.specs.Opening.{opened_in_place}
use Rattle.line.proofs.Windows.{opened-length}
use Rattle.frame.specs.declared.direction.Direction.{Direction}
use Rattle.frame.specs.declared.lines.Lines.{Lines}
use Rattle.frame.specs.declared.shape.Shape.{Shape}
use Rattle.frame.specs.Shape.{needed}
use Rattle.frame.specs.Lines.{Pixel, at, line_of, line_read, pixels, no_line, place, index_in, first_line, line_count, lines_of}
use Rattle.frame.specs.Painted.{Gap, Painted}
use Rattle.frame.specs.Sweep.{sweep_of, low, Accepted}
use Rattle.frame.proofs.Numbers.{sub_inj}
use Rattle.frame.proofs.Shapes.{framed}
use Rattle.frame.proofs.Pixels.{on_its_line, empty_not, number, pixels-most, line_among, among_line}
use Rattle.frame.proofs.Firsts.{lines-accepted, number_is, number-back}
use Rattle.frame.proofs.Spots.{index_in_lem}
use Rattle.gathering.specs.Gathering.{Gathers}
use Rattle.gathering.specs.Claiming.{claims, ClaimsLine}
use Rattle.gathering.proofs.Calls.{gather_done}
use Rattle.gathering.proofs.PutLines.{LineSet, claim_raises, claim_names}
use Rattle.opening.specs.Pixels as opening
use Rattle.opening.specs.Pixels.{opened_pixel}
use Rattle.opening.specs.Steps.{LineOpened, FrameClaimed}

-- ---- lines by their index

abbrev line_no : Shape → Direction → ℕ → ℤ
line_no sh d u = first_line sh d +ℤ pos u

no_once : (sh : Shape) (d : Direction) (u v : ℕ) → line_no sh d u ≡ line_no sh d v → u ≡ v
no_once sh d u v e = sub_inj u v (low (sweep_of sh d)) (sym (number sh d u) ∙ e ∙ number sh d v)

pub line-there : (sh : Shape) (d : Direction) → Accepted sh d → (u : ℕ) → u < line_count sh d → no_line sh d (line_no sh d u) ≡ false
line-there sh d ok u h = among_line sh d ok (line_no sh d u) (record { u = u; below = h; is = refl })

pub lines-counted : {sh : Shape} {d : Direction} {l : Lines} → Accepted sh d → l ≡ lines_of sh d → l.count ≡ line_count sh d
lines-counted {sh} {d} ok e = ap (λ (l : Lines). l.count) (e ∙ lines-accepted sh d ok)

-- the number of line u went through its bits unchanged
pub line-back : (sh : Shape) (d : Direction) → Accepted sh d → (u : ℕ) → u < line_count sh d → {k : ℤ} → k ≡ line_no sh d u → to_z w64 (of_z w64 k) ≡ line_no sh d u
line-back sh d ok u h e = ap (λ (z : ℤ). to_z w64 (of_z w64 z)) (e ∙ sym (number_is sh d ok u h)) ∙ number-back sh d ok u h

-- g' is g with C x y old at each pixel (x, y) of the first n lines, where old stood there
pub record LinesSet (sh : Shape) (d : Direction) (n : ℕ) (C : ℕ → ℕ → ℕ → ℕ) (g g' : List ℕ) : Type 0 where
  pub same : length g' ≡ length g
  pub on : (x y v : ℕ) → x < sh.width → y < sh.height → line_of d x y ≡ line_no sh d v → v < n → get_or g' (place sh (at x y)) 0 ≡ C x y (get_or g (place sh (at x y)) 0)
  pub off : (x y v : ℕ) → x < sh.width → y < sh.height → line_of d x y ≡ line_no sh d v → n ≤ v → get_or g' (place sh (at x y)) 0 ≡ get_or g (place sh (at x y)) 0
  pub gaps : (i : ℕ) → Gap sh i → get_or g' i 0 ≡ get_or g i 0

module _ {sh : Shape} {d : Direction} {C : ℕ → ℕ → ℕ → ℕ} where
  pub lines_more : {n : ℕ} {g a b : List ℕ} {F : ℕ → ℕ → ℕ} → LinesSet sh d n C g a → LineSet sh d (line_no sh d n) F a b
      → ((x y : ℕ) → x < sh.width → y < sh.height → line_of d x y ≡ line_no sh d n → F x y ≡ C x y (get_or a (place sh (at x y)) 0)) → LinesSet sh d (n + 1) C g b
  lines_more {n} {g} {a} {b} {F} p q is =
      record {
        same = q.same ∙ p.same;
        on = λ x y v h l e below.
            ⊎_elim
            (λ last.
            let here : line_of d x y ≡ line_no sh d n = e ∙ ap (line_no sh d) last in
            q.on x y h l here ∙ is x y h l here ∙ ap (C x y) (p.off x y n h l here (omega arith)))
            (λ before.
            q.off x y h l (λ z. omega (arith, no_once sh d v n (sym e ∙ z))) ∙ p.on x y v h l e before)
            (eq-or-lt_of_le {n = v} {m = n} (omega arith));
        off = λ x y v h l e past. q.off x y h l (λ z. omega (arith, no_once sh d v n (sym e ∙ z))) ∙ p.off x y v h l e (omega arith);
        gaps = λ i gap. q.gaps i gap ∙ p.gaps i gap;
      }

  pub lines-all : {n : ℕ} {g g' : List ℕ} → Accepted sh d → LinesSet sh d n C g g' → n ≡ line_count sh d → Painted sh (λ (x y : ℕ). C x y (get_or g (place sh (at x y)) 0)) g g'
  lines-all ok p all =
      record {
        same = p.same;
        pixels = λ x y h l.
            let a = line_among sh d ok (line_of d x y) (empty_not (pixels sh d (line_of d x y)) (at x y) (on_its_line sh d x y h l)) in
            p.on x y a.u h l (sym a.is) (omega (arith, a.below));
        gaps = p.gaps;
      }

-- ---- a line opened and put back

-- gathered to the front of v, and opened there
module _ {f : List ℕ} {sh : Shape} {d : Direction} {k : ℤ} {v v₁ : List ℕ} (r : Result ℕ Refusal) (ok : Accepted sh d) (there : no_line sh d k ≡ false) (source : needed sh ≤ length f)
    (room : longest ≤ length v) (g : Gathers f sh d k v v₁ (counted r)) where
  line-long : length (line_read f sh d k) ≡ length (pixels sh d k)
  line-long = length-map (pixels sh d k) (λ (c : Pixel). get_or f (place sh c) 0)

  line-most : length (pixels sh d k) ≤ longest
  line-most = omega (arith, pixels-most sh d ok k, framed sh ok.frame)

  says : counted r ≡ done (length (pixels sh d k))
  says = g.answers ∙ gather_done sh d k (length f) (length v) ok there source (omega (arith, line-most))

  pub line-given : r ≡ Ok (length (pixels sh d k))
  line-given = counted_once r (Ok (length (pixels sh d k))) says

  stands : v₁ ≡ front (line_read f sh d k) v
  stands = g.written ∙ after-done (counted r) (front (line_read f sh d k) v) v (ap (λ (a : Answer). a.number) says)

  count : {n : ℕ} → r ≡ Ok n → n ≡ length (line_read f sh d k)
  count e = ap (λ (r : Result ℕ Refusal). (counted r).figure) (sym e) ∙ ap (λ (a : Answer). a.figure) says ∙ sym line-long

  pub line-room : {n : ℕ} → r ≡ Ok n → n ≤ length v₁
  line-room e = omega (arith, count e, line-long, line-most, ap length stands ∙ front_length v (line_read f sh d k) (omega (arith, line-long, line-most)))

  pub line-opened : {n L : ℕ} {e : List ℕ} → r ≡ Ok n → 1 ≤ L → e ≡ opened_in_place (take n v₁) L → LineOpened f sh d L k (e ++ drop n v₁)
  line-opened {n} {L} {e} given some is =
      let line = line_read f sh d k in
      let lent : take n v₁ ≡ line = ap₂ take (count given) stands ∙ take-append_seam line (drop (length line) v) in
      let opens : e ≡ opened line L = is ∙ rw (le-ltb L 1 some) (ap (λ (l : List ℕ). opened l L) lent) in
      let long : length e ≡ length (pixels sh d k) = ap length opens ∙ opened-length line L ∙ line-long in
      record {
        room = omega (arith, long, length-append e (drop n v₁));
        is = λ j h. get_or-append e (drop n v₁) 0 j (omega (arith, long)) ∙ ap (λ (l : List ℕ). get_or l j 0) opens;
      }

module _ {f : List ℕ} {sh : Shape} {d : Direction} {L : ℕ} {k : ℤ} {v : List ℕ} (o : LineOpened f sh d L k v) where
  pub line-value : (x y : ℕ) → x < sh.width → y < sh.height → line_of d x y ≡ k → get_or v (index_in (at x y) (pixels sh d k)) 0 ≡ opened_pixel f sh d L x y
  unfolding opening.opened_pixel
  line-value x y h l e =
      let member = subst (λ (z : ℤ). Memᴰ (at x y) (pixels sh d z)) e (on_its_line sh d x y h l) in
      o.is (index_in (at x y) (pixels sh d k)) (index_in_lem (at x y) (pixels sh d k) member).0
      ∙ sym (ap (λ (z : ℤ). get_or (opened (line_read f sh d z) L) (index_in (at x y) (pixels sh d z)) 0) e)

-- the first n lines have claimed pixels for a number, from the best so far
pub record LinesClaimed (f : List ℕ) (sh : Shape) (d : Direction) (L number n : ℕ) (g g' h h' : List ℕ) : Type 0 where
  pub raised : LinesSet sh d n (λ (x y old : ℕ). max old (opened_pixel f sh d L x y)) g g'
  pub holders : LinesSet sh d n (λ (x y old : ℕ). claims (get_or g (place sh (at x y)) 0) number (opened_pixel f sh d L x y) old) h h'

module _ {f : List ℕ} {sh : Shape} {d : Direction} {L number n : ℕ} {g a h b : List ℕ} (ok : Accepted sh d) (p : LinesClaimed f sh d L number n g a h b) where
  pub lines_claimed : {v a' b' : List ℕ} → n < line_count sh d → needed sh ≤ length a → needed sh ≤ length b → LineOpened f sh d L (line_no sh d n) v
      → ClaimsLine v number sh d (line_no sh d n) a a' b b' → LinesClaimed f sh d L number (n + 1) g a' h b'
  lines_claimed {v} {a'} {b'} here room fits o c =
      record {
        raised =
            lines_more p.raised (claim_raises sh d ok (line_no sh d n) number v a a' b b' room fits o.room c)
            (λ x y h l e. ap (max (get_or a (place sh (at x y)) 0)) (line-value o x y h l e));
        holders =
            lines_more p.holders (claim_names sh d ok (line_no sh d n) number v a a' b b' room fits o.room c)
            (λ x y h l e.
            ap₂ (λ (m w : ℕ). claims m number w (get_or b (place sh (at x y)) 0)) (p.raised.off x y n h l e (omega arith)) (line-value o x y h l e));
      }

  pub all_claimed : n ≡ line_count sh d → FrameClaimed sh (opened_pixel f sh d L) number g a h b
  all_claimed all = record { raised = lines-all ok p.raised all; holders = lines-all ok p.holders all }
