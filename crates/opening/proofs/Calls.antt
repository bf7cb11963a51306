-- What the answer 0 of a call's rules says of the numbers that it was handed.
--   highest_rules_lem      the rules of `highest` are those of `open_frame` along, with the shorter of the two destinations
--   open_ready, highest_ready
--   open_figure            the figure that open_frame hands back is below 2^32
--   ready-numbered         the same for each numbered direction; pixels-ready, ready-pixels: with the pixels that the length stands for
-- Assumes nothing.
use mathlib.Core.Path.{◌≡◌, refl, ap, ◌∙◌}
use mathlib.Core.Bool.{Bool, true, false, not, cond}
use Prim.Native.Nat.{ℕ, ◌<◌, ◌^◌, min}
use native.Mathlib.Omega.{arith}
use borrow.Author.Tests.{not-false, ltb-true, ltb-false, lt-ltb, le-ltb}
use lib.Dec.{ltb}
use Rattle.answer.specs.declared.Answer.{Answer}
use Rattle.answer.specs.Limits.{longest}
use Rattle.answer.specs.Rules.{answer, outside}
use Rattle.answer.proofs.Rules.{kept, outside_not}
use Rattle.frame.specs.declared.direction.Direction.{Direction}
use Rattle.frame.specs.declared.shape.Shape.{Shape}
use Rattle.frame.specs.Direction.{is_direction, along, numbered_of}
use Rattle.frame.specs.Shape.{is_frame, needed, scratch_for}
use Rattle.frame.specs.Length.{pixels_for, pixels_or_none}
use Rattle.frame.proofs.Shapes.{framed, needed-small}
use Rattle.frame.proofs.Directions.{numbered-accepted}
use Rattle.frame.proofs.Lengths.{pixels-some, pixels-most, pixels_known}
use Rattle.opening.specs.Frames.{open_frame_rules}
use Rattle.opening.specs.Sixteen.{highest_rules}
use Rattle.opening.specs.Steps.{Ready}

pub highest_rules_lem : (sh : Shape) (L size bright numbers spare : ℕ)
    → answer (highest_rules sh L size bright numbers spare) 0 ≡ answer (open_frame_rules sh along L size (min bright numbers) spare) 0
highest_rules_lem sh L size bright numbers spare = go (ltb bright (needed sh)) refl (ltb numbers (needed sh)) refl
  where
    go : (s : Bool) → ltb bright (needed sh) ≡ s → (t : Bool) → ltb numbers (needed sh) ≡ t
        → answer (highest_rules sh L size bright numbers spare) 0 ≡ answer (open_frame_rules sh along L size (min bright numbers) spare) 0
    go true short t e = let h = ltb-true bright (needed sh) short in rw (short, lt-ltb (min bright numbers) (needed sh) (omega (arith, h)))
    go false fits true short = let h = ltb-true numbers (needed sh) short in rw (fits, short, lt-ltb (min bright numbers) (needed sh) (omega (arith, h)))
    go false fits false fit =
        let h = ltb-false bright (needed sh) fits in
        let l = ltb-false numbers (needed sh) fit in
        rw (fits, fit, le-ltb (min bright numbers) (needed sh) (omega (arith, h, l)))

module _ (sh : Shape) (L size room : ℕ) where
  pub open_ready : (d : Direction) (spare : ℕ) {a : Answer} → a ≡ answer (open_frame_rules sh d L size room spare) 0 → a.number ≡ 0 → Ready sh d L size room
  open_ready d spare says z =
      let rules = kept (open_frame_rules sh d L size room spare) 0 refl (rw says at z) in
      record {
        ok = record { frame = not-false (is_frame sh) rules.0; direction = not-false (is_direction d) rules.1.0 };
        some = (outside_not 1 longest L rules.1.1.0).0;
        most = (outside_not 1 longest L rules.1.1.0).1;
        source = ltb-false size (needed sh) rules.1.1.1.0;
        target = ltb-false room (needed sh) rules.1.1.1.1.0;
      }

  pub pixels-ready : (d : Direction) {k : ℕ} → k ≡ pixels_or_none d L → Ready sh d L size room → k ≡ pixels_for d L
  pixels-ready d count p = count ∙ pixels_known d L p.ok.direction p.some (omega (arith, p.most))

  pub ready-pixels : (d : Direction) {k : ℕ} → k ≡ pixels_or_none d L → Ready sh d L size room → Ready sh d k size room
  ready-pixels d count p =
      let is = pixels-ready d count p in
      let most = pixels-most d L p.some in
      record {
        ok = p.ok;
        some = omega (arith, pixels-some d L);
        most = omega (arith, p.most);
        source = p.source;
        target = p.target;
      }

  pub ready-numbered : {d : Direction} {room' : ℕ} (n : ℕ) → n < 16 → d ≡ numbered_of n → room' ≡ room → Ready sh along L size room → Ready sh d L size room'
  ready-numbered n h is e p =
      record {
        ok = record { frame = p.ok.frame; direction = ap is_direction is ∙ numbered-accepted n h };
        some = p.some;
        most = p.most;
        source = p.source;
        target = omega (arith, p.target);
      }

pub highest_ready : (sh : Shape) (L size bright numbers spare : ℕ) {a : Answer} → a ≡ answer (highest_rules sh L size bright numbers spare) 0 → a.number ≡ 0
    → Ready sh along L size (min bright numbers)
highest_ready sh L size bright numbers spare says z = open_ready sh L size (min bright numbers) along spare (says ∙ highest_rules_lem sh L size bright numbers spare) z

-- ---- what the host gets

small_cond : (m : ℕ) (t : Bool) (x y : Answer) → x.figure < m → y.figure < m → (cond t x y).figure < m
small_cond m true x y h l = h
small_cond m false x y h l = l

pub open_figure : (sh : Shape) (L size room spare : ℕ) (d : Direction) → (answer (open_frame_rules sh d L size room spare) 0).figure < 2 ^ 32
open_figure sh L size room spare d = go (is_frame sh) refl
  where
    go : (t : Bool) → is_frame sh ≡ t → (answer (open_frame_rules sh d L size room spare) 0).figure < 2 ^ 32
    go false e = rw e (omega arith)
    go true e =
        let f = framed sh e in
        let bytes = needed-small f in
        small_cond (2 ^ 32) (not (is_frame sh)) _ _ (omega arith)
        (small_cond (2 ^ 32) (not (is_direction d)) _ _ (omega arith)
        (small_cond (2 ^ 32) (outside 1 longest L) _ _ (omega arith)
        (small_cond (2 ^ 32) (ltb size (needed sh)) _ _ (omega (arith, f))
        (small_cond (2 ^ 32) (ltb room (needed sh)) _ _ (omega (arith, f))
        (small_cond (2 ^ 32) (ltb spare (scratch_for sh)) _ _ (omega (arith, f)) (omega arith))))))
