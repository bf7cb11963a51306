-- What an accepted frame, an accepted direction and their sweep keep to.
--   framed, directed            the ranges, from the tests
--   needed-small, needed-by     a frame's bytes fit, and are those that `bytes` hands back
--   accepted-some               an accepted direction moves; accepted_or_not: both rules accept, or one refuses
--   sweep_sane, sweep_apart, sweep_accepted    the sweep of an accepted frame and direction
--   sweep_reach                 its last pixel is within the bytes that the frame needs
--   sane_of                     what equals it keeps to the same
--   top_less, low_less          its lines move aside by less than a side
--   shift_is                    what `shift_at` hands back for such a sweep
--   gapless-accepted, gapless-needed    a frame without gaps: it is accepted, and needs a byte a pixel
-- Assumes nothing.
use mathlib.Core.Path.{◌≡◌, refl, sym, ap}
use mathlib.Core.Bool.{Bool, true, false, not, cond, ◌&&◌, false≢true}
use mathlib.Core.Logic.{◌⊎◌, inl, inr}
use Prim.Native.Nat.{ℕ, zero, suc, ◌+◌, ◌-◌, ◌*◌, ◌≤◌, ◌<◌}
use native.Mathlib.Omega.{arith}
use native.Mathlib.Nat.{mul-le-mul, mul_comm, add-mul}
use borrow.Author.Tests.{leb-true, leb-false, not-true, le-leb, le-ltb}
use lib.Dec.{leb, eqb}
use lib.IntN.{nat_abs}
use Rattle.lists.proofs.Cases.{both_left, both_right}
use Rattle.answer.specs.Limits.{longest, widest, steepest}
use Rattle.answer.specs.Rules.{outside}
use Rattle.answer.proofs.Rules.{outside_not}
use Rattle.frame.specs.declared.direction.Direction.{Direction}
use Rattle.frame.specs.declared.shape.Shape.{Shape}
use Rattle.frame.specs.declared.sweep.Sweep.{Sweep}
use Rattle.frame.specs.Direction.{is_direction, shallow}
use Rattle.frame.specs.Shape.{within, is_frame, needed, gapless}
use Rattle.frame.specs.Sweep.{sweep_of, sweep_for, shift, shift_at, low, Accepted, Sane, Apart, Reach}
use Rattle.frame.proofs.Rounding.{r_le}

pub record Framed (sh : Shape) : Type 0 where
  pub wide : 1 ≤ sh.width
  pub width : sh.width ≤ longest
  pub high : 1 ≤ sh.height
  pub height : sh.height ≤ longest
  pub past : sh.width ≤ sh.stride
  pub most : sh.stride ≤ widest

in_range_lem : (lo hi n : ℕ) → within lo hi n ≡ true → (lo ≤ n) × (n ≤ hi)
in_range_lem lo hi n e = outside_not lo hi n (not-true (outside lo hi n) e)

pub framed : (sh : Shape) → is_frame sh ≡ true → Framed sh
framed sh e =
    let W = within 1 longest sh.width in
    let H = within 1 longest sh.height in
    let S = within sh.width widest sh.stride in
    let w = in_range_lem 1 longest sh.width (both_left W H (both_left (W && H) S e)) in
    let h = in_range_lem 1 longest sh.height (both_right W H (both_left (W && H) S e)) in
    let s = in_range_lem sh.width widest sh.stride (both_right (W && H) S e) in
    record { wide = w.0; width = w.1; high = h.0; height = h.1; past = s.0; most = s.1 }

pub record Directed (d : Direction) : Type 0 where
  pub left : nat_abs d.p ≤ steepest
  pub right : nat_abs d.q ≤ steepest
  pub some : 1 ≤ nat_abs d.p + nat_abs d.q

pub directed : (d : Direction) → is_direction d ≡ true → Directed d
directed d e =
    let a = nat_abs d.p in
    let b = nat_abs d.q in
    let L = leb a steepest in
    let R = leb b steepest in
    let N = not (eqb a 0 && eqb b 0) in
    record {
      left = leb-true a steepest (both_left L R (both_left (L && R) N e));
      right = leb-true b steepest (both_right L R (both_left (L && R) N e));
      some = one a b (not-true (eqb a 0 && eqb b 0) (both_right (L && R) N e));
    }
  where
    one : (a b : ℕ) → (eqb a 0 && eqb b 0) ≡ false → 1 ≤ a + b
    one zero zero e = absurd (false≢true (sym e))
    one zero (suc b) e = omega arith
    one (suc a) b e = omega arith

pub needed-small : {sh : Shape} → Framed sh → (sh.height - 1) * sh.stride ≤ longest * widest
needed-small {sh} f = mul-le-mul {n₁ = sh.height - 1} {m₁ = sh.stride} {n₂ = longest} {m₂ = widest} (omega (arith, f)) f.most

pub needed-by : (sh : Shape) → is_frame sh ≡ true → cond (is_frame sh) (needed sh) 0 ≡ needed sh
needed-by sh e = rw e

-- ---- the sweep

module _ {sh : Shape} {d : Direction} (a : Accepted sh d) where
  pub accepted-some : 1 ≤ nat_abs d.p + nat_abs d.q
  accepted-some = (directed d a.direction).some

  pub sweep_sane : Sane (sweep_of sh d)
  unfolding sweep_of
  sweep_sane = go (framed sh a.frame) (directed d a.direction) (shallow d) refl
    where
      go : Framed sh → Directed d → (t : Bool) → shallow d ≡ t → Sane (sweep_of sh d)
      go f v true e =
          let slow = leb-true (nat_abs d.q) (nat_abs d.p) e in
          rw e
          (record {
            some = f.wide;
            majors = f.width;
            wide = f.high;
            minors = f.height;
            pace = omega arith;
            step = omega (arith, f);
            sidestep = f.most;
            slow = slow;
            moves = omega (arith, v);
            run = v.left;
            top = refl;
          })
      go f v false e =
          let slow = leb-false (nat_abs d.q) (nat_abs d.p) e in
          rw e
          (record {
            some = f.high;
            majors = f.height;
            wide = f.wide;
            minors = f.width;
            pace = f.most;
            step = omega arith;
            sidestep = omega arith;
            slow = omega arith;
            moves = omega (arith, v);
            run = v.right;
            top = refl;
          })

  pub sweep_apart : Apart (sweep_of sh d)
  unfolding sweep_of
  sweep_apart = go (framed sh a.frame) (shallow d) refl
    where
      go : Framed sh → (t : Bool) → shallow d ≡ t → Apart (sweep_of sh d)
      go f true e = rw e (inl (refl, f.past))
      go f false e = rw e (inr (refl, f.past))

  pub sweep_reach : (n : ℕ) → needed sh ≤ n → Reach (sweep_of sh d) n
  unfolding sweep_of
  sweep_reach n h = go (framed sh a.frame) (shallow d) refl
    where
      go : Framed sh → (t : Bool) → shallow d ≡ t → Reach (sweep_of sh d) n
      go f true e = rw e (omega (arith, f))
      go f false e = rw e (omega (arith, f))

  pub sweep_accepted : sweep_for sh d ≡ sweep_of sh d
  sweep_accepted = rw (a.frame, a.direction)

pub top_less : (s : Sweep) → Sane s → s.top < longest
top_less s h = omega (arith, r_le s.run s.rise (s.majors - 1) h.moves h.slow, h)

pub low_less : (s : Sweep) → Sane s → low s < longest
unfolding low
low_less s h = go s.falling (top_less s h)
  where
    go : (t : Bool) → s.top < longest → cond t 0 s.top < longest
    go true k = omega arith
    go false k = k

pub sane_of : {sh : Shape} {d : Direction} {s : Sweep} → Accepted sh d → s ≡ sweep_of sh d → Sane s
sane_of ok e = rw e (sweep_sane ok)

-- ---- what both rules accept, and what `shift_at` hands back

pub accepted_or_not : (sh : Shape) (d : Direction) → Accepted sh d ⊎ ((is_frame sh && is_direction d) ≡ false)
accepted_or_not sh d = go (is_frame sh && is_direction d) refl
  where
    go : (t : Bool) → (is_frame sh && is_direction d) ≡ t → Accepted sh d ⊎ ((is_frame sh && is_direction d) ≡ false)
    go true e = inl (record { frame = both_left (is_frame sh) (is_direction d) e; direction = both_right (is_frame sh) (is_direction d) e })
    go false e = inr e

pub shift_is : (s : Sweep) → Sane s → (i : ℕ) → i ≤ longest → shift_at s i ≡ shift s i
shift_is s h i k = rw (le-ltb s.run 1 h.moves, le-ltb steepest s.run h.run, le-leb s.rise s.run h.slow, le-leb i longest k)

-- ---- without gaps

gapless-framed : (sh : Shape) → is_frame sh ≡ true → is_frame (gapless sh) ≡ true
gapless-framed sh e =
    let f = framed sh e in
    rw (le-ltb sh.width 1 f.wide, le-ltb longest sh.width f.width, le-ltb sh.height 1 f.high, le-ltb longest sh.height f.height, le-ltb sh.width sh.width (omega arith), le-ltb widest sh.width (omega (arith, f)))

pub gapless-accepted : {sh : Shape} {d : Direction} → Accepted sh d → Accepted (gapless sh) d
gapless-accepted {sh} ok = record { frame = gapless-framed sh ok.frame; direction = ok.direction }

pub gapless-needed : (sh : Shape) → 1 ≤ sh.height → needed (gapless sh) ≡ sh.width * sh.height
gapless-needed sh some =
    let up : sh.height - 1 + 1 ≡ sh.height = omega arith in
    omega (arith, mul_comm sh.width sh.height, add-mul (sh.height - 1) 1 sh.width, ap (λ (n : ℕ). n * sh.width) up)
