-- One input allows one outcome, of the calls that the crates of the library make of each other: the engines and their passes, which have no rules (what
-- does not fit changes nothing), and the tests that rules are written with.
--   meet_once, meet_bent-once, meet_by-once, fade_once, blacken_once, blacken_bent-once, copy_once, claim_once    the passes over pixels
--   open_down-once, open_shallow-once                            a frame opened where it stands
--   claim_line-once                                              a line that claims pixels
--   test_once                                                    the test of a rule: `Refusal::when`, `unless_there`
-- Assumes nothing.
use mathlib.Core.Path.{◌≡◌, refl, sym, subst, ◌∙◌}
use mathlib.Core.Bool.{Bool, true, false, ◌&&◌}
use mathlib.Core.Logic.{◌⊎◌, inl, inr, ⊎_elim}
use mathlib.Core.List.{List}
use Prim.Native.Nat.{ℕ, ◌+◌, ◌≤◌, ◌<◌}
use native.Mathlib.Omega.{arith}
use lib.IntN.{ℤ}
use lib.ListN.{length, get_or}
use Rattle.std.specs.Prelude.{Result}
use Rattle.lists.specs.Stores.{Filled}
use Rattle.lists.proofs.Cases.{less_or_not, both_left}
use Rattle.lists.proofs.Stores.{filled-once}
use Rattle.answer.specs.declared.Refusal.{Refusal}
use Rattle.answer.specs.Refusals.{Checks}
use Rattle.answer.proofs.Refusals.{checks_once}
use Rattle.passes.specs.Passes.{Ahead, Fits, Parted, Meets, MeetsBent, MeetsBy, Fades, Clears, ClearsBent, Copies, Claims}
use Rattle.frame.specs.declared.direction.Direction.{Direction}
use Rattle.frame.specs.declared.shape.Shape.{Shape}
use Rattle.frame.specs.declared.sweep.Sweep.{Sweep}
use Rattle.frame.specs.Direction.{shallow, goes_down}
use Rattle.frame.specs.Shape.{is_frame}
use Rattle.frame.specs.Lines.{at, place}
use Rattle.frame.specs.Sweep as sweep
use Rattle.frame.specs.Sweep.{sweep_of}
use Rattle.frame.proofs.ByLines.{frames_same}
use Rattle.gathering.specs.Claiming.{ClaimsLine}
use Rattle.rows.specs.Rows.{byte_of, PixelsAre, can_open, OpensIf, OpensDown, OpensShallow}

-- ---- passes

-- done or left alone, as P and Q have it or not
once : {P Q : Type 0} {b b₁ b₂ : List ℕ} {lo hi : ℕ} {F : ℕ → ℕ} → P ⊎ (P → ⊥) → Q ⊎ (Q → ⊥) → (P → Q → Filled b b₁ lo hi F) → ((P → Q → ⊥) → b₁ ≡ b)
    → (P → Q → Filled b b₂ lo hi F) → ((P → Q → ⊥) → b₂ ≡ b) → b₁ ≡ b₂
once (inl p) (inl q) done₁ none₁ done₂ none₂ = filled-once (done₁ p q) (done₂ p q)
once (inr p) q done₁ none₁ done₂ none₂ = none₁ (λ h k. p h) ∙ sym (none₂ (λ h k. p h))
once (inl p) (inr q) done₁ none₁ done₂ none₂ = none₁ (λ h k. q k) ∙ sym (none₂ (λ h k. q k))

-- with one condition more
once_more : {P Q R : Type 0} {b b₁ b₂ : List ℕ} {lo hi : ℕ} {F : ℕ → ℕ} → P ⊎ (P → ⊥) → Q ⊎ (Q → ⊥) → R ⊎ (R → ⊥)
    → (P → Q → R → Filled b b₁ lo hi F) → ((P → Q → R → ⊥) → b₁ ≡ b) → (P → Q → R → Filled b b₂ lo hi F) → ((P → Q → R → ⊥) → b₂ ≡ b) → b₁ ≡ b₂
once_more (inl p) q r done₁ none₁ done₂ none₂ = once q r (done₁ p) (λ n. none₁ (λ h. n)) (done₂ p) (λ n. none₂ (λ h. n))
once_more (inr p) q r done₁ none₁ done₂ none₂ = none₁ (λ h k l. p h) ∙ sym (none₂ (λ h k l. p h))

lone : {P : Type 0} {b b₁ b₂ : List ℕ} {lo hi : ℕ} {F : ℕ → ℕ} → P ⊎ (P → ⊥) → (P → Filled b b₁ lo hi F) → ((P → ⊥) → b₁ ≡ b)
    → (P → Filled b b₂ lo hi F) → ((P → ⊥) → b₂ ≡ b) → b₁ ≡ b₂
lone (inl fits) done₁ none₁ done₂ none₂ = filled-once (done₁ fits) (done₂ fits)
lone (inr unfit) done₁ none₁ done₂ none₂ = none₁ unfit ∙ sym (none₂ unfit)

at_most : (a b : ℕ) → (a ≤ b) ⊎ (a ≤ b → ⊥)
at_most a b = ⊎_elim (λ out. inr (λ h. omega arith)) inl (less_or_not b a)

ahead_or_not : (at from n : ℕ) → Ahead at from n ⊎ (Ahead at from n → ⊥)
ahead_or_not at from n =
    ⊎_elim
    (λ before. ⊎_elim (λ near. inr (⊎_elim (λ h. omega arith) (λ h. omega arith))) (λ far. inl (inr far)) (less_or_not at (from + n)))
    (λ behind. inl (inl behind))
    (less_or_not from at)

parted_or_not : (at near far n : ℕ) → Parted at near far n ⊎ (Parted at near far n → ⊥)
parted_or_not at near far n =
    ⊎_elim
    (λ before. ⊎_elim (λ h. inl (inr (before, h))) (λ none. inr (⊎_elim (λ h. omega (arith, h.0)) (λ h. none h.1))) (ahead_or_not far at n))
    (λ behind. ⊎_elim (λ h. inl (inl (behind, h))) (λ none. inr (⊎_elim (λ h. none h.1) (λ h. omega (arith, h.0)))) (ahead_or_not at far n))
    (less_or_not near at)

fits_or_not : (marks at near far n size : ℕ) → Fits marks at near far n size ⊎ (Fits marks at near far n size → ⊥)
fits_or_not marks at near far n size = go (at_most (at + n) size) (at_most (near + n) size) (at_most (far + n) size) (at_most n marks)
  where
    go : (at + n ≤ size) ⊎ (at + n ≤ size → ⊥) → (near + n ≤ size) ⊎ (near + n ≤ size → ⊥) → (far + n ≤ size) ⊎ (far + n ≤ size → ⊥)
        → (n ≤ marks) ⊎ (n ≤ marks → ⊥) → Fits marks at near far n size ⊎ (Fits marks at near far n size → ⊥)
    go (inl a) (inl b) (inl c) (inl d) = inl (a, b, c, d)
    go (inr a) b c d = inr (λ h. a h.0)
    go (inl a) (inr b) c d = inr (λ h. b h.1)
    go (inl a) (inl b) (inr c) d = inr (λ h. c h.2)
    go (inl a) (inl b) (inl c) (inr d) = inr (λ h. d h.3)

module _ {b b₁ b₂ : List ℕ} where
  pub meet_once : {darker : Bool} {at from n : ℕ} → Meets darker at from n b b₁ → Meets darker at from n b b₂ → b₁ ≡ b₂
  meet_once {at = at} {from} {n} p q = once (at_most (at + n) (length b)) (at_most (from + n) (length b)) p.done p.none q.done q.none

  pub meet_bent-once : {darker : Bool} {m : List ℕ} {at near far n : ℕ} → MeetsBent darker m at near far n b b₁ → MeetsBent darker m at near far n b b₂ → b₁ ≡ b₂
  meet_bent-once {m = m} {at} {near} {far} {n} p q =
      ⊎_elim
      (λ some. once (fits_or_not (length m) at near far n (length b)) (parted_or_not at near far n) (p.done some) (p.none some) (q.done some) (q.none some))
      (λ bare. meet_once (p.unmarked (omega arith)) (q.unmarked (omega arith)))
      (less_or_not 0 (length m))

  pub meet_by-once : {darker : Bool} {f : List ℕ} {from n at : ℕ} → MeetsBy darker f from n at b b₁ → MeetsBy darker f from n at b b₂ → b₁ ≡ b₂
  meet_by-once {f = f} {from} {n} {at} p q = once (at_most (from + n) (length f)) (at_most (at + n) (length b)) p.done p.none q.done q.none

  pub fade_once : {darker : Bool} {at n : ℕ} → Fades darker at n b b₁ → Fades darker at n b b₂ → b₁ ≡ b₂
  fade_once {at = at} {n} p q = lone (at_most (at + n) (length b)) p.done p.none q.done q.none

  pub blacken_once : {at n : ℕ} → Clears at n b b₁ → Clears at n b b₂ → b₁ ≡ b₂
  blacken_once {at} {n} p q = lone (at_most (at + n) (length b)) p.done p.none q.done q.none

  pub blacken_bent-once : {m : List ℕ} {at n : ℕ} → ClearsBent m at n b b₁ → ClearsBent m at n b b₂ → b₁ ≡ b₂
  blacken_bent-once {m} {at} {n} p q = once (at_most (at + n) (length b)) (at_most n (length m)) p.done p.none q.done q.none

  pub copy_once : {f : List ℕ} {n : ℕ} → Copies f n b b₁ → Copies f n b b₂ → b₁ ≡ b₂
  copy_once {f} {n} p q = once (at_most n (length f)) (at_most n (length b)) p.done p.none q.done q.none

  pub claim_once : {new : List ℕ} {from n number at : ℕ} {h h₁ h₂ : List ℕ} → Claims new from n number at b b₁ h h₁ → Claims new from n number at b b₂ h h₂
      → (b₁ ≡ b₂) × (h₁ ≡ h₂)
  claim_once {new} {from} {n} {at = at} {h} p q =
      let there = at_most (from + n) (length new) in
      let best = at_most (at + n) (length b) in
      let held = at_most (at + n) (length h) in (
        once_more there best held p.raised (λ r. (p.none r).0) q.raised (λ r. (q.none r).0),
        once_more there best held p.held (λ r. (p.none r).1) q.held (λ r. (q.none r).1),
      )

-- ---- a frame where it stands

-- the bytes of a sweep are those of the frame's pixels, by columns where it is shallow and by rows where it is steep
module _ {sh : Shape} {F : ℕ → ℕ → ℕ} {b b₁ b₂ : List ℕ} (s : Sweep) (ok : is_frame sh ≡ true) where
  columns-once : (s.pace ≡ 1) × (s.sidestep ≡ sh.stride) × (s.majors ≡ sh.width) × (s.minors ≡ sh.height)
      → PixelsAre (byte_of s) s.majors s.minors F b b₁ → PixelsAre (byte_of s) s.majors s.minors F b b₂ → b₁ ≡ b₂
  columns-once (major-step, minor-step, majors, minors) p q =
      frames_same sh b₁ b₂ ok (p.same ∙ sym q.same)
      (λ x y h l. subst (λ (i : ℕ). get_or b₁ i 0 ≡ get_or b₂ i 0) (byte x y) (p.within x y (omega arith) (omega arith) ∙ sym (q.within x y (omega arith) (omega arith))))
      (λ k gap.
      let none : (i j : ℕ) → i < s.majors → j < s.minors → k ≡ byte_of s i j → ⊥ = λ i j h l e. gap i j (omega arith) (omega arith) (e ∙ byte i j) in
      p.other k none ∙ sym (q.other k none))
    where
      byte : (x y : ℕ) → byte_of s x y ≡ place sh (at x y)
      byte x y = rw (major-step, minor-step) (omega arith)

  rows-once : (s.pace ≡ sh.stride) × (s.sidestep ≡ 1) × (s.majors ≡ sh.height) × (s.minors ≡ sh.width)
      → PixelsAre (byte_of s) s.majors s.minors F b b₁ → PixelsAre (byte_of s) s.majors s.minors F b b₂ → b₁ ≡ b₂
  rows-once (major-step, minor-step, majors, minors) p q =
      frames_same sh b₁ b₂ ok (p.same ∙ sym q.same)
      (λ x y h l. subst (λ (i : ℕ). get_or b₁ i 0 ≡ get_or b₂ i 0) (byte y x) (p.within y x (omega arith) (omega arith) ∙ sym (q.within y x (omega arith) (omega arith))))
      (λ k gap.
      let none : (i j : ℕ) → i < s.majors → j < s.minors → k ≡ byte_of s i j → ⊥ = λ i j h l e. gap j i (omega arith) (omega arith) (e ∙ byte i j) in
      p.other k none ∙ sym (q.other k none))
    where
      byte : (y x : ℕ) → byte_of s y x ≡ place sh (at x y)
      byte y x = rw (major-step, minor-step) (omega arith)

columns : (sh : Shape) (d : Direction) → shallow d ≡ true
    → ((sweep_of sh d).pace ≡ 1) × ((sweep_of sh d).sidestep ≡ sh.stride) × ((sweep_of sh d).majors ≡ sh.width) × ((sweep_of sh d).minors ≡ sh.height)
unfolding sweep.sweep_of
columns sh d e = (rw e, rw e, rw e, rw e)

rows : (sh : Shape) (d : Direction) → shallow d ≡ false
    → ((sweep_of sh d).pace ≡ sh.stride) × ((sweep_of sh d).sidestep ≡ 1) × ((sweep_of sh d).majors ≡ sh.height) × ((sweep_of sh d).minors ≡ sh.width)
unfolding sweep.sweep_of
rows sh d e = (rw e, rw e, rw e, rw e)

-- whichever way the lines have to go
opens-once : (sh : Shape) (d : Direction) (L : ℕ) (way : Bool) {b b₁ b₂ : List ℕ} → OpensIf (can_open sh d L (length b) && way) (sweep_of sh d) L b b₁
    → OpensIf (can_open sh d L (length b) && way) (sweep_of sh d) L b b₂ → b₁ ≡ b₂
opens-once sh d L way {b} {b₁} {b₂} p q = go (can_open sh d L (length b) && way) refl
  where
    either : (t : Bool) → shallow d ≡ t → (can_open sh d L (length b) && way) ≡ true → b₁ ≡ b₂
    either true flat e = columns-once (sweep_of sh d) (both_left (is_frame sh) _ (both_left (can_open sh d L (length b)) way e)) (columns sh d flat) (p.done e) (q.done e)
    either false steep e = rows-once (sweep_of sh d) (both_left (is_frame sh) _ (both_left (can_open sh d L (length b)) way e)) (rows sh d steep) (p.done e) (q.done e)

    go : (t : Bool) → (can_open sh d L (length b) && way) ≡ t → b₁ ≡ b₂
    go true e = either (shallow d) refl e
    go false e = p.none e ∙ sym (q.none e)

pub open_down-once : (sh : Shape) (d : Direction) (L : ℕ) {b b₁ b₂ : List ℕ} → OpensDown sh d L b b₁ → OpensDown sh d L b b₂ → b₁ ≡ b₂
open_down-once sh d L = opens-once sh d L (goes_down d)

pub open_shallow-once : (sh : Shape) (d : Direction) (L : ℕ) {b b₁ b₂ : List ℕ} → OpensShallow sh d L b b₁ → OpensShallow sh d L b b₂ → b₁ ≡ b₂
open_shallow-once sh d L = opens-once sh d L (shallow d)

-- ---- a line put back

pub claim_line-once : {v : List ℕ} {n : ℕ} {sh : Shape} {d : Direction} {k : ℤ} {b b₁ b₂ h h₁ h₂ : List ℕ} → ClaimsLine v n sh d k b b₁ h h₁ → ClaimsLine v n sh d k b b₂ h h₂
    → (b₁ ≡ b₂) × (h₁ ≡ h₂)
claim_line-once p q = (p.raises ∙ sym q.raises, p.names ∙ sym q.names)

-- ---- the tests of rules

pub test_once : (broken : Bool) (e : Refusal) (r₁ r₂ : Result (Unit {0}) Refusal) → Checks broken e r₁ → Checks broken e r₂ → r₁ ≡ r₂
test_once = checks_once
