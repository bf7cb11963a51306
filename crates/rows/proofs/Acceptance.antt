-- What the two openings ask for, and what they leave.
--   can_open_is     what `can_open` has tested, as facts
--   opens-all       all that an opening tests, as one
--   opens-done      all pass: every line is opened
-- Assumes nothing.
use mathlib.Core.Path.{◌≡◌, sym, ◌∙◌}
use mathlib.Core.Bool.{Bool, true, ◌&&◌, true≢false}
use mathlib.Core.List.{List}
use Prim.Native.Nat.{ℕ, ◌≤◌}
use lib.Dec.{leb}
use borrow.Author.Tests.{le-leb, leb-true}
use Rattle.lists.proofs.Cases.{both_left, both_right}
use Rattle.frame.specs.declared.direction.Direction.{Direction}
use Rattle.frame.specs.declared.shape.Shape.{Shape}
use Rattle.frame.specs.declared.sweep.Sweep.{Sweep}
use Rattle.frame.specs.Direction.{is_direction}
use Rattle.frame.specs.Shape.{is_frame, needed}
use Rattle.frame.specs.Sweep.{Accepted}
use Rattle.rows.specs.Rows.{OpensLines, can_open, OpensIf}

module _ (sh : Shape) (d : Direction) (L n : ℕ) (all : can_open sh d L n ≡ true) where
  past : (is_direction d && (leb 1 L && leb (needed sh) n)) ≡ true
  past = both_right (is_frame sh) (is_direction d && (leb 1 L && leb (needed sh) n)) all

  sizes : (leb 1 L && leb (needed sh) n) ≡ true
  sizes = both_right (is_direction d) (leb 1 L && leb (needed sh) n) past

  pub can_open_is : Accepted sh d × (1 ≤ L) × (needed sh ≤ n)
  can_open_is = (
    record {
      frame = both_left (is_frame sh) (is_direction d && (leb 1 L && leb (needed sh) n)) all;
      direction = both_left (is_direction d) (leb 1 L && leb (needed sh) n) past;
    },
    leb-true 1 L (both_left (leb 1 L) (leb (needed sh) n) sizes),
    leb-true (needed sh) n (both_right (leb 1 L) (leb (needed sh) n) sizes),
  )

pub opens-all : {sh : Shape} {d : Direction} {way : Bool} → Accepted sh d → way ≡ true → (L n : ℕ) → 1 ≤ L → needed sh ≤ n → (can_open sh d L n && way) ≡ true
opens-all {sh} a goes L n some room = rw (a.frame, a.direction, le-leb 1 L some, le-leb (needed sh) n room, goes)

module _ {t : Bool} {s : Sweep} {L : ℕ} {g : List ℕ} where
  pub opens-done : {g' : List ℕ} → t ≡ true → OpensLines s L g g' → OpensIf t s L g g'
  opens-done on o = record { done = λ e. o; none = λ off. absurd (true≢false (sym on ∙ off)) }
