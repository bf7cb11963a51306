-- What the answer 0 of a call's rules says of the numbers that it was handed.
--   erosion_fits, dilation_fits, opening_fits
-- Assumes nothing.
use mathlib.Core.Path.{◌≡◌, refl}
use Prim.Native.Nat.{ℕ, ◌≤◌}
use lib.Dec.{ltb}
use borrow.Author.Tests.{ltb-false}
use Rattle.lists.proofs.Cases.{neither_left, neither_right}
use Rattle.answer.specs.declared.Answer.{Answer}
use Rattle.answer.specs.Limits.{longest}
use Rattle.answer.specs.Rules.{answer, outside}
use Rattle.answer.proofs.Rules.{kept, outside_not}
use Rattle.line.specs.Windows.{eroded_count, dilated_count}
use Rattle.line.specs.Erosion.{erode_rules}
use Rattle.line.specs.Dilation.{dilate_rules}
use Rattle.line.specs.Opening.{open_rules}

pub erosion_fits : (n L room : ℕ) {a : Answer} → a ≡ answer (erode_rules n L room) (eroded_count n L) → a.number ≡ 0
    → (n ≤ longest) × (1 ≤ L) × (eroded_count n L ≤ room)
erosion_fits n L room says z =
    let rules = kept (erode_rules n L room) (eroded_count n L) refl (rw says at z) in
    ((outside_not 1 longest n rules.0).1, (outside_not 1 longest L rules.1.0).0, ltb-false room (eroded_count n L) rules.1.1.0)

pub dilation_fits : (m L room : ℕ) {a : Answer} → a ≡ answer (dilate_rules m L room) (dilated_count m L) → a.number ≡ 0
    → (1 ≤ m) × (1 ≤ L) × (dilated_count m L ≤ longest) × (dilated_count m L ≤ room)
dilation_fits m L room says z =
    let rules = kept (dilate_rules m L room) (dilated_count m L) refl (rw says at z) in
    let values = neither_left (outside 1 longest m) (ltb longest (dilated_count m L)) rules.0 in
    let sum = neither_right (outside 1 longest m) (ltb longest (dilated_count m L)) rules.0 in (
      (outside_not 1 longest m values).0,
      (outside_not 1 longest L rules.1.0).0,
      ltb-false longest (dilated_count m L) sum,
      ltb-false room (dilated_count m L) rules.1.1.0,
    )

pub opening_fits : (n L room spare : ℕ) {a : Answer} → a ≡ answer (open_rules n L room spare) 0 → a.number ≡ 0 → (1 ≤ L) × (n ≤ room)
opening_fits n L room spare says z =
    let rules = kept (open_rules n L room spare) 0 refl (rw says at z) in
    ((outside_not 1 longest L rules.1.0).0, ltb-false room n rules.1.1.0)
