-- The lines of a direction that goes down.
--   down_goes        they go down the rows
--   down-opens       opened as they go down the rows, they are opened
-- Assumes nothing.
use mathlib.Core.Path.{◌≡◌, refl}
use mathlib.Core.Bool.{Bool, true, false, cond}
use mathlib.Core.List.{List}
use Prim.Native.Nat.{ℕ, ◌≤◌}
use native.Mathlib.Nat.{le_antisymm}
use native.Mathlib.Omega.{arith}
use lib.IntN.{nat_abs}
use lib.ListN.{length}
use borrow.Author.Tests.{leb-true}
use Rattle.frame.specs.declared.direction.Direction.{Direction}
use Rattle.frame.specs.declared.shape.Shape.{Shape}
use Rattle.frame.specs.Direction.{shallow, goes_down}
use Rattle.frame.specs.Shape.{needed}
use Rattle.frame.specs.Sweep as sweep
use Rattle.frame.specs.Sweep.{sweep_of, Accepted}
use Rattle.frame.proofs.Shapes.{framed, sweep_sane}
use Rattle.rows.specs.Rows.{OpensLines}
use Rattle.rows.specs.Down.{Down, swap_of, down_of}
use Rattle.rows.proofs.Diagonals.{swapped_sane, swapped_opens}

module _ {sh : Shape} {d : Direction} (a : Accepted sh d) (falls : goes_down d ≡ true) where
  -- a shallow direction is a diagonal
  slope_one : shallow d ≡ true → (sweep_of sh d).rise ≡ (sweep_of sh d).run
  unfolding sweep.sweep_of
  slope_one flat = rw flat (le_antisymm (leb-true (nat_abs d.q) (nat_abs d.p) flat) (leb-true (nat_abs d.p) (nat_abs d.q) falls))

  side-one : shallow d ≡ true → 1 ≤ (sweep_of sh d).pace
  unfolding sweep.sweep_of
  side-one flat = rw flat (omega arith)

  pub down_goes : (g : List ℕ) → needed sh ≤ length g → Down (down_of sh d) g
  unfolding sweep.sweep_of
  down_goes g room = go (shallow d) refl
    where
      go : (t : Bool) → shallow d ≡ t → Down (cond t (swap_of (sweep_of sh d)) (sweep_of sh d)) g
      go true flat =
          let sane = swapped_sane (sweep_of sh d) (slope_one flat) (sweep_sane a) (side-one flat) in
          record { sane = sane; next = rw flat refl; apart = rw flat (framed sh a.frame).past; room = rw flat room }
      go false steep =
          record { sane = sweep_sane a; next = rw steep refl; apart = rw steep (framed sh a.frame).past; room = rw steep room }

  pub down-opens : (L : ℕ) {g g' : List ℕ} → 1 ≤ L → OpensLines (down_of sh d) L g g' → OpensLines (sweep_of sh d) L g g'
  down-opens L {g} {g'} some = go (shallow d) refl
    where
      go : (t : Bool) → shallow d ≡ t → OpensLines (cond t (swap_of (sweep_of sh d)) (sweep_of sh d)) L g g' → OpensLines (sweep_of sh d) L g g'
      go true flat o = swapped_opens (sweep_of sh d) (slope_one flat) L (sweep_sane a) (side-one flat) some o
      go false steep o = o
