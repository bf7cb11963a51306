-- The lines of a frame hold its light: their totals add up to the total of the frame's pixels.
--   lines-light
-- Assumes nothing.
use mathlib.Core.Path.{◌≡◌, refl, ap, ◌∙◌}
use mathlib.Core.Bool.{Bool, true, false}
use mathlib.Core.List.{List}
use Prim.Native.Nat.{ℕ, ◌+◌, ◌-◌, ◌*◌, ◌<◌}
use native.Mathlib.Omega.{arith}
use lib.ListN.{get_or}
use lib.IntN.{pos, ◌+ℤ◌}
use Rattle.lists.specs.Tables.{table, those}
use Rattle.lists.specs.Extremes.{total}
use Rattle.lists.proofs.Tables.{table_same}
use Rattle.lists.proofs.Picks.{map-those, those-stretch}
use Rattle.lists.proofs.Sums.{total-swap}
use Rattle.frame.specs.declared.direction.Direction.{Direction}
use Rattle.frame.specs.declared.shape.Shape.{Shape}
use Rattle.frame.specs.declared.sweep.Sweep.{Sweep}
use Rattle.frame.specs.Direction.{shallow}
use Rattle.frame.specs.Lines.{at, place, gathered, first_line, line_count, frame_light}
use Rattle.frame.specs.Sweep.{sweep_of, shift, lines, hit, cell, cells, values_at, Accepted, Sane}
use Rattle.frame.proofs.Shapes.{accepted-some, sweep_sane}
use Rattle.frame.proofs.Walks.{hit-at, hit-below, hit-past, values_are}
use Rattle.frame.proofs.Spans.{shift_le}
use Rattle.frame.proofs.Pixels.{number, count-is}

module _ (s : Sweep) (f : List ℕ) where
  -- a line of the sweep, place by place
  line-total : (u : ℕ) → total (values_at f (cells s u s.majors)) ≡ total (those (hit s u) (λ (i : ℕ). get_or f (cell s u i) 0) s.majors)
  unfolding cells
  line-total u = ap total (map-those (λ (c : ℕ). get_or f c 0) (hit s u) (cell s u) s.majors)

  -- at one major coordinate, the lines have every minor coordinate once
  column : Sane s → (i : ℕ) → i < s.majors
      → those (λ (u : ℕ). hit s u i) (λ (u : ℕ). get_or f (cell s u i) 0) (lines s) ≡ table (λ (j : ℕ). get_or f (i * s.pace + j * s.sidestep) 0) s.minors
  unfolding cell
  column sane i h =
      those-stretch (λ (u : ℕ). hit s u i) (λ (u : ℕ). get_or f (cell s u i) 0) (lines s) (shift s i) s.minors (omega (arith, shift_le s sane i h))
      (λ u l k. hit-at s u i l k) (λ u l. hit-below s u i l) (λ u l k. hit-past s u i l)
      ∙ table_same (λ (j : ℕ). get_or f (cell s (shift s i + j) i) 0) (λ (j : ℕ). get_or f (i * s.pace + j * s.sidestep) 0) s.minors
      (λ j l. let e : shift s i + j - shift s i ≡ j = omega arith in ap (λ (k : ℕ). get_or f (i * s.pace + k * s.sidestep) 0) e)

  sweep_total : Sane s
      → total (table (λ (u : ℕ). total (values_at f (cells s u s.majors))) (lines s))
      ≡ total (table (λ (i : ℕ). total (table (λ (j : ℕ). get_or f (i * s.pace + j * s.sidestep) 0) s.minors)) s.majors)
  sweep_total sane =
      ap total (table_same _ _ (lines s) (λ u l. line-total u))
      ∙ total-swap (hit s) (λ (u i : ℕ). get_or f (cell s u i) 0) (lines s) s.majors
      ∙ ap total (table_same _ _ s.majors (λ i l. ap total (column sane i l)))

-- the coordinates of a sweep are those of the frame
pixels-total : (f : List ℕ) (sh : Shape) (d : Direction)
    → (let s = sweep_of sh d in total (table (λ (i : ℕ). total (table (λ (j : ℕ). get_or f (i * s.pace + j * s.sidestep) 0) s.minors)) s.majors) ≡ frame_light f sh)
unfolding sweep_of
pixels-total f sh d = go (shallow d) refl
  where
    same : (a b : ℕ) → a ≡ b → get_or f a 0 ≡ get_or f b 0
    same a b e = ap (λ (c : ℕ). get_or f c 0) e

    go : (t : Bool) → shallow d ≡ t
        → (let s = sweep_of sh d in total (table (λ (i : ℕ). total (table (λ (j : ℕ). get_or f (i * s.pace + j * s.sidestep) 0) s.minors)) s.majors) ≡ frame_light f sh)
    go true e =
        rw e
        (total-swap (λ i j. true) (λ (i j : ℕ). get_or f (i * 1 + j * sh.stride) 0) sh.width sh.height
        ∙ ap total (table_same _ _ sh.height (λ y l. ap total (table_same _ _ sh.width (λ x k. same (x * 1 + y * sh.stride) (place sh (at x y)) (omega arith))))))
    go false e =
        rw e
        (ap total (table_same _ _ sh.height (λ y l. ap total (table_same _ _ sh.width (λ x k. same (y * sh.stride + x * 1) (place sh (at x y)) (omega arith))))))

pub lines-light : (f : List ℕ) (sh : Shape) (d : Direction) → Accepted sh d
    → total (table (λ (u : ℕ). total (gathered f sh d (first_line sh d +ℤ pos u))) (line_count sh d)) ≡ frame_light f sh
lines-light f sh d ok =
    ap (λ (n : ℕ). total (table (λ (u : ℕ). total (gathered f sh d (first_line sh d +ℤ pos u))) n)) (count-is sh d)
    ∙ ap total (table_same _ _ (lines (sweep_of sh d)) (λ u l. ap total (ap (gathered f sh d) (number sh d u) ∙ values_are sh d (accepted-some ok) u f)))
    ∙ sweep_total (sweep_of sh d) f (sweep_sane ok)
    ∙ pixels-total f sh d
