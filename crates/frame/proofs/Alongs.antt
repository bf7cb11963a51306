-- Along, a line is a row.
--   row_ends                           a row ends within what the frame needs
--   flat-shallow, flat_sweep, flat-shift    a direction without a slope: it is shallow, its sweep, and its lines do not move aside
--   along-count, along-line            in such a direction the frame has a line for each row, and line u is row u
-- Assumes nothing.
use mathlib.Core.Path.{◌≡◌, refl, ap, ◌∙◌}
use mathlib.Core.Bool.{Bool, true, false}
use mathlib.Core.List.{List}
use Prim.Native.Nat.{ℕ, ◌+◌, ◌-◌, ◌*◌, ◌≤◌, ◌<◌}
use native.Mathlib.Nat.{mul-zero, mul-le-mul_right, div-eq_of_lt}
use native.Mathlib.Omega.{arith}
use borrow.Author.Tests.{le-leb}
use lib.ListN.{get_or}
use lib.IntN.{pos, nat_abs, ◌+ℤ◌}
use Rattle.lists.specs.Tables.{table}
use Rattle.lists.proofs.Tables.{table_same}
use Rattle.lists.proofs.Picks.{map-table, those-stretch}
use Rattle.frame.specs.declared.direction.Direction.{Direction}
use Rattle.frame.specs.declared.shape.Shape.{Shape}
use Rattle.frame.specs.declared.sweep.Sweep.{Sweep}
use Rattle.frame.specs.Direction.{shallow, opposite}
use Rattle.frame.specs.Shape.{needed}
use Rattle.frame.specs.Lines.{r, at, place, gathered, first_line, line_count}
use Rattle.frame.specs.Sweep.{sweeping, sweep_of, shift, hit, cell, cells, values_at, Accepted, Sane}
use Rattle.frame.proofs.Shapes.{accepted-some, sweep_sane}
use Rattle.frame.proofs.Walks.{hit-at, values_are}
use Rattle.frame.proofs.Spans.{shift_falling, shift-rising}
use Rattle.frame.proofs.Pixels.{number, count-is}

pub row_ends : (sh : Shape) (y : ℕ) → y < sh.height → y * sh.stride + sh.width ≤ needed sh
row_ends sh y here = let k : y * sh.stride ≤ (sh.height - 1) * sh.stride = mul-le-mul_right sh.stride (omega arith) in omega arith

-- ---- lines without a slope

r-flat : (a b i : ℕ) → 1 ≤ a → b ≡ 0 → r a b i ≡ 0
unfolding r
r-flat a b i some z =
    let e : 2 * i * b ≡ 0 = ap (λ (n : ℕ). 2 * i * n) z ∙ mul-zero (2 * i) in
    div-eq_of_lt (omega arith)

shift-flat : (s : Sweep) → Sane s → s.rise ≡ 0 → (i : ℕ) → shift s i ≡ 0
shift-flat s sane z i = go s.falling refl
  where
    go : (t : Bool) → s.falling ≡ t → shift s i ≡ 0
    go true e = shift_falling s e i ∙ r-flat s.run s.rise i sane.moves z
    go false e =
        let top = r-flat s.run s.rise (s.majors - 1) sane.moves z in
        shift-rising s e i ∙ omega (arith, sane.top)

-- where no line moves aside, line u has a pixel at every major coordinate
cells-flat : (s : Sweep) (u : ℕ) → ((i : ℕ) → shift s i ≡ 0) → u < s.minors → cells s u s.majors ≡ table (λ (i : ℕ). i * s.pace + u * s.sidestep) s.majors
unfolding cells cell
cells-flat s u still here =
    those-stretch (hit s u) (cell s u) s.majors 0 s.majors (omega arith)
    (λ i l h. hit-at s u i (omega (arith, still i)) (omega (arith, still i))) (λ i h. absurd (omega arith)) (λ i l h. absurd (omega arith))
    ∙ table_same (λ (i : ℕ). cell s u (0 + i)) (λ (i : ℕ). i * s.pace + u * s.sidestep) s.majors
    (λ i h.
    let same : 0 + i ≡ i = omega arith in
    let aside : u - shift s i ≡ u = omega (arith, still i) in
    ap (cell s u) same ∙ ap (λ (k : ℕ). i * s.pace + k * s.sidestep) aside)

pub flat-shallow : (d : Direction) → nat_abs d.q ≡ 0 → shallow d ≡ true
flat-shallow d flat = le-leb (nat_abs d.q) (nat_abs d.p) (omega arith)

pub flat_sweep : (sh : Shape) (d : Direction) → nat_abs d.q ≡ 0
    → sweep_of sh d ≡ sweeping sh.width sh.height 1 sh.stride (nat_abs d.p) (nat_abs d.q) (opposite d)
unfolding sweep_of
flat_sweep sh d flat = rw (flat-shallow d flat)

module _ (sh : Shape) (d : Direction) (ok : Accepted sh d) (flat : nat_abs d.q ≡ 0) where
  level : (sweep_of sh d).rise ≡ 0
  level = ap (λ (s : Sweep). s.rise) (flat_sweep sh d flat) ∙ flat

  pub flat-shift : (i : ℕ) → shift (sweep_of sh d) i ≡ 0
  flat-shift = shift-flat (sweep_of sh d) (sweep_sane ok) level

  pub along-count : line_count sh d ≡ sh.height
  along-count =
      let s = sweep_of sh d in
      let sane = sweep_sane ok in
      let top : s.top ≡ 0 = sane.top ∙ r-flat s.run s.rise (s.majors - 1) sane.moves level in
      count-is sh d ∙ omega (arith, top, ap (λ (s : Sweep). s.minors) (flat_sweep sh d flat))

  pub along-line : (f : List ℕ) (u : ℕ) → u < sh.height → gathered f sh d (first_line sh d +ℤ pos u) ≡ table (λ (x : ℕ). get_or f (place sh (at x u)) 0) sh.width
  along-line f u here =
      let s = sweep_of sh d in
      let wide : s.majors ≡ sh.width = ap (λ (s : Sweep). s.majors) (flat_sweep sh d flat) in
      let high : s.minors ≡ sh.height = ap (λ (s : Sweep). s.minors) (flat_sweep sh d flat) in
      let one : s.pace ≡ 1 = ap (λ (s : Sweep). s.pace) (flat_sweep sh d flat) in
      let apart : s.sidestep ≡ sh.stride = ap (λ (s : Sweep). s.sidestep) (flat_sweep sh d flat) in
      ap (gathered f sh d) (number sh d u)
      ∙ values_are sh d (accepted-some ok) u f
      ∙ ap (values_at f) (cells-flat s u flat-shift (omega arith))
      ∙ map-table (λ (c : ℕ). get_or f c 0) (λ (i : ℕ). i * s.pace + u * s.sidestep) s.majors
      ∙ table_same (λ (i : ℕ). get_or f (i * s.pace + u * s.sidestep) 0) (λ (x : ℕ). get_or f (place sh (at x u)) 0) s.majors
      (λ i h. ap (λ (c : ℕ). get_or f c 0) (omega (arith, ap (λ (m : ℕ). i * m) one, ap (λ (m : ℕ). u * m) apart)))
      ∙ ap (table (λ (x : ℕ). get_or f (place sh (at x u)) 0)) wide
