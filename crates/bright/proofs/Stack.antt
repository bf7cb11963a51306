-- The open runs in the scratch: what a store does to them.
--   stack_put8                the run that is stored as number i is on top of the i before it, pixels having eight bits
--   stack_length              how many runs it holds, whatever the layout
--   stack_top, stack_below    the run on top, and the runs below it, whatever the layout
-- Assumes nothing.
use mathlib.Core.Path.{◌≡◌, refl, ap}
use mathlib.Core.List.{List, ◌∷◌}
use Prim.Native.Nat.{ℕ, zero, suc, ◌+◌, ◌-◌, ◌*◌, ◌/◌, ◌%◌, ◌≤◌, ◌<◌}
use native.Mathlib.Omega.{arith}
use lib.ListN.{length, get_or, set, length-set}
use lib.Seq.{get_or-set_same, get_or-set_other}
use Rattle.bright.specs.Reading.{Run}
use Rattle.bright.specs.Generator.{Layout, run8, stack_of}

-- a store behind the runs leaves them
stack_set : (d : ℕ) (m : List ℕ) (i v : ℕ) → 4 * d ≤ i → stack_of run8 (set m i v) d ≡ stack_of run8 m d
unfolding stack_of
stack_set zero m i v h = refl
stack_set (suc d) m i v h =
    rw (
      get_or-set_other m i (4 * d) v 0 (λ e. omega arith),
      get_or-set_other m i (4 * d + 1) v 0 (λ e. omega arith),
      get_or-set_other m i (4 * d + 2) v 0 (λ e. omega arith),
      stack_set d m i v (omega arith),
    )

-- three stores side by side, each read back
abbrev three : List ℕ → ℕ → ℕ → ℕ → ℕ → List ℕ
three m at x y z = set (set (set m at x) (at + 1) y) (at + 2) z

module _ (m : List ℕ) (at x y z : ℕ) (h : at + 3 ≤ length m) where
  three_0 : get_or (three m at x y z) at 0 ≡ x
  three_0 =
      rw (
        get_or-set_other (set (set m at x) (at + 1) y) (at + 2) at z 0 (λ e. omega arith),
        get_or-set_other (set m at x) (at + 1) at y 0 (λ e. omega arith),
      )
      (get_or-set_same m at x 0 (omega arith))

  three_1 : get_or (three m at x y z) (at + 1) 0 ≡ y
  three_1 =
      rw (get_or-set_other (set (set m at x) (at + 1) y) (at + 2) (at + 1) z 0 (λ e. omega arith))
      (get_or-set_same (set m at x) (at + 1) y 0 (simp length-set (omega arith)))

  three_2 : get_or (three m at x y z) (at + 2) 0 ≡ z
  three_2 = get_or-set_same (set (set m at x) (at + 1) y) (at + 2) z 0 (simp length-set (omega arith))

-- the run that is stored as number i is on top of the i before it
pub stack_put8 : (m : List ℕ) (i s l : ℕ) → 4 * i + 4 ≤ length m
    → stack_of run8 (set (set (set m (4 * i) (s % 256)) (4 * i + 1) (s / 256)) (4 * i + 2) l) (suc i) ≡ record { start = s; level = l } ∷ stack_of run8 m i
unfolding stack_of
stack_put8 m i s l h =
    let e : s % 256 + 256 * (s / 256) ≡ s = omega arith in
    let h₃ : 4 * i + 3 ≤ length m = omega arith in
    rw (
      three_0 m (4 * i) (s % 256) (s / 256) l h₃,
      three_1 m (4 * i) (s % 256) (s / 256) l h₃,
      three_2 m (4 * i) (s % 256) (s / 256) l h₃,
      e,
      stack_set i (set (set m (4 * i) (s % 256)) (4 * i + 1) (s / 256)) (4 * i + 2) l (omega arith),
      stack_set i (set m (4 * i) (s % 256)) (4 * i + 1) (s / 256) (omega arith),
      stack_set i m (4 * i) (s % 256) (omega arith),
    )

pub stack_length : (run : Layout) (m : List ℕ) (d : ℕ) → length (stack_of run m d) ≡ d
unfolding stack_of
stack_length run m zero = refl
stack_length run m (suc d) = ap suc (stack_length run m d)

-- the run on top
pub stack_top : (run : Layout) (m : List ℕ) (d : ℕ) → 0 < d → stack_of run m d ≡ run m (d - 1) ∷ stack_of run m (d - 1)
unfolding stack_of
stack_top run m zero h = absurd (omega arith)
stack_top run m (suc d) h =
    let e : suc d - 1 ≡ d = omega arith in
    rw e

pub stack_below : (run : Layout) (m : List ℕ) (d : ℕ) (r : Run) (rs : List Run) → stack_of run m (suc d) ≡ r ∷ rs → stack_of run m d ≡ rs
unfolding stack_of
stack_below run m d r rs e = cc
