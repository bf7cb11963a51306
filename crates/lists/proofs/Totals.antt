-- Totals of lists and tables, entry by entry.
--   entry-total               an entry is at most the total
--   total-most, table-most    the total of entries that are at most b each
--   total_less                the totals of two tables, one nowhere above the other, differ by the total of the differences
--   total_mono                and the one's total is not above the other's
-- Assumes nothing.
use mathlib.Core.Path.{◌≡◌, refl}
use mathlib.Core.List.{List, [], ◌∷◌}
use Prim.Native.Nat.{ℕ, zero, suc, ◌-◌, ◌*◌, ◌≤◌, ◌<◌, zero-le}
use native.Mathlib.Nat.{suc-mul}
use native.Mathlib.Omega.{arith}
use lib.ListN.{length, get_or}
use Rattle.lists.specs.Tables.{each, table}
use Rattle.lists.specs.Extremes.{total}
use Rattle.lists.proofs.Extremes.{total-table}

pub entry-total : (l : List ℕ) (j : ℕ) → get_or l j 0 ≤ total l
unfolding total
entry-total [] j = zero-le
entry-total (x ∷ xs) zero = omega arith
entry-total (x ∷ xs) (suc j) = omega (arith, entry-total xs j)

pub total-most : (l : List ℕ) (b : ℕ) → ((i : ℕ) → get_or l i 0 ≤ b) → total l ≤ length l * b
unfolding total
total-most [] b h = zero-le
total-most (x ∷ xs) b h = omega (arith, h 0, total-most xs b (λ i. h (suc i)), suc-mul (length xs) b)

pub table-most : (g : ℕ → ℕ) (n b : ℕ) → ((i : ℕ) → i < n → g i ≤ b) → total (table g n) ≤ n * b
unfolding each total
table-most g zero b h = zero-le
table-most g (suc n) b h = omega (arith, total-table g n, h n (omega arith), table-most g n b (λ i l. h i (omega arith)), suc-mul n b)

module _ (g h : ℕ → ℕ) where
  pub total_mono : (n : ℕ) → ((i : ℕ) → i < n → h i ≤ g i) → total (table h n) ≤ total (table g n)
  unfolding each total
  total_mono zero le = zero-le
  total_mono (suc n) le = omega (arith, total-table g n, total-table h n, le n (omega arith), total_mono n (λ i l. le i (omega arith)))

  pub total_less : (n : ℕ) → ((i : ℕ) → i < n → h i ≤ g i) → total (table g n) - total (table h n) ≡ total (table (λ (i : ℕ). g i - h i) n)
  unfolding each total
  total_less zero le = refl
  total_less (suc n) le =
      omega (
        arith,
        total-table g n,
        total-table h n,
        total-table (λ (i : ℕ). g i - h i) n,
        le n (omega arith),
        total_mono n (λ i l. le i (omega arith)),
        total_less n (λ i l. le i (omega arith)),
      )
