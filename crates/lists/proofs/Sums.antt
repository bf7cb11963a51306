-- Totals of totals: a table of totals may be added up by its rows or by its columns.
--   total-none, total-sum     the total of zeros, and of sums
--   total-those               the total of those values that a test picks, place by place
--   total-swap                by rows or by columns
-- Assumes nothing.
use mathlib.Core.Path.{◌≡◌, refl, sym, ap, ap₂, ◌∙◌}
use mathlib.Core.Bool.{Bool}
use Prim.Native.Nat.{ℕ, zero, suc, ◌+◌}
use native.Mathlib.Omega.{arith}
use Rattle.lists.specs.Tables.{each, keep, table, those}
use Rattle.lists.specs.Extremes.{total}
use Rattle.lists.proofs.Tables.{table_same}
use Rattle.lists.proofs.Extremes.{total-append, total-table}

pub total-none : (n : ℕ) → total (table (λ (i : ℕ). 0) n) ≡ 0
unfolding each total
total-none zero = refl
total-none (suc n) = total-table (λ (i : ℕ). 0) n ∙ omega (arith, total-none n)

pub total-sum : (f g : ℕ → ℕ) (n : ℕ) → total (table (λ (i : ℕ). f i + g i) n) ≡ total (table f n) + total (table g n)
unfolding each total
total-sum f g zero = refl
total-sum f g (suc n) = omega (arith, total-table (λ (i : ℕ). f i + g i) n, total-table f n, total-table g n, total-sum f g n)

pub total-those : (p : ℕ → Bool) (g : ℕ → ℕ) (n : ℕ) → total (those p g n) ≡ total (table (λ (i : ℕ). total (keep (p i) (g i))) n)
unfolding each
total-those p g zero = refl
total-those p g (suc n) =
    total-append (those p g n) (keep (p n) (g n))
    ∙ ap (λ (t : ℕ). t + total (keep (p n) (g n))) (total-those p g n)
    ∙ sym (total-table (λ (i : ℕ). total (keep (p i) (g i))) n)

pub total-swap : (p : ℕ → ℕ → Bool) (g : ℕ → ℕ → ℕ) (m n : ℕ)
    → total (table (λ (u : ℕ). total (those (p u) (g u) n)) m) ≡ total (table (λ (i : ℕ). total (those (λ (u : ℕ). p u i) (λ (u : ℕ). g u i) m)) n)
unfolding each total
total-swap p g m zero = total-none m
total-swap p g m (suc n) =
    ap total
    (table_same (λ (u : ℕ). total (those (p u) (g u) (suc n))) (λ (u : ℕ). total (those (p u) (g u) n) + total (keep (p u n) (g u n))) m
    (λ u l. total-append (those (p u) (g u) n) (keep (p u n) (g u n))))
    ∙ total-sum (λ (u : ℕ). total (those (p u) (g u) n)) (λ (u : ℕ). total (keep (p u n) (g u n))) m
    ∙ ap₂ ◌+◌ (total-swap p g m n) (sym (total-those (λ (u : ℕ). p u n) (λ (u : ℕ). g u n) m))
    ∙ sym (total-table (λ (i : ℕ). total (those (λ (u : ℕ). p u i) (λ (u : ℕ). g u i) m)) n)
