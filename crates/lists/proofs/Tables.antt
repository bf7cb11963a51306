-- Tables: how long they are, and what stands at each place.
--   length-table, get_d_table       the length of a table, and its value at a place
--   each_same, each_none            lists made alike, and made of nothing
--   table_same, table-by            tables of the same values; a list is the table of its values
-- Assumes nothing.
use mathlib.Core.Path.{◌≡◌, refl, sym, ap, ap₂, ◌∙◌}
use mathlib.Core.List.{List, [], ◌∷◌, ◌++◌}
use mathlib.Core.Logic.{⊎_elim}
use Prim.Native.Nat.{ℕ, zero, suc, ◌<◌}
use native.Mathlib.Nat.{eq-or-lt_of_le, le_of_suc-le-suc, not-suc-le-zero}
use native.Mathlib.Omega.{arith}
use lib.ListN.{length, get_or, length-append, get_or-append}
use lib.Seq.{ext_get_or, get_or_at}
use Rattle.lists.specs.Tables.{each, table}

module _ {A : Type 0} where
  pub each_same : (f g : ℕ → List A) (n : ℕ) → ((i : ℕ) → i < n → f i ≡ g i) → each f n ≡ each g n
  unfolding each
  each_same f g zero h = refl
  each_same f g (suc n) h = ap₂ ◌++◌ (each_same f g n (λ i l. h i (omega arith))) (h n (omega arith))

  pub each_none : (f : ℕ → List A) (n : ℕ) → ((i : ℕ) → i < n → f i ≡ []) → each f n ≡ []
  unfolding each
  each_none f zero h = refl
  each_none f (suc n) h = ap₂ ◌++◌ (each_none f n (λ i l. h i (omega arith))) (h n (omega arith))

  pub length-table : (g : ℕ → A) (n : ℕ) → length (table g n) ≡ n
  unfolding each
  length-table g zero = refl
  length-table g (suc n) = length-append (table g n) (g n ∷ []) ∙ omega (arith, length-table g n)

  pub get_d_table : (d : A) (g : ℕ → A) (n i : ℕ) → i < n → get_or (table g n) i d ≡ g i
  unfolding each
  get_d_table d g zero i h = absurd (not-suc-le-zero h)
  get_d_table d g (suc n) i h =
      ⊎_elim
      (λ e. rw e (get_or_at (table g n) (g n) [] d n (length-table g n)))
      (λ l. get_or-append (table g n) (g n ∷ []) d i (omega (arith, length-table g n)) ∙ get_d_table d g n i l)
      (eq-or-lt_of_le (le_of_suc-le-suc h))

  pub table_same : (f g : ℕ → A) (n : ℕ) → ((i : ℕ) → i < n → f i ≡ g i) → table f n ≡ table g n
  table_same f g n h = each_same (λ (i : ℕ). f i ∷ []) (λ (i : ℕ). g i ∷ []) n (λ i l. ap (λ (a : A). a ∷ []) (h i l))

  pub table-by : (d : A) (l : List A) (g : ℕ → A) (n : ℕ) → length l ≡ n → ((i : ℕ) → i < n → get_or l i d ≡ g i) → l ≡ table g n
  table-by d l g n e h =
      ext_get_or d l (table g n) (e ∙ sym (length-table g n))
      (λ i k. let m : i < n = omega arith in h i m ∙ sym (get_d_table d g n i m))
