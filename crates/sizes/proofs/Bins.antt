-- Bins and rest: how many there are, which is which, and what they add up to.
--   sums-length              there are K + 1
--   sums-bin, sums-rest      the entry for a length, and the last
--   sums_same                by sums that are the same from length 1 on
--   sums-behind              where a sum is 0, so is the entry behind those of shorter lengths
--   sums-total               where the sums fall, bins and rest together are the sum for length 1
--   sums-lines               bins and rest of totals are the totals of bins and rest
--   sum-falls, sum_one       the sums of a line fall with the length; the sum for length 1 is the total of the pixels
--   sum-short                no window is longer than the line: the sum is 0
--   line-total               bins and rest of a line together are the total of its pixels
-- Assumes nothing.
use mathlib.Core.Path.{◌≡◌, sym, ap, ap₂, ◌∙◌}
use mathlib.Core.List.{List, [], ◌∷◌, ◌++◌, append-nil, append_assoc}
use mathlib.Core.Logic.{⊎_elim}
use Prim.Native.Nat.{ℕ, zero, suc, ◌+◌, ◌-◌, ◌≤◌, ◌<◌}
use native.Mathlib.Numerals.{add-one}
use native.Mathlib.Omega.{arith}
use lib.ListN.{length, get_or, replicate, length-append, get_or-append}
use lib.Seq.{get_or-append-add}
use Rattle.std.proofs.lemmas.List.{replicate_more}
use Rattle.lists.specs.Tables.{each, table}
use Rattle.lists.specs.Extremes.{total}
use Rattle.lists.proofs.Cases.{less_or_not}
use Rattle.lists.proofs.Tables.{length-table, get_d_table, table_same}
use Rattle.lists.proofs.Extremes.{total-append, total-table, total-zero}
use Rattle.lists.proofs.Totals.{total_less}
use Rattle.line.specs.Windows.{opened}
use Rattle.line.proofs.Passes.{opened-at-short}
use Rattle.bridge.specs.Sums.{sum_for, bin_for}
use Rattle.bridge.proofs.Sizes.{sums-whole}
use Rattle.sizes.specs.Sums.{sums_of, line_sums}

module _ (sum : ℕ → ℕ) where
  abbrev bin : ℕ → ℕ
  bin i = sum (suc i) - sum (suc (suc i))

  abbrev rest : ℕ → List ℕ
  rest K = sum (suc K) ∷ []

  pub sums-length : (K : ℕ) → length (sums_of sum K) ≡ suc K
  sums-length K = simp (length-append, length-table) (omega arith)

  pub sums-bin : (K j : ℕ) → j < K → get_or (sums_of sum K) j 0 ≡ sum (suc j) - sum (suc (suc j))
  sums-bin K j h =
      let l : j < length (table bin K) = omega (arith, length-table bin K) in
      get_or-append (table bin K) _ 0 j l ∙ get_d_table 0 bin K j h

  pub sums-rest : (K : ℕ) → get_or (sums_of sum K) K 0 ≡ sum (suc K)
  sums-rest K =
      let e : length (table bin K) + 0 ≡ K = omega (arith, length-table bin K) in
      rw e at (get_or-append-add (table bin K) (rest K) 0 0)

  -- the rest goes to its length's bin, and the entry behind it is the new rest
  sums_next : (K : ℕ) → sum (suc (suc K)) ≡ 0 → sums_of sum (suc K) ≡ sums_of sum K ++ (0 ∷ [])
  unfolding each
  sums_next K e = let own : sum (suc K) - 0 ≡ sum (suc K) = omega arith in rw (e, own)

  pub sums-behind : (K m : ℕ) → ((L : ℕ) → suc K < L → L ≤ suc (K + m) → sum L ≡ 0) → sums_of sum (K + m) ≡ sums_of sum K ++ replicate m 0
  unfolding each
  sums-behind K zero none = let e : K + 0 ≡ K = omega arith in rw e (sym (append-nil (sums_of sum K)))
  sums-behind K (suc m) none =
      let e : K + suc m ≡ suc (K + m) = omega arith in
      rw e
      (sums_next (K + m) (none (suc (suc (K + m))) (omega arith) (omega arith))
      ∙ ap (λ (l : List ℕ). l ++ (0 ∷ [])) (sums-behind K m (λ L lo hi. none L lo (omega arith)))
      ∙ append_assoc (sums_of sum K) (replicate m 0) (0 ∷ [])
      ∙ ap (λ (l : List ℕ). sums_of sum K ++ l) (replicate_more m 0 ∙ ap (λ (n : ℕ). replicate n 0) (add-one m)))

  bins-total : ((i : ℕ) → sum (suc (suc i)) ≤ sum (suc i)) → (K : ℕ) → total (table bin K) + sum (suc K) ≡ sum 1
  unfolding each total
  bins-total falls zero = omega arith
  bins-total falls (suc K) = omega (arith, total-table bin K, falls K, bins-total falls K)

  pub sums-total : ((i : ℕ) → sum (suc (suc i)) ≤ sum (suc i)) → (K : ℕ) → total (sums_of sum K) ≡ sum 1
  unfolding total
  sums-total falls K = omega (arith, total-append (table bin K) (rest K), bins-total falls K)

pub sums_same : (sum sum' : ℕ → ℕ) → ((i : ℕ) → sum (suc i) ≡ sum' (suc i)) → (K : ℕ) → sums_of sum K ≡ sums_of sum' K
sums_same sum sum' same K =
    ap₂ (λ (bins : List ℕ) (rest : ℕ). bins ++ (rest ∷ [])) (table_same _ _ K (λ i _. ap₂ (λ (x y : ℕ). x - y) (same i) (same (suc i)))) (same K)

-- bins and rest of totals are the totals of bins and rest
pub sums-lines : (sum : ℕ → ℕ → ℕ) (n : ℕ) → ((u i : ℕ) → sum u (suc (suc i)) ≤ sum u (suc i)) → (K j : ℕ) → j ≤ K
    → get_or (sums_of (λ (L : ℕ). total (table (λ (u : ℕ). sum u L) n)) K) j 0 ≡ total (table (λ (u : ℕ). get_or (sums_of (sum u) K) j 0) n)
sums-lines sum n falls K j h = ⊎_elim bins last (less_or_not j K)
  where
    all : ℕ → ℕ
    all L = total (table (λ (u : ℕ). sum u L) n)

    bins : j < K → get_or (sums_of all K) j 0 ≡ total (table (λ (u : ℕ). get_or (sums_of (sum u) K) j 0) n)
    bins l =
        sums-bin all K j l
        ∙ total_less (λ (u : ℕ). sum u (suc j)) (λ (u : ℕ). sum u (suc (suc j))) n (λ u _. falls u j)
        ∙ ap total (table_same _ _ n (λ u _. sym (sums-bin (sum u) K j l)))

    last : K ≤ j → get_or (sums_of all K) j 0 ≡ total (table (λ (u : ℕ). get_or (sums_of (sum u) K) j 0) n)
    last l =
        let e : j ≡ K = omega arith in
        rw e (sums-rest all K ∙ ap total (table_same _ _ n (λ u _. sym (sums-rest (sum u) K))))

pub sum-falls : (f : List ℕ) (i : ℕ) → sum_for f (suc (suc i)) ≤ sum_for f (suc i)
sum-falls f i = omega (arith, sums-whole f i, sums-whole f (suc i), total-table (λ (i : ℕ). bin_for f (suc i)) i)

pub sum_one : (f : List ℕ) → sum_for f 1 ≡ total f
unfolding each total
sum_one f = omega (arith, sums-whole f 0)

pub sum-short : (f : List ℕ) (L : ℕ) → length f < L → sum_for f L ≡ 0
unfolding opened
sum-short f L short = ap total (table_same _ _ (length f) (λ x _. opened-at-short f L x short)) ∙ total-zero (length f)

pub line-total : (f : List ℕ) (K : ℕ) → total (line_sums f K) ≡ total f
line-total f K = sums-total (sum_for f) (sum-falls f) K ∙ sum_one f
