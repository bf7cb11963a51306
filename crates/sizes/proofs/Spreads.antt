-- From bins and rest by pixels to those by length: for any sum S by pixels, and any count k of pixels for each length, where the next length has the same count or one more.
--   spread_shared, spread_alone    what spreading leaves for a length that shares its count with the next, and for one that does not
--   counted-falls                  sums that fall with the pixels fall with the length too
--   spread_sums                    bins and rest by pixels, spread, are those by length
-- With the counts of a direction's lengths:
--   sums-straight                  where lines are rows or columns, bins and rest by pixels are those by length
--   counts-measured                each is 1 at least, and at most its length
--   last-count, counts-fit         the last is that of the last length: 1 at least, and not above how many they are
--   spread_front                   bins and rest by pixels at the front of a slice, spread, are those by length
--   counts-part                    the counts, where they stand at the front of an array
-- Assumes nothing.
use mathlib.Core.Path.{◌≡◌, sym, ap, ◌∙◌}
use mathlib.Core.Bool.{true}
use mathlib.Core.List.{List, ◌++◌}
use mathlib.Core.Logic.{◌⊎◌, inl, inr, ⊎_elim}
use Prim.Native.Nat.{ℕ, zero, suc, ◌+◌, ◌-◌, ◌≤◌, ◌<◌}
use native.Mathlib.Nat.{le_refl}
use native.Mathlib.Omega.{arith}
use lib.ListN.{length, get_or, take, drop, length-append, length-drop, get_or-append, get_or-eq_default}
use lib.Seq.{length-take-le, ext_get_or}
use borrow.Author.Tests.{eq-eqb, ne_eqb}
use Rattle.lists.specs.Tables.{table}
use Rattle.lists.proofs.Cases.{less_or_not}
use Rattle.lists.proofs.Tables.{length-table, get_d_table}
use Rattle.answer.specs.Limits.{longest}
use Rattle.frame.specs.declared.direction.Direction.{Direction}
use Rattle.frame.specs.Direction.{is_direction, straight}
use Rattle.frame.specs.Length.{pixels_for, counts_to, counts_of}
use Rattle.frame.proofs.Lengths.{pixels-some, pixels-most, pixels-straight, pixels-next, counts_known}
use Rattle.sizes.specs.Sums.{sums_of}
use Rattle.sizes.specs.Steps.{Measured, spread_to}
use Rattle.sizes.proofs.Bins.{sums-length, sums-bin, sums-rest, sums_same}

module _ (c s : List ℕ) (i : ℕ) where
  pub spread_shared : get_or c i 0 ≡ get_or c (suc i) 0 → spread_to c s i ≡ 0
  spread_shared e = rw (eq-eqb (get_or c i 0) (get_or c (suc i) 0) e)

  pub spread_alone : (get_or c i 0 ≡ get_or c (suc i) 0 → ⊥) → spread_to c s i ≡ get_or s (get_or c i 0 - 1) 0
  spread_alone n = rw (ne_eqb (get_or c i 0) (get_or c (suc i) 0) n)

count_at : (k : ℕ → ℕ) (n : ℕ) (c : List ℕ) → c ≡ table (λ (i : ℕ). k (suc i)) n → (i : ℕ) → i < n → get_or c i 0 ≡ k (suc i)
count_at k n c counts i h = rw counts (get_d_table 0 (λ (i : ℕ). k (suc i)) n i h)

module _ (S k : ℕ → ℕ) (some : (L : ℕ) → 1 ≤ k L) (next : (L : ℕ) → (k (suc L) ≡ k L) ⊎ (k (suc L) ≡ suc (k L))) where
  pub counted-falls : ((i : ℕ) → S (suc (suc i)) ≤ S (suc i)) → (L : ℕ) → S (k (suc L)) ≤ S (k L)
  counted-falls falls L = go (next L)
    where
      go : (k (suc L) ≡ k L) ⊎ (k (suc L) ≡ suc (k L)) → S (k (suc L)) ≤ S (k L)
      go (inl e) = rw e (le_refl (S (k L)))
      go (inr e) =
          let p : k L ≡ suc (k L - 1) = omega (arith, some L) in
          rw (e, p) (falls (k L - 1))

  counts_mono : (L m : ℕ) → k L ≤ k (L + m)
  counts_mono L zero = let e : L + 0 ≡ L = omega arith in rw e (le_refl (k L))
  counts_mono L (suc m) =
      let e : L + suc m ≡ suc (L + m) = omega arith in
      rw e (⊎_elim (λ q. omega (arith, q, counts_mono L m)) (λ q. omega (arith, q, counts_mono L m)) (next (L + m)))

  module _ (K : ℕ) (c s : List ℕ) (counts : c ≡ table (λ (i : ℕ). k (suc i)) (suc K))
      (pixels : (j : ℕ) → j < k (suc K) → get_or s j 0 ≡ get_or (sums_of S (k (suc K) - 1)) j 0) where
    -- the last length has the pixel rest: behind it there is no count
    last : spread_to c s K ≡ S (k (suc K))
    last =
        let behind : get_or c (suc K) 0 ≡ 0 = get_or-eq_default c 0 (rw counts (omega (arith, length-table (λ (i : ℕ). k (suc i)) (suc K)))) in
        let own = count_at k (suc K) c counts K (le_refl (suc K)) in
        let one : k (suc K) ≡ suc (k (suc K) - 1) = omega (arith, some (suc K)) in
        spread_alone c s K (λ e. absurd (omega (arith, e, behind, own, some (suc K))))
        ∙ ap (λ (n : ℕ). get_or s (n - 1) 0) own
        ∙ pixels (k (suc K) - 1) (omega (arith, some (suc K)))
        ∙ sums-rest S (k (suc K) - 1)
        ∙ ap S (sym one)

    bins : (i : ℕ) → i < K → spread_to c s i ≡ S (k (suc i)) - S (k (suc (suc i)))
    bins i h = go (next (suc i))
      where
        own : get_or c i 0 ≡ k (suc i)
        own = count_at k (suc K) c counts i (omega arith)

        after : get_or c (suc i) 0 ≡ k (suc (suc i))
        after = count_at k (suc K) c counts (suc i) (omega arith)

        go : (k (suc (suc i)) ≡ k (suc i)) ⊎ (k (suc (suc i)) ≡ suc (k (suc i))) → spread_to c s i ≡ S (k (suc i)) - S (k (suc (suc i)))
        go (inl e) = spread_shared c s i (own ∙ sym e ∙ sym after) ∙ rw e (omega arith)
        go (inr e) =
            let one : suc (k (suc i) - 1) ≡ k (suc i) = omega (arith, some (suc i)) in
            let rise : suc (suc i) + (K - suc i) ≡ suc K = omega arith in
            let below : k (suc (suc i)) ≤ k (suc K) = rw rise at (counts_mono (suc (suc i)) (K - suc i)) in
            spread_alone c s i (λ q. absurd (omega (arith, q, own, after, e)))
            ∙ ap (λ (n : ℕ). get_or s (n - 1) 0) own
            ∙ pixels (k (suc i) - 1) (omega (arith, below, e))
            ∙ sums-bin S (k (suc K) - 1) (k (suc i) - 1) (omega (arith, below, e, some (suc i)))
            ∙ rw (one, e)

    pub spread_sums : table (spread_to c s) (suc K) ≡ sums_of (λ (L : ℕ). S (k L)) K
    spread_sums =
        ext_get_or 0 (table (spread_to c s) (suc K)) (sums_of sum K) (omega (arith, length-table (spread_to c s) (suc K), sums-length sum K))
        (λ i l. let h : i < suc K = omega (arith, length-table (spread_to c s) (suc K)) in
        get_d_table 0 (spread_to c s) (suc K) i h ∙ ⊎_elim (λ b. bins i b ∙ sym (sums-bin sum K i b)) (λ b. rest i (omega arith)) (less_or_not i K))
      where
        sum : ℕ → ℕ
        sum L = S (k L)

        rest : (i : ℕ) → i ≡ K → spread_to c s i ≡ get_or (sums_of sum K) i 0
        rest i e = rw e (last ∙ sym (sums-rest sum K))

-- ---- the counts of a direction

pub sums-straight : (d : Direction) → is_direction d ≡ true → straight d ≡ true → (S : ℕ → ℕ) (K : ℕ) → sums_of S K ≡ sums_of (λ (L : ℕ). S (pixels_for d L)) K
sums-straight d ok e S K = sums_same S (λ (L : ℕ). S (pixels_for d L)) (λ i. ap S (sym (pixels-straight d ok e (suc i) (omega arith)))) K

module _ (d : Direction) (n : ℕ) (c : List ℕ) (counts : c ≡ counts_to d n) where
  counts-length : length c ≡ n
  counts-length = rw counts (length-table (λ (i : ℕ). pixels_for d (suc i)) n)

  pub counts-measured : Measured c n
  counts-measured =
      record {
        each = counts-length;
        some = λ i h. omega (arith, count_at (pixels_for d) n c counts i h, pixels-some d (suc i));
        most = λ i h. omega (arith, count_at (pixels_for d) n c counts i h, pixels-most d (suc i) (omega arith));
      }

  module _ (some : 1 ≤ n) where
    pub last-count : get_or c (length c - 1) 0 ≡ pixels_for d n
    last-count =
        let e : suc (n - 1) ≡ n = omega arith in
        rw counts-length (count_at (pixels_for d) n c counts (n - 1) (omega arith) ∙ ap (pixels_for d) e)

-- ---- bins and rest by pixels at the front of the slice s, as many as the last length has pixels

module _ (d : Direction) (s c : List ℕ) (most : ℕ) (counts : c ≡ counts_to d (length s)) (some : 1 ≤ length s) (is : most ≡ get_or c (length c - 1) 0) where
  pub counts-fit : (1 ≤ most) × (most ≤ length s)
  counts-fit =
      let last = last-count d (length s) c counts some in
      (omega (arith, is, last, pixels-some d (length s)), omega (arith, is, last, pixels-most d (length s) some))

  pub spread_front : (S : ℕ → ℕ) (p : List ℕ) → p ≡ sums_of S (length (take most s) - 1)
      → table (spread_to c (p ++ drop most s)) (length (p ++ drop most s)) ≡ sums_of (λ (L : ℕ). S (pixels_for d L)) (length s - 1)
  spread_front S p set =
      rw kept
      (ap (table (spread_to c (p ++ drop most s))) entries
      ∙ spread_sums S (pixels_for d) (pixels-some d) (pixels-next d) (length s - 1) c (p ++ drop most s) (counts ∙ ap (counts_to d) entries)
      (λ j h. get_or-append p (drop most s) 0 j (omega (arith, h, last, filled)) ∙ (rw (set, part, last))))
    where
      part : length (take most s) ≡ most
      part = length-take-le most s counts-fit.1

      filled : length p ≡ most
      filled = rw set (omega (arith, sums-length S (length (take most s) - 1), part, counts-fit.0))

      kept : length (p ++ drop most s) ≡ length s
      kept = omega (arith, length-append p (drop most s), length-drop most s, filled, counts-fit.1)

      entries : length s ≡ suc (length s - 1)
      entries = omega (arith, some)

      last : pixels_for d (suc (length s - 1)) ≡ most
      last = ap (pixels_for d) (sym entries) ∙ sym (is ∙ last-count d (length s) c counts some)

-- ---- the counts at the front of an array

pub counts-part : (d : Direction) (n : ℕ) (array counts : List ℕ) → is_direction d ≡ true → 1 ≤ n → n ≤ longest + 1 → n ≤ length array
    → counts ≡ counts_of d (take n array) → counts ≡ counts_to d n
counts-part d n array counts direction some few room counted =
    let part = length-take-le n array room in
    counted ∙ counts_known d (take n array) direction (omega (arith, part)) (omega (arith, part)) ∙ ap (counts_to d) part
