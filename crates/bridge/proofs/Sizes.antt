-- The size sums of one line from its stretches.
--   sum-stretches       the sum for a length is the light of the stretches at least that long
--   bin-stretches       the bin for a length is the light of those just that long
--   rest-stretches      the rest is the light of those longer than K
--   sums-whole          bins and rest together are the total of the pixels
-- At each pixel the stretches that hold it rise over their bases to its opening (Chain, Openings); summed over the pixels that is length × rise of each stretch.
-- Assumes nothing.
use mathlib.Core.Path.{◌≡◌, refl, sym, ap, ◌∙◌}
use mathlib.Core.Bool.{Bool, true, false, cond, ◌&&◌}
use mathlib.Core.List.{List, [], ◌∷◌, ◌++◌}
use Prim.Native.Nat.{ℕ, zero, suc, ◌+◌, ◌-◌, ◌*◌, ◌≤◌, ◌<◌, min}
use native.Mathlib.Nat.{le_refl, suc-mul, mul-zero, zero-mul}
use native.Mathlib.Omega.{arith}
use lib.Dec.{ltb, leb, eqb}
use lib.ListN.{length, get_or}
use borrow.Author.Tests.{ltb-true, ltb-false, le-leb, lt-leb, leb-true, leb-false, eqb-true, eqb-false}
use Rattle.lists.specs.Tables.{each, keep, table}
use Rattle.lists.specs.Members.{All}
use Rattle.lists.specs.Extremes.{total}
use Rattle.lists.proofs.Tables.{table_same, table-by}
use Rattle.lists.proofs.Extremes.{total-table, total_add, total-zero}
use Rattle.line.specs.Windows.{opened_at, opened}
use Rattle.bright.specs.declared.Stretch.{Stretch}
use Rattle.bright.specs.Stretches.{stretch_of, stretches, long}
use Rattle.bright.proofs.Listed.{all_intro}
use Rattle.bridge.specs.Reach.{in_stretch}
use Rattle.bridge.specs.Sums.{sum_for, bin_for, rest_for, light, light_of}
use Rattle.bridge.proofs.Chain.{holders, gain_of, holders-chain, gain_whole, gain_reaching}
use Rattle.bridge.proofs.Openings.{opened-at-stretches}

total-same : (g h : ℕ → ℕ) (n : ℕ) → ((i : ℕ) → i < n → g i ≡ h i) → total (table g n) ≡ total (table h n)
total-same g h n e = ap total (table_same g h n e)

-- c at each of a to b − 1
abbrev within : ℕ → ℕ → ℕ → ℕ → ℕ
within a b c x = cond (leb a x && ltb x b) c 0

total-within : (n a b c : ℕ) → a ≤ b → total (table (within a b c) n) ≡ (min n b - min n a) * c
unfolding each total
total-within zero a b c h =
    let e : min 0 b - min 0 a ≡ 0 = omega arith in
    rw e (sym (zero-mul c))
total-within (suc n) a b c h = total-table (within a b c) n ∙ go (leb a n) refl (ltb n b) refl (total-within n a b c h)
  where
    go : (t : Bool) → leb a n ≡ t → (u : Bool) → ltb n b ≡ u → total (table (within a b c) n) ≡ (min n b - min n a) * c
        → total (table (within a b c) n) + within a b c n ≡ (min (suc n) b - min (suc n) a) * c
    go true t true u ih =
        let e : min (suc n) b - min (suc n) a ≡ suc (min n b - min n a) = omega (arith, leb-true a n t, ltb-true n b u) in
        rw (t, u, e) (omega (arith, ih, suc-mul (min n b - min n a) c))
    go true t false u ih =
        let e : min (suc n) b - min (suc n) a ≡ min n b - min n a = omega (arith, leb-true a n t, ltb-false n b u) in
        rw (t, u, e) (omega (arith, ih))
    go false t u w ih =
        let e : min (suc n) b - min (suc n) a ≡ min n b - min n a = omega (arith, leb-false a n t) in
        rw (t, e) (omega (arith, ih))

-- ---- the pixels' gains, summed, are the stretches' light

-- what a stretch adds at each of its pixels, from a length on
abbrev rise : ℕ → Stretch → ℕ
rise L s = cond (leb L (long s)) (s.level - s.base) 0

abbrev Fits : ℕ → Stretch → Type 0
Fits n s = (s.start ≤ s.end) × (s.end ≤ n)

gain_cons : (L x : ℕ) (s : Stretch) (ss : List Stretch) → gain_of L (holders x (s ∷ ss)) ≡ within s.start s.end (rise L s) x + gain_of L (holders x ss)
unfolding gain_of holders
gain_cons L x s ss = go (in_stretch x s)
  where
    go : (t : Bool) → gain_of L (keep t s ++ holders x ss) ≡ cond t (rise L s) 0 + gain_of L (holders x ss)
    go true = refl
    go false = omega arith

rise-light : (L : ℕ) (s : Stretch) → long s * rise L s ≡ cond (leb L (long s)) (light s) 0
rise-light L s = go (leb L (long s))
  where
    go : (t : Bool) → long s * cond t (s.level - s.base) 0 ≡ cond t (light s) 0
    go true = refl
    go false = mul-zero (long s)

gain_total : (n L : ℕ) (ss : List Stretch) → All (Fits n) ss → total (table (λ (x : ℕ). gain_of L (holders x ss)) n) ≡ light_of (λ (k : ℕ). leb L k) ss
unfolding light_of All gain_of holders
gain_total n L [] a = total-zero n
gain_total n L (s ∷ ss) a =
    let e : min n s.end - min n s.start ≡ long s = omega (arith, a.0.0, a.0.1) in
    let p : total (table (within s.start s.end (rise L s)) n) ≡ cond (leb L (long s)) (light s) 0 =
    total-within n s.start s.end (rise L s) a.0.0 ∙ rw e (rise-light L s) in
    total-same (λ (x : ℕ). gain_of L (holders x (s ∷ ss))) (λ (x : ℕ). within s.start s.end (rise L s) x + gain_of L (holders x ss)) n (λ x l. gain_cons L x s ss)
    ∙ total_add (within s.start s.end (rise L s)) (λ (x : ℕ). gain_of L (holders x ss)) n
    ∙ omega (arith, p, gain_total n L ss a.1)

fitting : (f : List ℕ) → All (Fits (length f)) (stretches f)
unfolding stretch_of
fitting f = all_intro (Fits (length f)) f (λ a b s. (omega (arith, s.some), s.inside))

-- ---- the sums

pub sum-stretches : (f : List ℕ) (L : ℕ) → 1 ≤ L → sum_for f L ≡ light_of (λ (k : ℕ). leb L k) (stretches f)
unfolding opened
sum-stretches f L h =
    total-same (λ (x : ℕ). opened_at f L x) (λ (x : ℕ). gain_of L (holders x (stretches f))) (length f)
    (λ x l. opened-at-stretches f L x h ∙ sym (gain_reaching f L x l))
    ∙ gain_total (length f) L (stretches f) (fitting f)

light-split : (L : ℕ) (ss : List Stretch) → light_of (λ (k : ℕ). leb L k) ss ≡ light_of (λ (k : ℕ). eqb k L) ss + light_of (λ (k : ℕ). leb (suc L) k) ss
unfolding light_of
light-split L [] = refl
light-split L (s ∷ ss) = go (leb (suc L) (long s)) refl (eqb (long s) L) refl (light-split L ss)
  where
    go : (t : Bool) → leb (suc L) (long s) ≡ t → (u : Bool) → eqb (long s) L ≡ u
        → light_of (λ (k : ℕ). leb L k) ss ≡ light_of (λ (k : ℕ). eqb k L) ss + light_of (λ (k : ℕ). leb (suc L) k) ss
        → cond (leb L (long s)) (light s) 0 + light_of (λ (k : ℕ). leb L k) ss
        ≡ cond u (light s) 0 + light_of (λ (k : ℕ). eqb k L) ss + (cond t (light s) 0 + light_of (λ (k : ℕ). leb (suc L) k) ss)
    go true t true u ih = absurd (omega (arith, leb-true (suc L) (long s) t, eqb-true (long s) L u))
    go true t false u ih = rw (le-leb L (long s) (omega (arith, leb-true (suc L) (long s) t))) (omega (arith, ih))
    go false t true u ih = rw (le-leb L (long s) (omega (arith, eqb-true (long s) L u))) (omega (arith, ih))
    go false t false u ih =
        let q : long s < L = omega (arith, leb-false (suc L) (long s) t, eqb-false (long s) L u) in
        rw (lt-leb L (long s) q) (omega (arith, ih))

-- the sum for a length is its bin and the sum for the next
sum-next : (f : List ℕ) (L : ℕ) → 1 ≤ L → sum_for f L ≡ light_of (λ (k : ℕ). eqb k L) (stretches f) + sum_for f (suc L)
sum-next f L h = omega (arith, sum-stretches f L h, sum-stretches f (suc L) (omega arith), light-split L (stretches f))

pub bin-stretches : (f : List ℕ) (L : ℕ) → 1 ≤ L → bin_for f L ≡ light_of (λ (k : ℕ). eqb k L) (stretches f)
bin-stretches f L h = omega (arith, sum-next f L h)

pub rest-stretches : (f : List ℕ) (K : ℕ) → rest_for f K ≡ light_of (λ (k : ℕ). ltb K k) (stretches f)
rest-stretches f K = sum-stretches f (suc K) (omega arith)

-- the sum for length 1 is the total of the pixels
sum_one : (f : List ℕ) → sum_for f 1 ≡ total f
unfolding opened
sum_one f =
    total-same (λ (x : ℕ). opened_at f 1 x) (λ (x : ℕ). get_or f x 0) (length f)
    (λ x l. opened-at-stretches f 1 x (le_refl 1) ∙ sym (gain_reaching f 1 x l)
    ∙ (gain_whole 1 (get_or f x 0) x (suc x) (holders x (stretches f)) (omega arith) (holders-chain f x l)).0)
    ∙ ap total (sym (table-by 0 f (λ (x : ℕ). get_or f x 0) (length f) refl (λ x l. refl)))

pub sums-whole : (f : List ℕ) (K : ℕ) → total (table (λ (i : ℕ). bin_for f (suc i)) K) + rest_for f K ≡ total f
unfolding each total
sums-whole f zero = omega (arith, sum_one f)
sums-whole f (suc K) =
    omega (arith, total-table (λ (i : ℕ). bin_for f (suc i)) K, sum-next f (suc K) (omega arith), sums-whole f K)
