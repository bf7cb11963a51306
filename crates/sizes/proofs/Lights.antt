-- The light of a line's stretches, entry by entry.
--   sound-stretches                             each listed stretch has pixels, and its level is not below its base
--   entry-light                                 the light of the stretches of an entry is that bin, or the rest
--   Adding                                      where the adding of a line stands; adding_start, -sound, -more, -end
--   entry-most, adding_modest                   no entry grows too large meanwhile
-- Assumes nothing.
use mathlib.Core.Path.{◌≡◌, refl, sym, ap, ◌∙◌}
use mathlib.Core.Bool.{Bool, true, false, cond}
use mathlib.Core.List.{List, [], ◌∷◌}
use mathlib.Core.Logic.{⊎_elim}
use Prim.Native.Nat.{ℕ, zero, suc, ◌+◌, ◌-◌, ◌*◌, ◌≤◌, ◌<◌, ◌^◌, zero-le}
use native.Mathlib.Nat.{zero-mul}
use native.Mathlib.Omega.{arith}
use lib.Dec.{ltb, eqb}
use lib.ListN.{length, get_or, set, length-set, drop_of_length-le, get_or-eq_default}
use lib.Seq.{drop-cons, get_or-set_same, get_or-set_other}
use borrow.Author.Tests.{ltb-true, ltb-false, eq-eqb, ne_eqb, eqb-true, eqb-false}
use Rattle.lists.specs.Members.{All}
use Rattle.lists.specs.Extremes.{greatest}
use Rattle.lists.proofs.Cases.{less_or_not}
use Rattle.lists.proofs.Extremes.{greatest-append}
use Rattle.answer.specs.Limits.{longest}
use Rattle.lists.proofs.Totals.{entry-total, total-most}
use Rattle.bright.specs.declared.Stretch.{Stretch}
use Rattle.bright.specs.Stretches.{before, behind, level_of, base_of, stretch_of, stretches, Bright, long}
use Rattle.bright.proofs.Listed.{all_intro}
use Rattle.bridge.specs.Sums.{sum_for, light, light_of}
use Rattle.bridge.proofs.Sizes.{bin-stretches, rest-stretches}
use Rattle.sizes.specs.Sums.{line_sums}
use Rattle.sizes.specs.Steps.{entry_of, lit, entry_light, Sound, Modest, Adds}
use Rattle.sizes.proofs.Bins.{sums-length, sums-bin, sums-rest, line-total}

-- ---- each stretch of the list

module _ (f : List ℕ) (a b : ℕ) (s : Bright f a b) where
  before_le : (a' : ℕ) → a ≡ a' → greatest (before f a') ≤ level_of f a b
  unfolding greatest
  before_le zero e = zero-le
  before_le (suc j) e = omega (arith, s.left j e)

  behind_le : greatest (behind f b) ≤ level_of f a b
  unfolding greatest
  behind_le = ⊎_elim some none (less_or_not b (length f))
    where
      some : b < length f → greatest (behind f b) ≤ level_of f a b
      some h = rw (drop-cons f b 0 h) (omega (arith, s.right h))

      none : length f ≤ b → greatest (behind f b) ≤ level_of f a b
      none h = rw (drop_of_length-le f h) zero-le

  base_le : base_of f a b ≤ level_of f a b
  base_le = omega (arith, greatest-append (before f a) (behind f b), before_le a refl, behind_le)

pub sound-stretches : (f : List ℕ) → length f ≤ longest → All Sound (stretches f)
unfolding stretch_of
sound-stretches f h = all_intro Sound f (λ a b s. record { some = s.some; fits = omega (arith, s.inside); above = base_le f a b s })

-- ---- the stretches of an entry

-- a stretch without pixels has no light, so that only lengths from 1 on matter
light-same : (p q : ℕ → Bool) → ((l : ℕ) → p (suc l) ≡ q (suc l)) → (ss : List Stretch) → light_of p ss ≡ light_of q ss
unfolding light_of
light-same p q e [] = refl
light-same p q e (s ∷ ss) = omega (arith, go (long s), light-same p q e ss)
  where
    dark : (t : Bool) (x : ℕ) → cond t (0 * x) 0 ≡ 0
    dark true x = zero-mul x
    dark false x = refl

    go : (l : ℕ) → cond (p l) (l * (s.level - s.base)) 0 ≡ cond (q l) (l * (s.level - s.base)) 0
    go zero = dark (p 0) (s.level - s.base) ∙ sym (dark (q 0) (s.level - s.base))
    go (suc l) = ap (λ (t : Bool). cond t (suc l * (s.level - s.base)) 0) (e l)

bin-test : (K j l : ℕ) → j < K → eqb (entry_of K (suc l)) j ≡ eqb (suc l) (suc j)
bin-test K j l h = go (eqb (suc l) (suc j)) refl
  where
    go : (t : Bool) → eqb (suc l) (suc j) ≡ t → eqb (entry_of K (suc l)) j ≡ t
    go true e = eq-eqb (entry_of K (suc l)) j (omega (arith, eqb-true (suc l) (suc j) e))
    go false e = ne_eqb (entry_of K (suc l)) j (λ z. omega (arith, eqb-false (suc l) (suc j) e))

rest-test : (K l : ℕ) → eqb (entry_of K (suc l)) K ≡ ltb K (suc l)
rest-test K l = go (ltb K (suc l)) refl
  where
    go : (t : Bool) → ltb K (suc l) ≡ t → eqb (entry_of K (suc l)) K ≡ t
    go true e = eq-eqb (entry_of K (suc l)) K (omega (arith, ltb-true K (suc l) e))
    go false e = ne_eqb (entry_of K (suc l)) K (λ z. omega (arith, ltb-false K (suc l) e))

pub entry-light : (f : List ℕ) (K j : ℕ) → j ≤ K → entry_light K j (stretches f) ≡ get_or (line_sums f K) j 0
entry-light f K j h = ⊎_elim bin rest (less_or_not j K)
  where
    bin : j < K → entry_light K j (stretches f) ≡ get_or (line_sums f K) j 0
    bin l =
        light-same (λ (l : ℕ). eqb (entry_of K l) j) (λ (l : ℕ). eqb l (suc j)) (λ i. bin-test K j i l) (stretches f)
        ∙ sym (bin-stretches f (suc j) (omega arith))
        ∙ sym (sums-bin (sum_for f) K j l)

    rest : K ≤ j → entry_light K j (stretches f) ≡ get_or (line_sums f K) j 0
    rest l =
        let e : j ≡ K = omega arith in
        rw e
        (light-same (λ (l : ℕ). eqb (entry_of K l) K) (λ (l : ℕ). ltb K l) (rest-test K) (stretches f)
        ∙ sym (rest-stretches f K)
        ∙ sym (sums-rest (sum_for f) K))

-- ---- adding one stretch after the other

-- with the stretches `rest` still to come, the slice s has, entry by entry, what s₀ had and the light of the others
pub record Adding (f s₀ : List ℕ) (rest : List Stretch) (s : List ℕ) : Type 0 where
  pub same : length s ≡ length s₀
  pub split : (j : ℕ) → j < length s₀ → get_or s j 0 + entry_light (length s₀ - 1) j rest ≡ get_or s₀ j 0 + entry_light (length s₀ - 1) j (stretches f)
  pub sound : All Sound rest

module _ (f s₀ : List ℕ) where
  pub adding_start : length f ≤ longest → Adding f s₀ (stretches f) s₀
  adding_start h = record { same = refl; split = λ j l. refl; sound = sound-stretches f h }

  pub adding_sound : (x : Stretch) (rest : List Stretch) (s : List ℕ) → Adding f s₀ (x ∷ rest) s → Sound x
  unfolding All
  adding_sound x rest s g = g.sound.0

  module _ (some : 1 ≤ length s₀) where
    pub adding_more : (x : Stretch) (rest : List Stretch) (s s' : List ℕ) → Adding f s₀ (x ∷ rest) s
        → s' ≡ lit s x → Adding f s₀ rest s'
    unfolding All light_of
    adding_more x rest s s' g e =
        record { same = ap length e ∙ (simp length-set g.same); split = λ j l. omega (arith, g.split j l, at j (eqb i j) refl); sound = g.sound.1 }
      where
        i : ℕ
        i = entry_of (length s₀ - 1) (long x)

        stored : s' ≡ set s i (get_or s i 0 + light x)
        stored = rw g.same at e

        at : (j : ℕ) (t : Bool) → eqb i j ≡ t → get_or s' j 0 ≡ get_or s j 0 + cond (eqb i j) (light x) 0
        at j true t =
            let q : i ≡ j = eqb-true i j t in
            rw (stored, t, ← q) (get_or-set_same s i (get_or s i 0 + light x) 0 (omega (arith, g.same)))
        at j false t = rw (stored, t) (get_or-set_other s i j (get_or s i 0 + light x) 0 (λ z. eqb-false i j t (sym z)) ∙ omega arith)

    pub adding_end : (s : List ℕ) → Adding f s₀ [] s → Adds f s₀ s
    unfolding light_of
    adding_end s g = record { same = g.same; added = λ j. ⊎_elim (inside j) (beyond j) (less_or_not j (length s₀)) }
      where
        inside : (j : ℕ) → j < length s₀ → get_or s j 0 ≡ get_or s₀ j 0 + get_or (line_sums f (length s₀ - 1)) j 0
        inside j l = omega (arith, g.split j l, entry-light f (length s₀ - 1) j (omega arith))

        beyond : (j : ℕ) → length s₀ ≤ j → get_or s j 0 ≡ get_or s₀ j 0 + get_or (line_sums f (length s₀ - 1)) j 0
        beyond j l =
            let k : length (line_sums f (length s₀ - 1)) ≤ j = omega (arith, sums-length (sum_for f) (length s₀ - 1)) in
            let m : length s ≤ j = omega (arith, g.same) in
            rw (get_or-eq_default s 0 m, get_or-eq_default s₀ 0 l, get_or-eq_default (line_sums f (length s₀ - 1)) 0 k)

-- an entry is at most the line's light
pub entry-most : (f : List ℕ) (K j : ℕ) → length f ≤ longest → ((i : ℕ) → get_or f i 0 ≤ 255) → get_or (line_sums f K) j 0 ≤ 2 ^ 20
entry-most f K j h dim = omega (arith, entry-total (line_sums f K) j, line-total f K, total-most f 255 dim)

pub adding_modest : (f s₀ : List ℕ) (rest : List Stretch) (s : List ℕ) → length f ≤ longest → ((i : ℕ) → get_or f i 0 ≤ 255) → Modest s₀
    → Adding f s₀ rest s → (j : ℕ) → get_or s j 0 ≤ 2 ^ 63
adding_modest f s₀ rest s h dim modest g j = ⊎_elim inside beyond (less_or_not j (length s₀))
  where
    inside : j < length s₀ → get_or s j 0 ≤ 2 ^ 63
    inside l =
        omega (arith, g.split j l, entry-light f (length s₀ - 1) j (omega arith), modest j, entry-most f (length s₀ - 1) j h dim)

    beyond : length s₀ ≤ j → get_or s j 0 ≤ 2 ^ 63
    beyond l =
        let m : length s ≤ j = omega (arith, g.same) in
        rw (get_or-eq_default s 0 m) zero-le
