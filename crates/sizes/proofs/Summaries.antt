-- Totals by weights, and the summary case by case.
--   weighed-more, weighed-part      one entry more of a total by weights; a part's is no more
--   weighed-one, weighed-lengths    such a total with the weight 1, and with the lengths
--   exact, float_back               a whole number that is cast to a float and loses nothing: it comes back unchanged
--   quotient_rounded                a quotient is the fraction of the two whole numbers, rounded once
--   summary_outside, -dark, -large, -heavy, -done    the ways out of `summarize`
-- Assumes nothing.
use mathlib.Core.Path.{◌≡◌, refl, sym, ap, ap₂, ◌∙◌}
use mathlib.Core.Bool.{true, false, or-true}
use mathlib.Core.List.{List, [], ◌∷◌}
use Prim.Native.Nat.{ℕ, zero, suc, ◌+◌, ◌*◌, ◌≤◌, ◌<◌, zero-le}
use native.Mathlib.Nat.{not-suc-le-zero, le_of_suc-le-suc, add-zero, zero-mul, add_comm, mul_comm, mul_assoc, mul-one, mul-pos}
use native.Mathlib.Numerals.{add-one}
use native.Mathlib.Omega.{arith}
use lib.Dec.{T, le→leb}
use lib.IntN.{pos}
use lib.Ieee.{Float, nan, inf, fin, binary64, up, down, round, of_int, div, to_unsigned, in_float}
use lib.Ieee.Back.{round_whole, unsigned_back}
use lib.Ieee.Exact.{HasValue}
use lib.Ieee.Fits.{down_pos}
use lib.Ieee.Scale.{round_same}
use lib.ListN.{length, get_or, take}
use borrow.Author.Tests.{lt-ltb, le-ltb, eq-eqb, ne_eqb}
use Rattle.lists.specs.Extremes.{total}
use Rattle.answer.specs.Limits.{longest}
use Rattle.answer.specs.Rules.{outside}
use Rattle.sizes.specs.Steps.{weighed}
use Rattle.sizes.specs.Summary.{bins_of, rest_of, weighted, exactest, float, quotient, refused_by, summary_of}

weighed-next : (w : ℕ → ℕ) (s : List ℕ) (i : ℕ) → i < length s → weighed w (take (i + 1) s) ≡ weighed w (take i s) + get_or s i 0 * w i
unfolding weighed
weighed-next w [] i h = absurd (not-suc-le-zero h)
weighed-next w (x ∷ s) zero h = omega arith
weighed-next w (x ∷ s) (suc i) h =
    let rest = rw add-one at (weighed-next (λ (i : ℕ). w (suc i)) s i (le_of_suc-le-suc h)) in
    rw add-one (omega arith)

pub weighed-more : (w : ℕ → ℕ) (s : List ℕ) (i t x t' : ℕ) → i < length s → t ≡ weighed w (take i s) → x ≡ w i → t' ≡ t + get_or s i 0 * x
    → t' ≡ weighed w (take (i + 1) s)
weighed-more w s i t x t' h sum weight more = more ∙ ap₂ (λ (m n : ℕ). m + get_or s i 0 * n) sum weight ∙ sym (weighed-next w s i h)

pub weighed-part : (w : ℕ → ℕ) (s : List ℕ) (n : ℕ) → weighed w (take n s) ≤ weighed w s
unfolding weighed
weighed-part w s zero = zero-le
weighed-part w [] (suc n) = zero-le
weighed-part w (x ∷ s) (suc n) = omega (arith, weighed-part (λ (i : ℕ). w (suc i)) s n)

weighed_same : (v w : ℕ → ℕ) (s : List ℕ) → ((i : ℕ) → v i ≡ w i) → weighed v s ≡ weighed w s
unfolding weighed
weighed_same v w [] e = refl
weighed_same v w (x ∷ s) e =
    ap₂ (λ (m n : ℕ). x * m + n) (e 0) (weighed_same (λ (i : ℕ). v (suc i)) (λ (i : ℕ). w (suc i)) s (λ i. e (suc i)))

pub weighed-one : (s : List ℕ) → weighed (λ (i : ℕ). 1) s ≡ total s
unfolding weighed total
weighed-one [] = refl
weighed-one (x ∷ s) = omega (arith, weighed-one s)

weighed-from : (k : ℕ) (s : List ℕ) → weighed (λ (i : ℕ). k + i) s ≡ weighted k s
unfolding weighed weighted
weighed-from k [] = refl
weighed-from k (x ∷ s) =
    ap₂ (λ (m n : ℕ). m + n) (ap (λ (n : ℕ). x * n) (add-zero k) ∙ mul_comm x k)
    (weighed_same _ (λ (i : ℕ). suc k + i) s (λ i. omega arith) ∙ weighed-from (suc k) s)

pub weighed-lengths : (s : List ℕ) → weighed (λ (i : ℕ). i + 1) s ≡ weighted 1 s
weighed-lengths s = weighed_same _ (λ (i : ℕ). 1 + i) s (λ i. add_comm i 1) ∙ weighed-from 1 s

pub exact : (n : ℕ) → n ≤ exactest → T (in_float binary64 (pos n))
unfolding in_float
exact n h = le→leb n exactest h

pub float_back : (n : ℕ) → n ≤ exactest → to_unsigned 64 (float n) ≡ n
float_back n h = (unsigned_back binary64 64 n (exact n h) (omega arith)).1

divided : (x y : Float) (a b : ℕ) → HasValue x false a 1 → HasValue y false b 1 → 0 < b → div binary64 x y ≡ round binary64 false a b
unfolding div
divided nan y a b p q some = absurd p
divided (inf s) y a b p q some = absurd p
divided (fin s m e) nan a b p q some = absurd q
divided (fin s m e) (inf t) a b p q some = absurd q
divided (fin s m e) (fin t n d) a b p q some =
    let over : m * up e ≡ a * down e = sym (mul-one (m * up e)) ∙ p.1 in
    let under : n * up d ≡ b * down d = sym (mul-one (n * up d)) ∙ q.1 in
    let lit : 0 < n * up d = rw under (mul-pos some (down_pos d)) in
    let there : n ≡ 0 → ⊥ = λ z. omega (arith, lit, ap (λ (n : ℕ). n * up d) z, zero-mul (up d)) in
    let cross : a * down e * down d * b ≡ a * (b * down d * down e) =
    ap (λ (z : ℕ). z * b) (mul_assoc a (down e) (down d)) ∙ mul_assoc a (down e * down d) b
    ∙ ap (λ (z : ℕ). a * z) (mul_comm (down e * down d) b ∙ ap (λ (z : ℕ). b * z) (mul_comm (down e) (down d)) ∙ sym (mul_assoc b (down d) (down e))) in
    rw (p.0, q.0, ne_eqb n 0 there, over, under)
    (round_same binary64 false (a * down e * down d) (b * down d * down e) a b (mul-pos (mul-pos some (down_pos d)) (down_pos e)) some cross)

pub quotient_rounded : (x y : ℕ) → x ≤ exactest → y ≤ exactest → 0 < y → quotient x y ≡ round binary64 false x y
unfolding of_int
quotient_rounded x y h k some = divided (float x) (float y) x y (round_whole binary64 false x h) (round_whole binary64 false y k) some

-- ---- the ways out

module _ (s : List ℕ) where
  pub summary_outside : outside 2 (longest + 1) (length s) ≡ true → summary_of s ≡ refused_by 4
  unfolding summary_of
  summary_outside h = simp h

  module _ (entries : outside 2 (longest + 1) (length s) ≡ false) where
    pub summary_dark : total (bins_of s) ≡ 0 → summary_of s ≡ refused_by 10
    unfolding summary_of
    summary_dark h = simp (entries, eq-eqb _ _ h)

    module _ (some : total (bins_of s) ≡ 0 → ⊥) where
      pub summary_large : exactest < total (bins_of s) + rest_of s → summary_of s ≡ refused_by 11
      unfolding summary_of
      summary_large h = simp (entries, ne_eqb _ _ some, lt-ltb _ _ h)

      pub summary_heavy : exactest < weighted 1 (bins_of s) → summary_of s ≡ refused_by 11
      unfolding summary_of
      summary_heavy h = simp (entries, ne_eqb _ _ some, lt-ltb _ _ h, or-true)

      pub summary_done : total (bins_of s) + rest_of s ≤ exactest → weighted 1 (bins_of s) ≤ exactest
          → summary_of s ≡ record {
            mean = quotient (weighted 1 (bins_of s)) (total (bins_of s));
            share = quotient (total (bins_of s)) (total (bins_of s) + rest_of s);
            number = 0;
          }
      unfolding summary_of
      summary_done h k = simp (entries, ne_eqb _ _ some, le-ltb _ _ h, le-ltb _ _ k)
