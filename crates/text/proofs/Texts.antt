-- The sums text and its three parts.
--   sums-length, sums_most    how long the text is, and how long at most
--   sums-put                  its parts put one behind the other
--   put_front                 a text put at the front of a destination
--   sums_example              document 01's example of the program sums
-- Assumes nothing.
use mathlib.Core.Path.{◌≡◌, refl, ◌∙◌}
use mathlib.Core.List.{List, [], ◌∷◌, ◌++◌}
use Prim.Native.Nat.{ℕ, ◌+◌, ◌-◌, ◌*◌, ◌≤◌}
use native.Mathlib.Omega.{arith}
use lib.ListN.{length, length-append}
use Rattle.lists.specs.Stores.{front}
use Rattle.lists.specs.Tables as tables
use Rattle.text.specs.Decimal.{digits}
use Rattle.text.specs.Lines.{fields_text, line_text, Puts}
use Rattle.text.specs.Sums.{head_fields, bin_fields, rest_fields, bins_text, sums_text}
use Rattle.text.proofs.Runs.{puts_join, sets_front, line_most, each_most}

module _ (d : ℕ) (s : List ℕ) where
  pub sums-put : {t t₁ t₂ t₃ : List ℕ} {at r₁ r₂ r₃ : ℕ} → Puts t at (line_text 71 (head_fields d s)) t₁ r₁ → Puts t₁ r₁ (bins_text s (length s - 1)) t₂ r₂
      → Puts t₂ r₂ (line_text 84 (rest_fields s)) t₃ r₃ → Puts t at (sums_text d s) t₃ r₃
  unfolding sums_text
  sums-put p q r = puts_join p (puts_join q r)

  pub sums-length : length (sums_text d s) ≡ length (line_text 71 (head_fields d s)) + length (bins_text s (length s - 1)) + length (line_text 84 (rest_fields s))
  unfolding sums_text
  sums-length =
      let bins = bins_text s (length s - 1) in
      let rest = line_text 84 (rest_fields s) in
      omega (arith, length-append (line_text 71 (head_fields d s)) (bins ++ rest), length-append bins rest)

  pub sums_most : length (sums_text d s) ≤ 67 + (length s - 1) * 44
  sums_most =
      let bins = each_most (λ (i : ℕ). line_text 66 (bin_fields s i)) 44 (length s - 1) (λ i. line_most 66 (bin_fields s i)) in
      omega (arith, sums-length, line_most 71 (head_fields d s), bins, line_most 84 (rest_fields s))

pub put_front : {t bs t' : List ℕ} {r : ℕ} → Puts t 0 bs t' r → length bs ≤ length t → t' ≡ front bs t
put_front {t} {bs} p fit = p.wrote ∙ sets_front t bs fit

-- 'it prints' G 0 3, B 1 2, B 2 4, B 3 3, T 10
pub sums_example : sums_text 0 (2 ∷ 4 ∷ 3 ∷ 10 ∷ []) ≡
    71 ∷ 9 ∷ 48 ∷ 9 ∷ 51 ∷ 10
    ∷ 66 ∷ 9 ∷ 49 ∷ 9 ∷ 50 ∷ 10
    ∷ 66 ∷ 9 ∷ 50 ∷ 9 ∷ 52 ∷ 10
    ∷ 66 ∷ 9 ∷ 51 ∷ 9 ∷ 51 ∷ 10
    ∷ 84 ∷ 9 ∷ 49 ∷ 48 ∷ 10 ∷ []
unfolding sums_text fields_text digits tables.each
sums_example = refl
