-- What is printed of a line and of a refusal.
--   signed_most                  how long a line number is at most
--   title_put, title_length, title_most    the parts of the `L` line, put one behind the other; how long it is, and how long at most
--   stretches-cons, stretches-none         the `Z` lines, with the first apart; none
--   stretches-most                         how long they are at most
--   report_put, report_length, report_fits the `L` line and the `Z` lines; how long they are; 64 bytes, and 107 a pixel, are room for them; report_some: there are some
--   printable, too_long, no_room           a line of at most 4,096 pixels whose text has room; one with more pixels; one whose text has no room
--   refusal_is, refusal-length   the text of a refusal; how long it is
--   prints_done, prints_none     a text put at the front, or none
--   line_example                 document 01's example of the program stretches, with the fifth numbers
-- Assumes nothing.
use mathlib.Core.Path.{◌≡◌, refl, ap, ◌∙◌}
use mathlib.Core.Bool.{Bool, true, false, cond}
use mathlib.Core.List.{List, [], ◌∷◌, ◌++◌, append-nil}
use mathlib.Core.Logic.{⊎_elim}
use Prim.Native.Nat.{ℕ, ◌+◌, ◌*◌, ◌≤◌, ◌<◌, zero-le}
use native.Mathlib.Omega.{arith}
use lib.IntN.{ℤ, pos, nat_abs}
use lib.ListN.{length, length-append}
use lib.Signed.{lt_z}
use borrow.Author.Tests.{lt-leb, le-leb}
use Rattle.lists.specs.Tables as tables
use Rattle.lists.specs.Extremes as extremes
use Rattle.lists.proofs.Cases.{less_or_not}
use Rattle.answer.specs.Limits.{longest}
use Rattle.bright.specs.declared.Nested.{Nested}
use Rattle.bright.specs.Stretches as bright
use Rattle.bright.specs.Nesting as nesting
use Rattle.bright.proofs.Counting.{stretches-few}
use Rattle.bright.proofs.Records.{records-length}
use Rattle.text.specs.Decimal.{digits, decimal}
use Rattle.text.specs.Lines.{tab, feed, fields_text, line_text, Puts}
use Rattle.text.specs.Stretches.{signed_text, title_text, stretch_fields, stretches_text, line_report, refusal_text, is_printable, Prints}
use Rattle.text.proofs.Decimals.{decimal-most}
use Rattle.text.proofs.Runs.{puts_join, fields_most}
use Rattle.text.proofs.Texts.{put_front}

most_signed : (n : ℕ) (b : Bool) → length (cond b (45 ∷ decimal n) (decimal n)) ≤ 21
most_signed n true = omega (arith, decimal-most n)
most_signed n false = omega (arith, decimal-most n)

pub signed_most : (z : ℤ) → length (signed_text z) ≤ 21
signed_most z = most_signed (nat_abs z) (lt_z z (pos 0))

module _ (z : ℤ) (n : ℕ) where
  pub title_length : length (title_text z n) ≡ 3 + length (signed_text z) + length (tab ∷ decimal n)
  unfolding title_text
  title_length =
      length-append (76 ∷ tab ∷ []) (signed_text z ++ ((tab ∷ decimal n) ++ (feed ∷ [])))
      ∙ omega (arith, length-append (signed_text z) ((tab ∷ decimal n) ++ (feed ∷ [])), length-append (tab ∷ decimal n) (feed ∷ []))

  pub title_most : length (title_text z n) ≤ 64
  title_most = omega (arith, title_length, signed_most z, decimal-most n)

  pub title_put : {d d₁ d₂ d₃ d₄ : List ℕ} {r₁ r₂ r₃ r₄ : ℕ} → Puts d 0 (76 ∷ tab ∷ []) d₁ r₁ → Puts d₁ r₁ (signed_text z) d₂ r₂ → Puts d₂ r₂ (tab ∷ decimal n) d₃ r₃
      → Puts d₃ r₃ (feed ∷ []) d₄ r₄ → Puts d 0 (title_text z n) d₄ r₄
  unfolding title_text
  title_put p q r s = puts_join p (puts_join q (puts_join r s))

stretch-most : (ss : List Nested) → length (stretches_text ss) ≤ 107 * length ss
unfolding stretches_text
stretch-most [] = zero-le
stretch-most (s ∷ ss) =
    omega (arith, length-append (line_text 90 (stretch_fields s)) (stretches_text ss), length-append (fields_text (stretch_fields s)) (feed ∷ []), fields_most (stretch_fields s), stretch-most ss)

pub stretches-cons : (s : Nested) (ss : List Nested) → stretches_text (s ∷ ss) ≡ line_text 90 (stretch_fields s) ++ stretches_text ss
unfolding stretches_text
stretches-cons s ss = refl

pub stretches-none : stretches_text [] ≡ []
unfolding stretches_text
stretches-none = refl

pub stretches-most : (f : List ℕ) → length (stretches_text (nesting.records (bright.stretches f))) ≤ 107 * length f
stretches-most f = omega (arith, stretch-most (nesting.records (bright.stretches f)), records-length (bright.stretches f), stretches-few f)

module _ (z : ℤ) (f : List ℕ) where
  pub report_length : length (line_report z f) ≡ length (title_text z (length f)) + length (stretches_text (nesting.records (bright.stretches f)))
  unfolding line_report
  report_length = length-append (title_text z (length f)) (stretches_text (nesting.records (bright.stretches f)))

  pub report_put : {d d₁ d₂ : List ℕ} {r₁ r₂ : ℕ} → Puts d 0 (title_text z (length f)) d₁ r₁ → Puts d₁ r₁ (stretches_text (nesting.records (bright.stretches f))) d₂ r₂ → Puts d 0 (line_report z f) d₂ r₂
  unfolding line_report
  report_put p q = puts_join p q

  pub report_fits : length (line_report z f) ≤ 64 + 107 * length f
  report_fits = omega (arith, report_length, title_most z (length f), stretches-most f)

  pub report_some : 0 < length (line_report z f)
  report_some = omega (arith, report_length, title_length z (length f))

  module _ (room : ℕ) where
    pub printable : length f ≤ longest → length (line_report z f) ≤ room → is_printable z f room ≡ true
    printable short fit = simp (le-leb _ _ short, le-leb _ _ fit)

    pub too_long : longest < length f → is_printable z f room ≡ false
    too_long long = simp (lt-leb _ _ long)

    pub no_room : room < length (line_report z f) → is_printable z f room ≡ false
    no_room small = ⊎_elim too_long (λ short. simp (le-leb (length f) longest short, lt-leb _ _ small)) (less_or_not longest (length f))

pub refusal_is : (n : ℕ) → refusal_text n ≡ 69 ∷ tab ∷ (decimal n ++ (feed ∷ []))
unfolding fields_text
refusal_is n = ap (λ (l : List ℕ). 69 ∷ tab ∷ (l ++ (feed ∷ []))) (append-nil (decimal n))

pub refusal-length : (n : ℕ) → length (refusal_text n) ≡ 3 + length (decimal n)
refusal-length n = omega (arith, ap length (refusal_is n), length-append (decimal n) (feed ∷ []))

pub prints_done : {ok : Bool} {t dst dst' : List ℕ} {r : ℕ} → ok ≡ true → Puts dst 0 t dst' r → length t ≤ length dst → Prints ok t dst dst' r
prints_done {ok} {t} {dst} {dst'} {r} e p fit = rw e (record { bytes = omega (arith, p.next); written = put_front p fit })

pub prints_none : {ok : Bool} (t dst : List ℕ) → ok ≡ false → Prints ok t dst dst 0
prints_none t dst e = rw e (record { bytes = refl; written = refl })

-- 'it prints' L 0 5, Z 1 3 5 3, Z 0 3 3 2, Z 4 5 4 2, Z 0 5 2 0; the last fields are 1, 3, 3 and 3
pub line_example : line_report (pos 0) (3 ∷ 5 ∷ 5 ∷ 2 ∷ 4 ∷ []) ≡
    76 ∷ 9 ∷ 48 ∷ 9 ∷ 53 ∷ 10
    ∷ 90 ∷ 9 ∷ 49 ∷ 9 ∷ 51 ∷ 9 ∷ 53 ∷ 9 ∷ 51 ∷ 9 ∷ 49 ∷ 10
    ∷ 90 ∷ 9 ∷ 48 ∷ 9 ∷ 51 ∷ 9 ∷ 51 ∷ 9 ∷ 50 ∷ 9 ∷ 51 ∷ 10
    ∷ 90 ∷ 9 ∷ 52 ∷ 9 ∷ 53 ∷ 9 ∷ 52 ∷ 9 ∷ 50 ∷ 9 ∷ 51 ∷ 10
    ∷ 90 ∷ 9 ∷ 48 ∷ 9 ∷ 53 ∷ 9 ∷ 50 ∷ 9 ∷ 48 ∷ 9 ∷ 51 ∷ 10 ∷ []
unfolding line_report title_text stretches_text fields_text digits nesting.records nesting.shortest bright.stretches bright.ending_at bright.is_stretch bright.stretch_of bright.level_of extremes.least extremes.greatest tables.each
line_example = refl
