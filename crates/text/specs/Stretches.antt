-- What the program stretches prints of a line, and what both programs print of a refusal (document 01, 'The two programs').
--   signed_text z          a line number as text
--   title_text z n         the `L` line of the line z, which has n pixels
--   stretch_fields s       the five numbers of a record
--   stretches_text ss      the `Z` lines of the records ss
--   line_report z f        the text of the line z, whose pixels are f
--   refusal_text n         the text of the refusal n
--   is_printable z f room  the line z, whose pixels are f, has at most 4,096, and its text has room in `room` bytes
--   Prints ok t dst dst' r      where ok holds, the text t stands at the front of dst' and r is how many bytes it has; else r is 0 and nothing changes
--   PrintsLine z f dst dst' r, PrintsRefusal n dst dst' r    that of the line z, and of the refusal n
-- Laws: text/proofs/Reports.
use Rattle.std.specs.Prelude.{◌≡◌, Bool, cond, ◌&&◌, List, [], ◌∷◌, ◌++◌, ℕ, leb, ℤ, pos, nat_abs, length}
use Rattle.std.specs.Int.Signed.{lt_z}
use Rattle.lists.specs.Stores.{front}
use Rattle.answer.specs.Limits.{longest}
use Rattle.bright.specs.declared.Nested.{Nested}
use Rattle.bright.specs.Stretches.{stretches}
use Rattle.bright.specs.Nesting.{records}
use Rattle.text.specs.Decimal.{decimal}
use Rattle.text.specs.Lines.{tab, feed, line_text}

-- 'only a line number may have a minus sign'
abbrev pub signed_text : ℤ → List ℕ
signed_text z = cond (lt_z z (pos 0)) (45 ∷ decimal (nat_abs z)) (decimal (nat_abs z))

-- '`L`, line number, pixel count'
unfoldable pub title_text : ℤ → ℕ → List ℕ
title_text z n = (76 ∷ tab ∷ []) ++ (signed_text z ++ ((tab ∷ decimal n) ++ (feed ∷ [])))

-- 'its `Z` lines: start, end, level, base', and of the fifth number (document 02, order 1): '`Z` lines gain it as their last field'
abbrev pub stretch_fields : Nested → List ℕ
stretch_fields s = s.stretch.start ∷ s.stretch.end ∷ s.stretch.level ∷ s.stretch.base ∷ s.encloser ∷ []

unfoldable pub stretches_text : List Nested → List ℕ
stretches_text [] = []
stretches_text (s ∷ ss) = line_text 90 (stretch_fields s) ++ stretches_text ss

unfoldable pub line_report : ℤ → List ℕ → List ℕ
line_report z f = title_text z (length f) ++ stretches_text (records (stretches f))

-- 'A refusal prints `E` and the number only.'
abbrev pub refusal_text : ℕ → List ℕ
refusal_text n = line_text 69 (n ∷ [])

-- a line of at most 4,096 pixels, whose text has room
abbrev pub is_printable : ℤ → List ℕ → ℕ → Bool
is_printable z f room = leb (length f) longest && leb (length (line_report z f)) room

pub record Prints (ok : Bool) (t dst dst' : List ℕ) (r : ℕ) : Type 0 where
  pub bytes : r ≡ cond ok (length t) 0
  pub written : dst' ≡ cond ok (front t dst) dst

pub record PrintsLine (z : ℤ) (f dst dst' : List ℕ) (r : ℕ) : Type 0 where
  pub text : Prints (is_printable z f (length dst)) (line_report z f) dst dst' r

pub record PrintsRefusal (n : ℕ) (dst dst' : List ℕ) (r : ℕ) : Type 0 where
  pub text : Prints (leb (length (refusal_text n)) (length dst)) (refusal_text n) dst dst' r
