-- Lines of text (document 01, 'The two programs').
--   tab, feed              the bytes that part fields and end a line
--   fields_text vs         the numbers vs, each after a tab
--   line_text letter vs    a line: its letter, its fields and the line feed
--   HasRoom d at n            n bytes from `at` on all have a place in d; or d has no bytes, and they are only counted
--   Puts d at bs d' r      d' is d with the bytes bs stored from `at` on, and r is the place behind them
-- Laws: text/proofs/Runs.
use Rattle.std.specs.Prelude.{◌≡◌, List, [], ◌∷◌, ◌++◌, ℕ, ◌+◌, ◌^◌, ◌≤◌, ◌<◌, length}
use Rattle.std.proofs.lemmas.List.Edits.{sets}
use Rattle.text.specs.Decimal.{decimal}

abbrev pub tab : ℕ
tab = 9

abbrev pub feed : ℕ
feed = 10

-- 'Lines of text, fields parted by one tab, each line ended by a line feed.'
unfoldable pub fields_text : List ℕ → List ℕ
fields_text [] = []
fields_text (v ∷ vs) = (tab ∷ decimal v) ++ fields_text vs

abbrev pub line_text : ℕ → List ℕ → List ℕ
line_text letter vs = letter ∷ (fields_text vs ++ (feed ∷ []))

-- a text is put where all of it has room, or into no bytes at all, which measures it
abbrev pub HasRoom : List ℕ → ℕ → ℕ → Type 0
HasRoom d at n = (at + n < 2 ^ 64) × (0 < length d → at + n ≤ length d)

pub record Puts (d : List ℕ) (at : ℕ) (bs d' : List ℕ) (r : ℕ) : Type 0 where
  pub next : r ≡ at + length bs
  pub wrote : d' ≡ sets d at bs
