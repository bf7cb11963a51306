-- The marked examples P1 to P12 (document 01, 'Marked examples'), as one table: what a definition computes, beside what the document says; of
-- P7 to P10 with the fifth numbers too (document 02, order 1).
--   Values               what an example is about: pixels' values, stretches, or the pixels of a line
--   Example, _is_        a row of the table
--   marked               the table; P6 and P11 have two rows each
-- Laws: theorems/proofs/Marked.
use Rattle.std.specs.Prelude.{List, [], ◌∷◌, ℕ, ℤ, pos, negsuc}
use Rattle.line.specs.Windows.{eroded, dilated, opened}
use Rattle.frame.specs.Direction.{dir}
use Rattle.frame.specs.Shape.{shape}
use Rattle.frame.specs.Lines.{Pixel, at, pixels}
use Rattle.bright.specs.declared.Nested.{Nested}
use Rattle.bright.specs.Stretches.{stretches}
use Rattle.bright.specs.Nesting.{records}

pub data Values : Type 0 where
  grey : List ℕ → Values
  listed : List Nested → Values
  traced : List Pixel → Values

pub record Example : Type 0 where
  pub computed : Values
  pub stated : Values

infixl 5 ◌is◌
abbrev pub ◌is◌ : Values → Values → Example
a is b = record { computed = a; stated = b }

-- 'Line 3 5 5 2 4'
abbrev pub line : List ℕ
line = 3 ∷ 5 ∷ 5 ∷ 2 ∷ 4 ∷ []

-- 'Stretches as start, end, level, base', and the place of the encloser
abbrev pub s : ℕ → ℕ → ℕ → ℕ → ℕ → Nested
s a b l u e = record { stretch = record { start = a; end = b; level = l; base = u }; encloser = e }

-- 'On 4 by 2': the pixels of line k in the direction (p, q)
abbrev pub on_four : ℤ → ℤ → ℤ → List Pixel
on_four p q k = pixels (shape 4 2 4) (dir p q) k

abbrev pub marked : List Example
marked =
    -- P1 to P5, opened with 1, 2, 3, 5 and 6
    (grey (opened line 1) is grey line)
    ∷ (grey (opened line 2) is grey (3 ∷ 5 ∷ 5 ∷ 2 ∷ 2 ∷ []))
    ∷ (grey (opened line 3) is grey (3 ∷ 3 ∷ 3 ∷ 2 ∷ 2 ∷ []))
    ∷ (grey (opened line 5) is grey (2 ∷ 2 ∷ 2 ∷ 2 ∷ 2 ∷ []))
    ∷ (grey (opened line 6) is grey (0 ∷ 0 ∷ 0 ∷ 0 ∷ 0 ∷ []))
    -- P6, 'eroded with 2: 3 5 2 2, and that dilated with 2 is P2'
    ∷ (grey (eroded line 2) is grey (3 ∷ 5 ∷ 2 ∷ 2 ∷ []))
    ∷ (grey (dilated (3 ∷ 5 ∷ 2 ∷ 2 ∷ []) 2) is grey (3 ∷ 5 ∷ 5 ∷ 2 ∷ 2 ∷ []))
    -- P7 to P10
    ∷ (listed (records (stretches (7 ∷ []))) is listed (s 0 1 7 0 0 ∷ []))
    ∷ (listed (records (stretches (4 ∷ 4 ∷ 4 ∷ []))) is listed (s 0 3 4 0 0 ∷ []))
    ∷ (listed (records (stretches (1 ∷ 2 ∷ 3 ∷ []))) is listed (s 2 3 3 2 1 ∷ s 1 3 2 1 2 ∷ s 0 3 1 0 2 ∷ []))
    ∷ (listed (records (stretches (3 ∷ 2 ∷ 1 ∷ []))) is listed (s 0 1 3 2 1 ∷ s 0 2 2 1 2 ∷ s 0 3 1 0 2 ∷ []))
    -- P11, 'direction (2,1), line −1 is (1,0) (2,0) (3,1) and line −2 is (3,0)'
    ∷ (traced (on_four (pos 2) (pos 1) (negsuc 0)) is traced (at 1 0 ∷ at 2 0 ∷ at 3 1 ∷ []))
    ∷ (traced (on_four (pos 2) (pos 1) (negsuc 1)) is traced (at 3 0 ∷ []))
    -- P12, 'direction (−2,1), line 1 is (0,1) (1,0) (2,0)'
    ∷ (traced (on_four (negsuc 1) (pos 1) (pos 1)) is traced (at 0 1 ∷ at 1 0 ∷ at 2 0 ∷ []))
    ∷ []
