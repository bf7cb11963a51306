-- The rose of a frame (document 01, 'Stretches and size sums'), and the calls `rose` and `rose_refusal`.
--   rose_bins              how many bins a row of the rose has
--   rose_rules           the rules of both calls
--   refused_rose            the rose of a refused call
--   rose_of f sh         the rose of a frame
-- Laws: sizes/proofs/Rows (no sum of a frame reaches an entry of refused_rose).
use Rattle.std.specs.Prelude.{◌≡◌, not, List, [], ◌∷◌, ℕ, ◌+◌, ◌-◌, ◌^◌, ltb, length, replicate}
use Rattle.lists.specs.Tables.{table}
use Rattle.answer.specs.Rules.{Rule, rule, answer, after}
use Rattle.frame.specs.declared.shape.Shape.{Shape}
use Rattle.frame.specs.Direction.{numbered_of}
use Rattle.frame.specs.Shape.{is_frame, needed, scratch_for}
use Rattle.sizes.specs.Sums.{frame_sums}

-- 'row d has 32 bins and the rest'
abbrev pub rose_bins : ℕ
rose_bins = 32

-- a source of size bytes and a scratch of spare bytes
abbrev pub rose_rules : Shape → ℕ → ℕ → List Rule
rose_rules sh size spare =
    rule (not (is_frame sh)) 1 0
    ∷ rule (ltb size (needed sh)) 5 (needed sh)
    ∷ rule (ltb spare (scratch_for sh)) 7 (scratch_for sh)
    ∷ []

-- 'A refused rose is a table of 64-bit largest numbers'
abbrev pub refused_rose : List (List ℕ)
refused_rose = replicate 16 (replicate (rose_bins + 1) (2 ^ 64 - 1))

-- 'sixteen rows of 33 sums, handed back by value: row d has 32 bins and the rest of numbered direction d'
abbrev pub rose_of : List ℕ → Shape → List (List ℕ)
rose_of f sh = table (λ (d : ℕ). frame_sums f sh (numbered_of d) rose_bins) 16

-- What scratch holds after a done call is left open, its length apart.
pub record Roses (f : List ℕ) (sh : Shape) (scratch scratch' : List ℕ) (r : List (List ℕ)) : Type 0 where
  pub rows : r ≡ after (answer (rose_rules sh (length f) (length scratch)) 0) (rose_of f sh) refused_rose
  pub scratch_kept : ((answer (rose_rules sh (length f) (length scratch)) 0).number ≡ 0 → ⊥) → scratch' ≡ scratch
  pub scratch_length : length scratch' ≡ length scratch
