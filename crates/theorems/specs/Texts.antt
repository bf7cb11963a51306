-- The two programs' texts (document 01, 'The two programs'), for the statements of the reader's page.
--   example_input, example_stretches, example_sums  the example of the document, byte by byte: 9 is a tab, 10 a line feed
--   Given s d w h ps     the text s is an input that the document allows: direction number d, a frame of w by h pixels, the pixels ps row by row
-- Laws: theorems/proofs/Texts.
use Rattle.std.specs.Prelude.{◌≡◌, List, [], ◌∷◌, ℕ, ◌*◌, ◌≤◌, length, get_or}
use Rattle.answer.specs.Limits.{longest}
use Rattle.text.specs.Inputs.{longest_input, frame_text}

-- 'For the input' D 0, F 5 1, R 3 5 5 2 4
abbrev pub example_input : List ℕ
example_input =
    68 ∷ 9 ∷ 48 ∷ 10
    ∷ 70 ∷ 9 ∷ 53 ∷ 9 ∷ 49 ∷ 10
    ∷ 82 ∷ 9 ∷ 51 ∷ 9 ∷ 53 ∷ 9 ∷ 53 ∷ 9 ∷ 50 ∷ 9 ∷ 52 ∷ 10 ∷ []

-- 'it prints' L 0 5, Z 1 3 5 3 1, Z 0 3 3 2 3, Z 4 5 4 2 3, Z 0 5 2 0 3
abbrev pub example_stretches : List ℕ
example_stretches =
    76 ∷ 9 ∷ 48 ∷ 9 ∷ 53 ∷ 10
    ∷ 90 ∷ 9 ∷ 49 ∷ 9 ∷ 51 ∷ 9 ∷ 53 ∷ 9 ∷ 51 ∷ 9 ∷ 49 ∷ 10
    ∷ 90 ∷ 9 ∷ 48 ∷ 9 ∷ 51 ∷ 9 ∷ 51 ∷ 9 ∷ 50 ∷ 9 ∷ 51 ∷ 10
    ∷ 90 ∷ 9 ∷ 52 ∷ 9 ∷ 53 ∷ 9 ∷ 52 ∷ 9 ∷ 50 ∷ 9 ∷ 51 ∷ 10
    ∷ 90 ∷ 9 ∷ 48 ∷ 9 ∷ 53 ∷ 9 ∷ 50 ∷ 9 ∷ 48 ∷ 9 ∷ 51 ∷ 10 ∷ []

-- 'The program sums .. prints for the same input' G 0 3, B 1 2, B 2 4, B 3 3, T 10
abbrev pub example_sums : List ℕ
example_sums =
    71 ∷ 9 ∷ 48 ∷ 9 ∷ 51 ∷ 10
    ∷ 66 ∷ 9 ∷ 49 ∷ 9 ∷ 50 ∷ 10
    ∷ 66 ∷ 9 ∷ 50 ∷ 9 ∷ 52 ∷ 10
    ∷ 66 ∷ 9 ∷ 51 ∷ 9 ∷ 51 ∷ 10
    ∷ 84 ∷ 9 ∷ 49 ∷ 48 ∷ 10 ∷ []

pub record Given (s : List ℕ) (d w h : ℕ) (ps : List ℕ) : Type 0 where
  -- 'Input: `D` and a direction number; `F`, width, height; then one `R` line a row with its pixels; nothing after.'
  pub is : s ≡ frame_text d w h ps
  -- 'At most 65,536 bytes.'
  pub size : length s ≤ longest_input
  pub numbered : d ≤ 15
  pub wide : (1 ≤ w) × (w ≤ longest)
  pub high : (1 ≤ h) × (h ≤ longest)
  pub many : length ps ≡ h * w
  -- 'pixels to 255'
  pub dim : (k : ℕ) → get_or ps k 0 ≤ 255
