-- The programs' input (document 01, 'The two programs'), and the call `read_input`.
--   frame_text d w h ps    the input text of a frame: direction number, width, height and pixels, row by row
--   rows_text h w ps       its rows
--   longest_input          the most bytes of an input
--   head_of s              the first two lines of a text: direction number, width and height
--   direction_in s, width_in s, height_in s  the three
--   rows_in s              the rows that follow them
--   input_rules s room     the rules of the call
--   Outcome, outcome r     what the call hands back, as an answer and three numbers
--   input_of s room        the outcome for a text
--   ReadsInput s dst dst' r    what the call hands back and leaves
-- Laws: text/proofs/Inputs (frame-read: a text in which `head_of` and `rows_in` find lines and rows is a frame's; frame-written: in the text of a frame they do).
use Rattle.std.specs.Prelude.{◌≡◌, cond, not, List, [], ◌∷◌, ◌++◌, ℕ, zero, suc, ◌*◌, ltb, length, get_or, take, drop, Result, Ok, Err}
use Rattle.lists.specs.Stores.{front}
use Rattle.answer.specs.declared.Answer.{Answer}
use Rattle.answer.specs.declared.Refusal.{Refusal}
use Rattle.answer.specs.Limits.{longest}
use Rattle.answer.specs.Rules.{Rule, rule, answer, done, refusal, after, outside}
use Rattle.answer.specs.Refusals.{rule_of, needed_of}
use Rattle.text.specs.declared.input.Input.{Input}
use Rattle.text.specs.Lines.{line_text}
use Rattle.text.specs.Reading.{largest_number, Values, no_values, before, line_of, rows_of}

-- 'then one `R` line a row with its pixels'
unfoldable pub rows_text : ℕ → ℕ → List ℕ → List ℕ
rows_text zero w ps = []
rows_text (suc h) w ps = line_text 82 (take w ps) ++ rows_text h w (drop w ps)

-- 'Input: `D` and a direction number; `F`, width, height; then one `R` line a row with its pixels; nothing after.'
unfoldable pub frame_text : ℕ → ℕ → ℕ → List ℕ → List ℕ
frame_text d w h ps = line_text 68 (d ∷ []) ++ (line_text 70 (w ∷ h ∷ []) ++ rows_text h w ps)

-- '`D` and a direction number; `F`, width, height'
unfoldable pub head_of : List ℕ → Values
head_of s = cond (line_of 68 largest_number 1 s).found (before (line_of 68 largest_number 1 s).values (line_of 70 largest_number 2 (line_of 68 largest_number 1 s).rest)) no_values

abbrev pub direction_in : List ℕ → ℕ
direction_in s = get_or (head_of s).values 0 0

abbrev pub width_in : List ℕ → ℕ
width_in s = get_or (head_of s).values 1 0

abbrev pub height_in : List ℕ → ℕ
height_in s = get_or (head_of s).values 2 0

abbrev pub rows_in : List ℕ → Values
rows_in s = rows_of (height_in s) (width_in s) (head_of s).rest

-- 'At most 65,536 bytes.'
abbrev pub longest_input : ℕ
longest_input = 65536

-- 'Checks: size and the two first lines' form (9), width and height (1), direction (2), rows (9).' The room for the pixels comes last: it depends on what was read.
abbrev pub input_rules : List ℕ → ℕ → List Rule
input_rules s room =
    rule (ltb longest_input (length s)) 9 0
    ∷ rule (not (head_of s).found) 9 0
    ∷ rule (outside 1 longest (width_in s)) 1 0
    ∷ rule (outside 1 longest (height_in s)) 1 0
    ∷ rule (ltb 15 (direction_in s)) 2 0
    ∷ rule (not (rows_in s).found) 9 0
    ∷ rule (ltb room (width_in s * height_in s)) 6 (width_in s * height_in s)
    ∷ []

-- what a call hands back: its answer; and direction number, width and height, zeros where it refuses
pub record Outcome : Type 0 where
  pub answer : Answer
  pub direction : ℕ
  pub width : ℕ
  pub height : ℕ

abbrev pub outcome : Result Input Refusal → Outcome
outcome (Ok i) = record { answer = done 0; direction = i.direction; width = i.width; height = i.height }
outcome (Err e) = record { answer = refusal (rule_of e) (needed_of e); direction = 0; width = 0; height = 0 }

-- the three numbers of a text that is not refused; else zeros
abbrev pub input_of : List ℕ → ℕ → Outcome
input_of s room =
    let a = answer (input_rules s room) 0 in
    record { answer = a; direction = after a (direction_in s) 0; width = after a (width_in s) 0; height = after a (height_in s) 0 }

-- the pixels row by row at the front of the destination
pub record ReadsInput (s dst dst' : List ℕ) (r : Outcome) : Type 0 where
  pub reads : r ≡ input_of s (length dst)
  pub written : dst' ≡ after r.answer (front (rows_in s).values dst) dst
