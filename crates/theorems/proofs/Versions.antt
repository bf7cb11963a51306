-- 'Versions to be shown unprovable': on an input that is written out, the contract does not allow the outcome of that version.
-- That it allows some outcome of every input, the proved code shows.
--   refusing-..                       a call that refuses everything, for each numbered call, the host's entry, `read_input`, the rose, its refusal and the summary
--   line-dark, line-copied, line_unwritten        an opening of a line that is 0 everywhere, that copies its source, that writes no pixel
--   frame-dark, frame-copied, frame_unwritten     the same of a frame
--   highest_dark, highest_unwritten, directions-dark, directions_unwritten    the highest opening or its directions, 0 everywhere or not written
--   gap_numbered                      a direction's number between the rows
--   frame_asked                       the highest opening refused where scratch has what rule 7 asks, but no frame more
--   second_unseen, second_misnamed, half_written    too short a destination for the directions: a done call, another number or figure, the brightness written
--   first-row_only, first-line_only   a frame opening that treats its first line and copies the rest, along and on the diagonal
--   count_invented, whole-line_only   a listing with an invented count, or with only the whole line
--   longest_encloser, next_whatever, own-place, from_one    a fifth number that is the place of the longest encloser, of the next record whatever it is, of the record itself, or
--                                     is counted from 1
--   enclosers_unwritten, enclosers_reversed    the call `enclosers` where it writes no place, or the places in the opposite order
--   bookmark_invented                 a step of a reading that hands back another bookmark
--   across_for_along, rows_exchanged, numbers_exchanged    results filed under the other's direction: of a frame opening, the rose and the highest opening
--   under_another                     the brightness of one direction under another's number
--   tie_to-last                       a tie given to the last
--   counted_as_pixels, rounded_down, by_the_lesser    a length that counts pixels in every direction, its count rounded down, or measured by the lesser number of the pair
--   frame-by-pixels, line-by-length   a slanted frame opened with as many pixels as the length says; a line opened with fewer
--   rest-by-pixels, shared-twice      a frame's rest from K+1 pixels; two lengths that share a count both getting the light
--   leading_zero                      a reading that takes a number with a leading zero
-- Assumes nothing.
use mathlib.Core.Path.{◌≡◌, refl, sym, ap, ◌∙◌}
use mathlib.Core.Bool.{true}
use mathlib.Core.List.{List, [], ◌∷◌, map}
use Prim.Native.Nat.{ℕ, ◌+◌, ◌-◌, ◌*◌, ◌^◌}
use native.Mathlib.Omega.{arith}
use lib.IntN.{pos}
use lib.ListN.{get_or, take, drop, replicate}
use Rattle.std.specs.Prelude.{Option, IsSomeAnd}
use Rattle.lists.specs.Tables as tables
use Rattle.lists.specs.Extremes as extremes
use Rattle.lists.specs.Stores.{front}
use Rattle.answer.specs.declared.Answer.{Answer}
use Rattle.answer.specs.Rules.{done, refusal, answer, after}
use Rattle.line.specs.Windows as windows
use Rattle.line.specs.Windows.{opened}
use Rattle.line.specs.Erosion.{ErodesLine}
use Rattle.line.specs.Dilation.{DilatesLine}
use Rattle.line.specs.Opening.{OpensLine}
use Rattle.frame.specs.declared.direction.Direction.{Direction}
use Rattle.frame.specs.declared.shape.Shape.{Shape}
use Rattle.frame.specs.Direction.{dir, along, is_direction, numbered_of}
use Rattle.frame.specs.Shape.{shape}
use Rattle.frame.specs.Length as measures
use Rattle.frame.specs.Length.{pixels_for, pixels_or_none}
use Rattle.frame.specs.Lines as lines
use Rattle.gathering.specs.Gathering.{Gathers}
use Rattle.gathering.specs.Scattering.{Scatters}
use Rattle.frame.specs.Painted.{Painted}
use Rattle.opening.specs.Pixels as leading
use Rattle.opening.specs.Pixels.{opened_pixel}
use Rattle.opening.specs.Frames.{OpensFrame}
use Rattle.opening.specs.Sixteen.{FindsHighest}
use Rattle.opening.specs.Host.{HostOpens}
use Rattle.bright.specs.declared.Nested.{Nested}
use Rattle.bright.specs.declared.Step.{Step}
use Rattle.bright.specs.Reading.{step_from}
use Rattle.bright.specs.Generator.{run8, stack_of, beginning, Follows}
use Rattle.bright.specs.Stretches as stretching
use Rattle.bright.specs.Stretches.{stretches}
use Rattle.bright.specs.Nesting as nesting
use Rattle.bright.specs.Nesting.{records, NestsLine}
use Rattle.bright.specs.Listing.{ListsLine}
use Rattle.sizes.specs.Sums.{frame_sums}
use Rattle.sizes.specs.Line.{SumsLine}
use Rattle.sizes.specs.Frame.{SumsFrame}
use Rattle.sizes.specs.Rose.{rose_rules, refused_rose, Roses}
use Rattle.sizes.specs.declared.summary.Summary.{Summary}
use Rattle.sizes.specs.Summary.{weighted, summary_of}
use Rattle.text.specs.Inputs.{Outcome}
use Rattle.text.specs.Decimal.{digits}
use Rattle.text.specs.Lines.{fields_text}
use Rattle.text.specs.Reading as reading
use Rattle.text.specs.Inputs.{head_of, ReadsInput}
use Rattle.text.specs.Sums.{sums_text, WritesSums}
use Rattle.theorems.specs.Marked.{line, s}
use Rattle.theorems.specs.Texts.{example_input}

-- five bytes that a call may write to, and scratch for a line of five pixels
abbrev nines : List ℕ
nines = 9 ∷ 9 ∷ 9 ∷ 9 ∷ 9 ∷ []

abbrev spare : List ℕ
spare = replicate 40 0

-- a frame of 3 by 3 pixels, its rows 4 bytes apart, with a strand from corner to corner; 7 between the rows
abbrev small : Shape
small = shape 3 3 4

abbrev strand : List ℕ
strand =
    9 ∷ 1 ∷ 1 ∷ 7
    ∷ 1 ∷ 9 ∷ 1 ∷ 7
    ∷ 1 ∷ 1 ∷ 9 ∷ []

-- a frame that a call may write to
abbrev sixes : List ℕ
sixes =
    6 ∷ 6 ∷ 6 ∷ 8
    ∷ 6 ∷ 6 ∷ 6 ∷ 8
    ∷ 6 ∷ 6 ∷ 6 ∷ []

abbrev diagonal : Direction
diagonal = dir (pos 1) (pos 1)

-- ---- 'a call that refuses everything (the exact conditions of the table, demand 1)'

abbrev Refused : Answer → Type 0
Refused a = a.number ≡ 0 → ⊥

done-number : {a : Answer} → a ≡ done 0 → a.number ≡ 0
done-number e = ap (λ (a : Answer). a.number) e

answered : {a b : Answer} → a ≡ b → b.number ≡ 0 → Refused a → ⊥
answered e z refused = refused (ap (λ (a : Answer). a.number) e ∙ z)

module _ {g' : List ℕ} {a : Answer} where
  pub refusing_erode : ErodesLine line 2 nines g' a → Refused a → ⊥
  refusing_erode p = answered p.answers refl

  pub refusing_dilate : DilatesLine (3 ∷ 5 ∷ 2 ∷ 2 ∷ []) 2 nines g' a → Refused a → ⊥
  refusing_dilate p = answered p.answers refl

  pub refusing_gather : Gathers strand small diagonal (pos 0) nines g' a → Refused a → ⊥
  unfolding tables.each lines.r
  refusing_gather p = answered p.answers refl

  pub refusing_scatter : Scatters nines small diagonal (pos 0) sixes g' a → Refused a → ⊥
  unfolding tables.each lines.r
  refusing_scatter p = answered p.answers refl

module _ {g' t' : List ℕ} {a : Answer} where
  pub refusing_open_line : OpensLine line 2 nines g' spare t' a → Refused a → ⊥
  refusing_open_line p = answered p.answers refl

  pub refusing_open_frame : OpensFrame strand small diagonal 3 sixes g' spare t' a → Refused a → ⊥
  refusing_open_frame p = answered p.answers refl

  pub refusing_highest : {h' : List ℕ} → FindsHighest strand small 3 sixes g' sixes h' spare t' a → Refused a → ⊥
  refusing_highest p = answered p.answers refl

  pub refusing_sums_of_line : SumsLine line nines g' spare t' a → Refused a → ⊥
  refusing_sums_of_line p = answered p.answers refl

  pub refusing_sums_of_frame : SumsFrame strand small diagonal nines g' spare t' a → Refused a → ⊥
  refusing_sums_of_frame p = answered p.answers refl

pub refusing_host : {g' t' : List ℕ} {n : ℕ} → HostOpens strand small diagonal 3 sixes g' spare t' n → (n ≡ 0 → ⊥) → ⊥
refusing_host p refused =
    let none : p.a ≡ done 0 = p.opens.answers in
    refused (p.gives ∙ ap (λ (a : Answer). a.number * 2 ^ 32 + a.figure) none)

-- a refused rose has the largest number in every entry
pub refusing_rose : {t' : List ℕ} → Roses strand small spare t' refused_rose → ⊥
unfolding tables.each extremes.least extremes.greatest extremes.total windows.opened measures.first_from lines.r
refusing_rose p =
    let first : ◌≡◌ {A = ℕ} (2 ^ 64 - 1) 24 = ap (λ (r : List (List ℕ)). get_or (get_or r 0 []) 0 0) p.rows in
    omega (arith, first)

pub refusing_rose_refusal : {a : Answer} → a ≡ answer (rose_rules small 11 40) 0 → Refused a → ⊥
refusing_rose_refusal e = answered e refl

pub refusing_summary : {r : Summary} → r ≡ summary_of (2 ∷ 4 ∷ 3 ∷ 10 ∷ []) → (r.number ≡ 0 → ⊥) → ⊥
unfolding summary_of extremes.total weighted
refusing_summary e refused = refused (ap (λ (r : Summary). r.number) e)

-- a table of as many entries as the line 3 5 5 2 4 has stretches
abbrev blank : List Nested
blank = replicate 4 (s 0 0 0 0 0)

pub refusing_list : {table' : List Nested} {t' : List ℕ} {a : Answer} → ListsLine line blank table' spare t' a → Refused a → ⊥
unfolding tables.each extremes.least extremes.greatest stretching.level_of stretching.is_stretch stretching.stretch_of stretching.ending_at stretching.stretches
refusing_list p = answered p.answers refl

-- the example of the program sums
pub refusing_sums-text : {g' : List ℕ} {a : Answer} → WritesSums 0 (2 ∷ 4 ∷ 3 ∷ 10 ∷ []) spare g' a → Refused a → ⊥
unfolding tables.each sums_text fields_text digits
refusing_sums-text p = answered p.answers refl

pub refusing_read_input : {g' : List ℕ} {r : Outcome} → ReadsInput example_input nines g' r → Refused r.answer → ⊥
unfolding head_of reading.number_on reading.number_of reading.field_of reading.fields_of reading.line_of reading.rows_of
refusing_read_input p = answered (ap (λ (r : Outcome). r.answer) p.reads) refl

-- ---- 'an opening that is 0 everywhere, or that copies its source (demand 2); one that writes no pixel (demand 2)', of a line

-- what the contract asks for: P2
opened-line : {g' t' : List ℕ} {a : Answer} → OpensLine line 2 nines g' spare t' a → g' ≡ 3 ∷ 5 ∷ 5 ∷ 2 ∷ 2 ∷ []
unfolding tables.each extremes.least extremes.greatest windows.opened
opened-line p = p.written ∙ ap (λ (a : Answer). after a (front (opened line 2) nines) nines) p.answers

-- two lists that differ at a place are not the same
differ : {g h : List ℕ} (i : ℕ) → (get_or g i 0 ≡ get_or h i 0 → ⊥) → g ≡ h → ⊥
differ i unlike e = unlike (ap (λ (l : List ℕ). get_or l i 0) e)

module _ {t' : List ℕ} {a : Answer} where
  pub line-dark : OpensLine line 2 nines (0 ∷ 0 ∷ 0 ∷ 0 ∷ 0 ∷ []) spare t' a → ⊥
  line-dark p = differ 0 (λ e. omega arith) (opened-line p)

  pub line-copied : OpensLine line 2 nines line spare t' a → ⊥
  line-copied p = differ 4 (λ e. omega arith) (opened-line p)

  pub line_unwritten : OpensLine line 2 nines nines spare t' a → ⊥
  line_unwritten p = differ 0 (λ e. omega arith) (opened-line p)

-- ---- the same of a frame, and 'a frame opening that treats its first line and copies the rest (demand 2, each pixel on its line)'

painted : {d : Direction} {g' t' : List ℕ} {a : Answer} → is_direction d ≡ true → OpensFrame strand small d 3 sixes g' spare t' a
    → Painted small (opened_pixel strand small d (pixels_for d 3)) sixes g'
painted ok p = p.done (ap (λ (a : Answer). a.number) p.answers ∙ rw ok)

module _ {t' : List ℕ} {a : Answer} where
  pub frame-dark : OpensFrame strand small diagonal 3 sixes (0 ∷ 0 ∷ 0 ∷ 8 ∷ 0 ∷ 0 ∷ 0 ∷ 8 ∷ 0 ∷ 0 ∷ 0 ∷ []) spare t' a → ⊥
  unfolding tables.each extremes.least extremes.greatest windows.opened measures.first_from lines.r lines.index_in leading.opened_pixel
  frame-dark p = let corner : ◌≡◌ {A = ℕ} 0 9 = (painted refl p).pixels 0 0 (omega arith) (omega arith) in omega (arith, corner)

  pub frame-copied : OpensFrame strand small diagonal 3 sixes (9 ∷ 1 ∷ 1 ∷ 8 ∷ 1 ∷ 9 ∷ 1 ∷ 8 ∷ 1 ∷ 1 ∷ 9 ∷ []) spare t' a → ⊥
  unfolding tables.each extremes.least extremes.greatest windows.opened measures.first_from lines.r lines.index_in leading.opened_pixel
  frame-copied p = let beside : ◌≡◌ {A = ℕ} 1 0 = (painted refl p).pixels 1 0 (omega arith) (omega arith) in omega (arith, beside)

  pub frame_unwritten : OpensFrame strand small diagonal 3 sixes sixes spare t' a → ⊥
  unfolding tables.each extremes.least extremes.greatest windows.opened measures.first_from lines.r lines.index_in leading.opened_pixel
  frame_unwritten p = let corner : ◌≡◌ {A = ℕ} 6 9 = (painted refl p).pixels 0 0 (omega arith) (omega arith) in omega (arith, corner)

  -- the first line is row 0
  pub first-row_only : OpensFrame strand small along 3 sixes (1 ∷ 1 ∷ 1 ∷ 8 ∷ 1 ∷ 9 ∷ 1 ∷ 8 ∷ 1 ∷ 1 ∷ 9 ∷ []) spare t' a → ⊥
  unfolding tables.each extremes.least extremes.greatest windows.opened measures.first_from lines.r lines.index_in leading.opened_pixel
  first-row_only p = let middle : ◌≡◌ {A = ℕ} 9 1 = (painted refl p).pixels 1 1 (omega arith) (omega arith) in omega (arith, middle)

  -- the first line is number −2, the pixel (2, 0)
  pub first-line_only : OpensFrame strand small diagonal 3 sixes (9 ∷ 1 ∷ 0 ∷ 8 ∷ 1 ∷ 9 ∷ 1 ∷ 8 ∷ 1 ∷ 1 ∷ 9 ∷ []) spare t' a → ⊥
  unfolding tables.each extremes.least extremes.greatest windows.opened measures.first_from lines.r lines.index_in leading.opened_pixel
  first-line_only p = let beside : ◌≡◌ {A = ℕ} 1 0 = (painted refl p).pixels 1 0 (omega arith) (omega arith) in omega (arith, beside)

-- ---- the highest opening and its direction, dark or not written

module _ {other t' : List ℕ} {a : Answer} where
  pub highest_dark : FindsHighest strand small 3 sixes (0 ∷ 0 ∷ 0 ∷ 8 ∷ 0 ∷ 0 ∷ 0 ∷ 8 ∷ 0 ∷ 0 ∷ 0 ∷ []) sixes other spare t' a → ⊥
  unfolding tables.each extremes.least extremes.greatest windows.opened measures.first_from lines.r lines.index_in leading.opened_pixel
  highest_dark p = let corner : ◌≡◌ {A = ℕ} 0 9 = (p.brightness (done-number p.answers)).pixels 0 0 (omega arith) (omega arith) in omega (arith, corner)

  pub highest_unwritten : FindsHighest strand small 3 sixes sixes sixes other spare t' a → ⊥
  unfolding tables.each extremes.least extremes.greatest windows.opened measures.first_from lines.r lines.index_in leading.opened_pixel
  highest_unwritten p = let corner : ◌≡◌ {A = ℕ} 6 9 = (p.brightness (done-number p.answers)).pixels 0 0 (omega arith) (omega arith) in omega (arith, corner)

  -- the diagonal is first held by direction 3
  pub directions-dark : FindsHighest strand small 3 sixes other sixes (0 ∷ 0 ∷ 0 ∷ 8 ∷ 0 ∷ 0 ∷ 0 ∷ 8 ∷ 0 ∷ 0 ∷ 0 ∷ []) spare t' a → ⊥
  unfolding tables.each extremes.least extremes.greatest windows.opened measures.first_from lines.r lines.index_in leading.opened_pixel leading.first_greatest
  directions-dark p = let corner : ◌≡◌ {A = ℕ} 0 3 = (p.directions (done-number p.answers)).pixels 0 0 (omega arith) (omega arith) in omega (arith, corner)

  pub directions_unwritten : FindsHighest strand small 3 sixes other sixes sixes spare t' a → ⊥
  unfolding tables.each extremes.least extremes.greatest windows.opened measures.first_from lines.r lines.index_in leading.opened_pixel leading.first_greatest
  directions_unwritten p = let corner : ◌≡◌ {A = ℕ} 6 3 = (p.directions (done-number p.answers)).pixels 0 0 (omega arith) (omega arith) in omega (arith, corner)

-- ---- 'one call with two destinations'

module _ {g' h' t' : List ℕ} {a : Answer} where
  -- byte 3 stands between two rows
  pub gap_numbered : {i j k : ℕ} → FindsHighest strand small 3 sixes g' sixes (i ∷ j ∷ k ∷ 0 ∷ h') spare t' a → ⊥
  gap_numbered p = let between : ◌≡◌ {A = ℕ} 0 8 = (p.directions (done-number p.answers)).gaps 3 (λ x y wide high e. omega arith) in omega (arith, between)

  -- rule 7 asks 8·3 bytes; with the 3·3 of a frame besides it would ask 33
  pub frame_asked : FindsHighest strand small 3 sixes g' sixes h' (take 24 spare) t' a → a.number ≡ 7 → ⊥
  frame_asked p seven = let none : ◌≡◌ {A = ℕ} 7 0 = sym seven ∙ done-number p.answers in omega (arith, none)

-- the frame needs 11 bytes, and the directions' destination has 10
module _ {g' h' t' : List ℕ} {a : Answer} where
  pub second_unseen : FindsHighest strand small 3 sixes g' (take 10 sixes) h' spare t' a → a.number ≡ 0 → ⊥
  second_unseen p z = let six : ◌≡◌ {A = ℕ} 0 6 = sym z ∙ ap (λ (a : Answer). a.number) p.answers in omega (arith, six)

  pub second_misnamed : FindsHighest strand small 3 sixes g' (take 10 sixes) h' spare t' a → (a ≡ refusal 6 11 → ⊥) → ⊥
  second_misnamed p another = another p.answers

pub half_written : {rest h' t' : List ℕ} {a : Answer} → FindsHighest strand small 3 sixes (9 ∷ rest) (take 10 sixes) h' spare t' a → ⊥
half_written p = differ 0 (λ e. omega arith) (p.refused (second_unseen p)).0

-- ---- 'a listing with an invented count or only the whole line (demand 3)'

module _ {table' : List Nested} {t' : List ℕ} {a : Answer} where
  -- the count is 4, and nothing else
  pub count_invented : (n : ℕ) → (n ≡ 4 → ⊥) → ListsLine line blank table' spare t' a → a ≡ done n → ⊥
  unfolding tables.each extremes.least extremes.greatest stretching.level_of stretching.is_stretch stretching.stretch_of stretching.ending_at stretching.stretches
  count_invented n not-four p e = not-four (ap (λ (a : Answer). a.figure) (sym e ∙ p.answers))

-- the four stretches of the line, with the fifth numbers i, j, k and l
abbrev with_fifths : ℕ → ℕ → ℕ → ℕ → List Nested
with_fifths i j k l = s 1 3 5 3 i ∷ s 0 3 3 2 j ∷ s 4 5 4 2 k ∷ s 0 5 2 0 l ∷ []

-- what the contract asks for
listed-line : {table' : List Nested} {t' : List ℕ} {a : Answer} → ListsLine line blank table' spare t' a → table' ≡ with_fifths 1 3 3 3
unfolding tables.each extremes.least extremes.greatest stretching.level_of stretching.is_stretch stretching.stretch_of stretching.ending_at stretching.stretches nesting.shortest nesting.records
listed-line p = p.written ∙ ap (λ (a : Answer). after a (front (records (stretches line)) blank) blank) p.answers

pub whole-line_only : {e : ℕ} {rest : List Nested} {t' : List ℕ} {a : Answer} → ListsLine line blank (s 0 5 2 0 e ∷ rest) spare t' a → ⊥
whole-line_only p =
    let first : ◌≡◌ {A = ℕ} 0 1 = ap (λ (l : List Nested). (get_or l 0 (s 0 0 0 0 0)).stretch.start) (listed-line p) in
    omega (arith, first)

-- ---- 'exactly one value is right for each record'

fifths_are : {table' : List Nested} {t' : List ℕ} {a : Answer} → ListsLine line blank table' spare t' a → map (λ (r : Nested). r.encloser) table' ≡ 1 ∷ 3 ∷ 3 ∷ 3 ∷ []
fifths_are p = ap (map (λ (r : Nested). r.encloser)) (listed-line p)

module _ {t' : List ℕ} {a : Answer} where
  pub longest_encloser : ListsLine line blank (with_fifths 3 3 3 3) spare t' a → ⊥
  longest_encloser p = differ 0 (λ e. omega arith) (fifths_are p)

  pub next_whatever : ListsLine line blank (with_fifths 1 2 3 3) spare t' a → ⊥
  next_whatever p = differ 1 (λ e. omega arith) (fifths_are p)

  pub own-place : ListsLine line blank (with_fifths 0 1 2 3) spare t' a → ⊥
  own-place p = differ 0 (λ e. omega arith) (fifths_are p)

  pub from_one : ListsLine line blank (with_fifths 2 4 4 4) spare t' a → ⊥
  from_one p = differ 0 (λ e. omega arith) (fifths_are p)

-- the same places from `enclosers`, which has room for one a pixel
nested-line : {g' t' : List ℕ} {r : ℕ} → NestsLine line nines g' spare t' r → g' ≡ 1 ∷ 3 ∷ 3 ∷ 3 ∷ 9 ∷ []
unfolding tables.each extremes.least extremes.greatest stretching.level_of stretching.is_stretch stretching.stretch_of stretching.ending_at stretching.stretches nesting.shortest nesting.enclosers_of
nested-line p = p.written

module _ {t' : List ℕ} {r : ℕ} where
  pub enclosers_unwritten : NestsLine line nines nines spare t' r → ⊥
  enclosers_unwritten p = differ 0 (λ e. omega arith) (nested-line p)

  pub enclosers_reversed : NestsLine line nines (3 ∷ 3 ∷ 3 ∷ 1 ∷ 9 ∷ []) spare t' r → ⊥
  enclosers_reversed p = differ 0 (λ e. omega arith) (nested-line p)

-- after the first step the pixels 3 5 5 are read, and the run of 3 is open
pub bookmark_invented : {t' : List ℕ} {r : Option Step} → (IsSomeAnd r (λ (s : Step). s.bookmark ≡ record { read = 3; depth = 1 }) → ⊥) → Follows run8 line spare beginning t' r → ⊥
unfolding stack_of step_from
bookmark_invented another p = another (rw p.steps refl)

-- ---- 'Directions filed in order of arrival, or a tie given to the last' (a trap that no marked example holds)

-- a bright row
abbrev bar : List ℕ
bar =
    1 ∷ 1 ∷ 1 ∷ 7
    ∷ 9 ∷ 9 ∷ 9 ∷ 7
    ∷ 1 ∷ 1 ∷ 1 ∷ []

module _ {rest t' : List ℕ} {a : Answer} where
  -- what is opened across, under the name of along: pixel (0, 0) may be 1, (0, 1) may not
  pub across_for_along : OpensFrame bar small along 3 sixes (1 ∷ 1 ∷ 1 ∷ 8 ∷ 1 ∷ rest) spare t' a → ⊥
  unfolding tables.each extremes.least extremes.greatest windows.opened measures.first_from lines.r lines.index_in leading.opened_pixel
  across_for_along p = let below : ◌≡◌ {A = ℕ} 1 9 = (p.done (done-number p.answers)).pixels 0 1 (omega arith) (omega arith) in omega (arith, below)

module _ {g' h' t' : List ℕ} {a : Answer} where
  -- along, number 0, holds every pixel of a bright row; 8, across, stands in its place
  pub numbers_exchanged : FindsHighest bar small 3 sixes g' sixes (8 ∷ h') spare t' a → ⊥
  unfolding tables.each extremes.least extremes.greatest windows.opened measures.first_from lines.r lines.index_in leading.opened_pixel leading.first_greatest
  numbers_exchanged p = let corner : ◌≡◌ {A = ℕ} 8 0 = (p.directions (done-number p.answers)).pixels 0 0 (omega arith) (omega arith) in omega (arith, corner)

  -- the corner of a diagonal is 9 in direction 3; 1, its opening along, stands beside that number
  pub under_another : FindsHighest strand small 3 sixes (1 ∷ g') sixes (3 ∷ h') spare t' a → ⊥
  unfolding tables.each extremes.least extremes.greatest windows.opened measures.first_from lines.r lines.index_in leading.opened_pixel
  under_another p = let corner : ◌≡◌ {A = ℕ} 1 9 = (p.brightness (done-number p.answers)).pixels 0 0 (omega arith) (omega arith) in omega (arith, corner)

  -- 3, 4 and 5 all hold the diagonal of a frame of 3 by 3 pixels; the lowest number has it
  pub tie_to-last : FindsHighest strand small 3 sixes g' sixes (5 ∷ h') spare t' a → ⊥
  unfolding tables.each extremes.least extremes.greatest windows.opened measures.first_from lines.r lines.index_in leading.opened_pixel leading.first_greatest
  tie_to-last p = let corner : ◌≡◌ {A = ℕ} 5 3 = (p.directions (done-number p.answers)).pixels 0 0 (omega arith) (omega arith) in omega (arith, corner)

-- the row of across under the number of along: the first bin of a bright row is 0 along, and 24 across
pub rows_exchanged : {t' : List ℕ} {r : List (List ℕ)} → Roses bar small spare t' r → get_or r 0 [] ≡ frame_sums bar small (numbered_of 8) 32 → ⊥
unfolding tables.each extremes.least extremes.greatest extremes.total windows.opened measures.first_from lines.r
rows_exchanged p across =
    let along-row = ap (λ (r : List (List ℕ)). get_or r 0 []) p.rows in
    let first : ◌≡◌ {A = ℕ} 0 24 = ap (λ (l : List ℕ). get_or l 0 0) (sym along-row ∙ across) in
    omega (arith, first)

-- ---- 'length L in direction (p, q) now means k pixels'; 'Line calls still count pixels'

-- 21 at (1,1) is 16, and at (4,3) 17
module _ {k : ℕ} where
  pub counted_as_pixels : k ≡ pixels_or_none diagonal 21 → k ≡ 21 → ⊥
  unfolding measures.first_from
  counted_as_pixels e version = omega (arith, e, version)

  pub rounded_down : k ≡ pixels_or_none diagonal 21 → k ≡ 15 → ⊥
  unfolding measures.first_from
  rounded_down e version = omega (arith, e, version)

  pub by_the_lesser : k ≡ pixels_or_none (dir (pos 4) (pos 3)) 21 → k ≡ 13 → ⊥
  unfolding measures.first_from
  by_the_lesser e version = omega (arith, e, version)

-- a frame of 4 by 4 pixels that is bright on its diagonal alone: on (1,1) the lengths 4 and 5 both stand for 4 pixels
abbrev larger : Shape
larger = shape 4 4 4

abbrev thread : List ℕ
thread =
    9 ∷ 0 ∷ 0 ∷ 0
    ∷ 0 ∷ 9 ∷ 0 ∷ 0
    ∷ 0 ∷ 0 ∷ 9 ∷ 0
    ∷ 0 ∷ 0 ∷ 0 ∷ 9 ∷ []

module _ {rest t' : List ℕ} {a : Answer} where
  -- no line has five pixels
  pub frame-by-pixels : OpensFrame thread larger diagonal 5 thread (0 ∷ rest) spare t' a → ⊥
  unfolding tables.each extremes.least extremes.greatest windows.opened measures.first_from lines.r lines.index_in leading.opened_pixel
  frame-by-pixels p = let corner : ◌≡◌ {A = ℕ} 0 9 = (p.done (done-number p.answers)).pixels 0 0 (omega arith) (omega arith) in omega (arith, corner)

  -- P5, opened with the 5 pixels that 6 stands for on a diagonal
  pub line-by-length : OpensLine line 6 nines (2 ∷ rest) spare t' a → ⊥
  unfolding tables.each extremes.least extremes.greatest windows.opened
  line-by-length p =
      let first : ◌≡◌ {A = ℕ} 2 0 = ap (λ (l : List ℕ). get_or l 0 0) (p.written ∙ ap (λ (a : Answer). after a (front (opened line 6) nines) nines) p.answers) in
      omega (arith, first)

-- the light of the diagonal is 4 · 9
module _ {t' : List ℕ} {a : Answer} where
  -- with 4 bins the rest has it: 5 stands for 4 pixels
  pub rest-by-pixels : SumsFrame thread larger diagonal nines (0 ∷ 0 ∷ 0 ∷ 36 ∷ 0 ∷ []) spare t' a → ⊥
  unfolding tables.each extremes.least extremes.greatest extremes.total windows.opened measures.first_from lines.r
  rest-by-pixels p =
      let last : ◌≡◌ {A = ℕ} 0 36 = ap (λ (l : List ℕ). get_or l 4 0) (p.written ∙ ap (λ (a : Answer). after a (frame_sums thread larger diagonal 4) nines) p.answers) in
      omega (arith, last)

  -- with 5 bins the last of them
  pub shared-twice : SumsFrame thread larger diagonal (9 ∷ nines) (0 ∷ 0 ∷ 0 ∷ 36 ∷ 36 ∷ 0 ∷ []) spare t' a → ⊥
  unfolding tables.each extremes.least extremes.greatest extremes.total windows.opened measures.first_from lines.r
  shared-twice p =
      let fourth : ◌≡◌ {A = ℕ} 36 0 = ap (λ (l : List ℕ). get_or l 3 0) (p.written ∙ ap (λ (a : Answer). after a (frame_sums thread larger diagonal 5) (9 ∷ nines)) p.answers) in
      omega (arith, fourth)

-- ---- 'Numbers are decimal without leading zero'

-- the example's input with the direction number 00
pub leading_zero : {g' : List ℕ} {r : Outcome} → ReadsInput (68 ∷ 9 ∷ 48 ∷ drop 2 example_input) nines g' r → r.answer.number ≡ 0 → ⊥
unfolding head_of reading.number_on reading.number_of reading.field_of reading.fields_of reading.line_of reading.rows_of
leading_zero p z =
    let nine : ◌≡◌ {A = ℕ} 0 9 = sym z ∙ ap (λ (r : Outcome). r.answer.number) p.reads in
    omega (arith, nine)
