-- The two programs' texts: what the calls of the crate `text` write and read, from their contracts alone.
--   sums-text-is                         what a done `sums_text` leaves at the front of a destination, and its bytes
--   line-text-is, line-text-none         what `line_text` writes of a line, and that it changes nothing where it does not; line-text-room: room enough for it
--   refusal-text-is, refusal-text-none   the same of `refusal_text` and a refusal's number; refusal_nine: of number 9
--   input_given, given_input             `read_input` with room for the pixels takes just the inputs that the document allows, and hands back the frame whose
--                                        text they are: reading inverts the rendering
--   example_sums-text, example_sums_lem  the example of the program sums, byte for byte: of its sums, and from its input to its output
--   example_line-text, example_one-line, example_stretches_lem  the same of the program stretches
-- That the programs hand their input to these calls, and print what these write, no contract can say; check/programs runs them.
-- Assumes nothing.
use mathlib.Core.Path.{◌≡◌, refl, sym, ap, ap₂, subst, ◌∙◌}
use mathlib.Core.Bool.{true}
use mathlib.Core.List.{List, [], ◌∷◌, ◌++◌}
use mathlib.Core.Logic.{◌⊎◌, ⊎_elim}
use Prim.Native.Nat.{ℕ, zero, suc, ◌+◌, ◌-◌, ◌*◌, ◌≤◌, ◌<◌}
use native.Mathlib.Omega.{arith}
use lib.IntN.{ℤ, pos}
use lib.ListN.{length, get_or, take, drop}
use borrow.Author.Tests.{ltb-false, not-false, lt-leb, le-leb}
use Rattle.lists.specs.Tables as tables
use Rattle.lists.specs.Extremes as extremes
use Rattle.lists.specs.Stores.{front}
use Rattle.lists.proofs.Members.{all_of}
use Rattle.answer.specs.declared.Answer.{Answer}
use Rattle.answer.specs.Limits.{longest}
use Rattle.answer.specs.Rules.{answer, done, after}
use Rattle.answer.proofs.Rules.{after-done, outside_not, not_outside}
use Rattle.line.specs.Windows as windows
use Rattle.frame.specs.Direction.{numbered_of}
use Rattle.frame.specs.Shape.{shape}
use Rattle.frame.specs.Length as measures
use Rattle.frame.specs.Lines as lines
use Rattle.frame.specs.Lines.{line_read, lines_of, pixels}
use Rattle.gathering.specs.Gathering.{Gathers}
use Rattle.sizes.specs.Sums.{frame_sums}
use Rattle.sizes.specs.Frame.{SumsFrame}
use Rattle.text.specs.Inputs.{Outcome}
use Rattle.text.specs.Decimal.{digits, decimal}
use Rattle.text.specs.Lines.{fields_text}
use Rattle.text.specs.Reading.{Values}
use Rattle.text.specs.Inputs.{longest_input, frame_text, direction_in, width_in, height_in, rows_in, head_of, input_rules, ReadsInput}
use Rattle.text.specs.Stretches.{line_report, refusal_text, PrintsLine, PrintsRefusal}
use Rattle.text.specs.Sums.{sums_text, WritesSums}
use Rattle.text.proofs.Texts.{sums_example}
use Rattle.text.proofs.Reports.{report_fits, report_some, printable, too_long, no_room, refusal_is, refusal-length, line_example}
use Rattle.text.proofs.Frames.{rows-below, rows-many}
use Rattle.text.proofs.Inputs.{input_example, head_found, frame-written, accepted-text, text-accepted}
use Rattle.theorems.specs.Marked.{line}
use Rattle.theorems.specs.Texts.{example_input, example_stretches, example_sums, Given}
use Rattle.theorems.proofs.Refusals.{gather_settled, sums-text-settled, read_input_settled}

-- ---- the sums text

module _ {d : ℕ} {s dst dst' : List ℕ} {a : Answer} (p : WritesSums d s dst dst' a) (z : a.number ≡ 0) where
  -- 'a call writes what the program sums prints, from a direction number and a sums slice, to a destination's front'; it hands back 'its bytes'
  pub sums-text-is : (dst' ≡ front (sums_text d s) dst) × (a.figure ≡ length (sums_text d s))
  sums-text-is =
      let t = sums-text-settled p in
      (p.written ∙ after-done a (front (sums_text d s) dst) dst z, ap (λ (a : Answer). a.figure) (t.done_if (t.only_if z)))

-- 'prints for the same input `G`, direction, K; `B`, length, sum for each bin; `T`, rest'
pub example_sums-text : {dst dst' : List ℕ} {a : Answer} → WritesSums 0 (2 ∷ 4 ∷ 3 ∷ 10 ∷ []) dst dst' a → a.number ≡ 0
    → (dst' ≡ front example_sums dst) × (a.figure ≡ length example_sums)
example_sums-text {dst} p z =
    let t = sums-text-is p z in
    (t.0 ∙ ap (λ (t : List ℕ). front t dst) sums_example, t.1 ∙ ap length sums_example)

-- ---- what is printed of a line and of a refusal

module _ {z : ℤ} {f dst dst' : List ℕ} {n : ℕ} (p : PrintsLine z f dst dst' n) where
  -- '`L`, line number, pixel count, then its `Z` lines: start, end, level, base'; of the fifth number: '`Z` lines gain it as their last field'; no text has 0 bytes
  pub line-text-is : length f ≤ longest → length (line_report z f) ≤ length dst → (dst' ≡ front (line_report z f) dst) × (n ≡ length (line_report z f)) × (0 < n)
  line-text-is short fit =
      let ok = printable z f (length dst) short fit in
      let bytes : n ≡ length (line_report z f) = p.text.bytes ∙ rw ok in
      (p.text.written ∙ rw ok, bytes, omega (arith, bytes, report_some z f))

  pub line-text-none : (longest < length f) ⊎ (length dst < length (line_report z f)) → (n ≡ 0) × (dst' ≡ dst)
  line-text-none why =
      let not = ⊎_elim (too_long z f (length dst)) (no_room z f (length dst)) why in
      (p.text.bytes ∙ rw not, p.text.written ∙ rw not)

-- 64 bytes, and 107 a pixel, are always room enough: an `L` line has at most 64, a `Z` line at most 107, and a line no more stretches than pixels
pub line-text-room : (z : ℤ) (f : List ℕ) → length (line_report z f) ≤ 64 + 107 * length f
line-text-room = report_fits

-- the line 3 5 5 2 4, which is number 0
pub example_line-text : {dst dst' : List ℕ} {n : ℕ} → PrintsLine (pos 0) line dst dst' n → length example_stretches ≤ length dst
    → (dst' ≡ front example_stretches dst) × (n ≡ length example_stretches)
example_line-text {dst} p fit =
    let t = line-text-is p (omega arith) (rw line_example fit) in
    (t.0 ∙ ap (λ (t : List ℕ). front t dst) line_example, t.1 ∙ ap length line_example)

module _ {k : ℕ} {dst dst' : List ℕ} {n : ℕ} (p : PrintsRefusal k dst dst' n) where
  -- 'A refusal prints `E` and the number only': `E` is 69, a tab 9, a line feed 10
  pub refusal-text-is : 3 + length (decimal k) ≤ length dst → (dst' ≡ front (69 ∷ 9 ∷ (decimal k ++ (10 ∷ []))) dst) × (n ≡ 3 + length (decimal k))
  refusal-text-is fit =
      let ok = le-leb (length (refusal_text k)) (length dst) (omega (arith, refusal-length k)) in
      (p.text.written ∙ rw ok (ap (λ (t : List ℕ). front t dst) (refusal_is k)), p.text.bytes ∙ rw ok (refusal-length k))

  pub refusal-text-none : length dst < 3 + length (decimal k) → (n ≡ 0) × (dst' ≡ dst)
  refusal-text-none small =
      let not = lt-leb (length (refusal_text k)) (length dst) (omega (arith, refusal-length k)) in
      (p.text.bytes ∙ rw not, p.text.written ∙ rw not)

pub refusal_nine : refusal_text 9 ≡ 69 ∷ 9 ∷ 57 ∷ 10 ∷ []
unfolding fields_text digits
refusal_nine = refl

-- ---- the input

module _ {s dst dst' : List ℕ} {r : Outcome} (p : ReadsInput s dst dst' r) where
  -- a text that the call takes is one that the document allows, and the text of the frame that is handed back
  pub input_given : r.answer.number ≡ 0 → (ps : List ℕ) × Given s r.direction r.width r.height ps × (dst' ≡ front ps dst)
  input_given z =
      let a = answer (input_rules s (length dst)) 0 in
      let k = (read_input_settled p).only_if z in
      let zero_is : a.number ≡ 0 = ap (λ (r : Outcome). r.answer.number) (sym p.reads) ∙ z in
      let d-is : r.direction ≡ direction_in s = ap (λ (r : Outcome). r.direction) p.reads ∙ after-done a (direction_in s) 0 zero_is in
      let w-is : r.width ≡ width_in s = ap (λ (r : Outcome). r.width) p.reads ∙ after-done a (width_in s) 0 zero_is in
      let h-is : r.height ≡ height_in s = ap (λ (r : Outcome). r.height) p.reads ∙ after-done a (height_in s) 0 zero_is in
      let found : (rows_in s).found ≡ true = not-false (rows_in s).found k.1.1.1.1.1.0 in
      let given : Given s (direction_in s) (width_in s) (height_in s) (rows_in s).values =
      record {
        is = accepted-text s (length dst) zero_is;
        size = ltb-false longest_input (length s) k.0;
        numbered = ltb-false 15 (direction_in s) k.1.1.1.1.0;
        wide = outside_not 1 longest (width_in s) k.1.1.0;
        high = outside_not 1 longest (height_in s) k.1.1.1.0;
        many = rows-many (height_in s) (width_in s) (head_of s).rest found;
        dim = rows-below (height_in s) (width_in s) (head_of s).rest found;
      } in
      ((rows_in s).values, rw (d-is, w-is, h-is) given, p.written ∙ after-done r.answer (front (rows_in s).values dst) dst z)

read_back : (d w h : ℕ) (ps : List ℕ) {dst dst' : List ℕ} {r : Outcome} → ReadsInput (frame_text d w h ps) dst dst' r → Given (frame_text d w h ps) d w h ps → w * h ≤ length dst
    → (r ≡ record { answer = done 0; direction = d; width = w; height = h }) × (dst' ≡ front ps dst)
read_back d w h ps {dst} {dst'} {r} p g room =
    let s = frame_text d w h ps in
    let dim = all_of (λ (v : ℕ). v ≤ 255) 0 ps (λ k h. g.dim k) in
    let wide = not_outside 1 longest w g.wide.0 g.wide.1 in
    let high = not_outside 1 longest h g.high.0 g.high.1 in
    let e = text-accepted d w h ps (length dst) g.numbered wide high g.many dim g.size room in
    let head = head_found d w h ps (omega (arith, g.numbered)) (omega (arith, g.wide.1)) (omega (arith, g.high.1)) in
    let rows = frame-written d w h ps (omega (arith, g.numbered)) (omega (arith, g.wide.1)) (omega (arith, g.high.1)) g.many dim in
    let handed : Answer → Values → Outcome =
    λ (a : Answer) (v : Values). record { answer = a; direction = after a (get_or v.values 0 0) 0; width = after a (get_or v.values 1 0) 0; height = after a (get_or v.values 2 0) 0 } in
    let is : r ≡ record { answer = done 0; direction = d; width = w; height = h } = p.reads ∙ ap₂ handed e head in
    let z : r.answer.number ≡ 0 = ap (λ (r : Outcome). r.answer.number) is in
    (is, p.written ∙ after-done r.answer (front (rows_in s).values dst) dst z ∙ ap (λ (v : Values). front v.values dst) rows)

module _ {s dst dst' : List ℕ} {r : Outcome} {d w h : ℕ} {ps : List ℕ} where
  -- an input that the document allows is read, given room for its pixels, and the frame is the one whose text it is
  pub given_input : ReadsInput s dst dst' r → Given s d w h ps → w * h ≤ length dst
      → (r ≡ record { answer = done 0; direction = d; width = w; height = h }) × (dst' ≡ front ps dst)
  given_input p g room =
      let q : ReadsInput (frame_text d w h ps) dst dst' r = subst (λ (s : List ℕ). ReadsInput s dst dst' r) g.is p in
      let k : Given (frame_text d w h ps) d w h ps = subst (λ (s : List ℕ). Given s d w h ps) g.is g in
      read_back d w h ps q k room

-- ---- the example of the programs, from their input to their output: the calls that each makes, one after the other

dim-line : (k : ℕ) → get_or line k 0 ≤ 255
dim-line zero = omega arith
dim-line (suc zero) = omega arith
dim-line (suc (suc zero)) = omega arith
dim-line (suc (suc (suc zero))) = omega arith
dim-line (suc (suc (suc (suc zero)))) = omega arith
dim-line (suc (suc (suc (suc (suc k))))) = omega arith

example_given : Given example_input 0 5 1 line
example_given =
    record {
      is = sym input_example;
      size = omega arith;
      numbered = omega arith;
      wide = (omega arith, omega arith);
      high = (omega arith, omega arith);
      many = refl;
      dim = dim-line;
    }

example_bins : (rest : List ℕ) → frame_sums (line ++ rest) (shape 5 1 5) (numbered_of 0) 3 ≡ 2 ∷ 4 ∷ 3 ∷ 10 ∷ []
unfolding tables.each extremes.least extremes.greatest extremes.total windows.opened measures.first_from lines.r
example_bins rest = refl

-- with four entries for the sums: 'K fixed at 3'
module _ {px px' sums sums' t t' out out' : List ℕ} {r : Outcome} {b a : Answer} where
  pub example_sums_lem : ReadsInput example_input px px' r → 5 ≤ length px → length sums ≡ 4
      → SumsFrame px' (shape r.width r.height r.width) (numbered_of r.direction) sums sums' t t' b → b.number ≡ 0
      → WritesSums r.direction sums' out out' a → a.number ≡ 0 → (out' ≡ front example_sums out) × (a.figure ≡ length example_sums)
  example_sums_lem p room four q y w z =
      let read = given_input p example_given room in
      let handed : Outcome → List ℕ → ℕ → List ℕ =
      λ (r : Outcome) (f : List ℕ) (n : ℕ). frame_sums f (shape r.width r.height r.width) (numbered_of r.direction) (n - 1) in
      let filled : sums' ≡ handed r px' (length sums) = q.written ∙ after-done b (handed r px' (length sums)) sums y in
      let bins : sums' ≡ 2 ∷ 4 ∷ 3 ∷ 10 ∷ [] =
      filled ∙ ap (λ (n : ℕ). handed r px' n) four ∙ ap₂ (λ (r : Outcome) (f : List ℕ). handed r f 4) read.0 read.1 ∙ example_bins (drop 5 px) in
      let writes : WritesSums 0 sums' out out' a = subst (λ (r : Outcome). WritesSums r.direction sums' out out' a) read.0 w in
      example_sums-text (subst (λ (s : List ℕ). WritesSums 0 s out out' a) bins writes) z

-- the frame of the example has one line, number 0
pub example_one-line : lines_of (shape 5 1 5) (numbered_of 0) ≡ record { first = pos 0; count = 1 }
unfolding lines.r
example_one-line = refl

example_count : length (pixels (shape 5 1 5) (numbered_of 0) (pos 0)) ≡ 5
unfolding tables.each lines.r
example_count = refl

example_line : (rest : List ℕ) → line_read (line ++ rest) (shape 5 1 5) (numbered_of 0) (pos 0) ≡ line
unfolding tables.each lines.r
example_line rest = refl

module _ {px px' buf buf' out out' : List ℕ} {r : Outcome} {b : Answer} {n : ℕ} where
  pub example_stretches_lem : ReadsInput example_input px px' r → 5 ≤ length px
      → Gathers px' (shape r.width r.height r.width) (numbered_of r.direction) (pos 0) buf buf' b → b.number ≡ 0
      → PrintsLine (pos 0) (take b.figure buf') out out' n → length example_stretches ≤ length out
      → (out' ≡ front example_stretches out) × (n ≡ length example_stretches)
  example_stretches_lem p room q y w fit =
      let read = given_input p example_given room in
      let of-frame : Gathers px' (shape 5 1 5) (numbered_of 0) (pos 0) buf buf' b =
      subst (λ (r : Outcome). Gathers px' (shape r.width r.height r.width) (numbered_of r.direction) (pos 0) buf buf' b) read.0 q in
      let g : Gathers (line ++ drop 5 px) (shape 5 1 5) (numbered_of 0) (pos 0) buf buf' b =
      subst (λ (f : List ℕ). Gathers f (shape 5 1 5) (numbered_of 0) (pos 0) buf buf' b) read.1 of-frame in
      let s = gather_settled g in
      let five : b.figure ≡ 5 = ap (λ (a : Answer). a.figure) (s.done_if (s.only_if y)) ∙ example_count in
      let stored : buf' ≡ front line buf =
      g.written ∙ after-done b (front (line_read (line ++ drop 5 px) (shape 5 1 5) (numbered_of 0) (pos 0)) buf) buf y ∙ ap (λ (l : List ℕ). front l buf) (example_line (drop 5 px)) in
      let taken : take b.figure buf' ≡ line = ap₂ (λ (n : ℕ) (l : List ℕ). take n l) five stored in
      example_line-text (subst (λ (l : List ℕ). PrintsLine (pos 0) l out out' n) taken w) fit
