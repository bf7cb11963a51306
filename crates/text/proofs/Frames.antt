-- What a text holds that is read as a frame, and what the call leaves.
--   Below most vs    no value of vs is above `most`; fields_below, line-below, rows-below: no value read is
--   rows-many        the rows have height times width pixels
--   rows_shorter     two bytes a pixel at least
--   head_shorter     what follows the first two lines is no longer than the text
--   input_many, input_short, input_room    where no rule is broken: how many pixels the rows have, which are few and have room
--   input_refused, input_done    the outcome, where a rule is broken and where none is
--   input_copied     .. and once they are copied they stand at the front
-- Assumes nothing.
use mathlib.Core.Path.{◌≡◌, refl, sym, ap, ◌∙◌}
use mathlib.Core.Bool.{Bool, true, false, cond, ◌&&◌, false≢true}
use mathlib.Core.List.{List, [], ◌∷◌, ◌++◌}
use Prim.Native.Nat.{ℕ, zero, suc, ◌+◌, ◌*◌, ◌≤◌, zero-le}
use native.Mathlib.Nat.{suc-mul, mul_comm}
use native.Mathlib.Omega.{arith}
use lib.ListN.{length, get_or, take, drop, length-append}
use lib.Seq.{take_at}
use borrow.Author.Tests.{ltb-false, not-false}
use Rattle.std.specs.Prelude.{Ok, Err}
use Rattle.lists.specs.Stores.{front}
use Rattle.lists.proofs.Cases.{both_left}
use Rattle.answer.specs.declared.Answer.{Answer}
use Rattle.answer.specs.declared.Refusal.{Refusal}
use Rattle.answer.specs.Rules.{answer, done, after, by_number}
use Rattle.answer.specs.Refusals.{rule_of}
use Rattle.answer.proofs.Rules.{kept}
use Rattle.answer.proofs.Refusals.{refused_number}
use Rattle.text.specs.declared.input.Input.{Input}
use Rattle.text.specs.Lines.{feed}
use Rattle.text.specs.Reading.{largest_number, Values, valued, no_values, before, starts, field_of, fields_of, ended, line_of, rows_of}
use Rattle.text.specs.Inputs.{longest_input, head_of, direction_in, width_in, height_in, rows_in, input_rules, Outcome, outcome, input_of}
use Rattle.text.proofs.Readings.{field_bound}
use Rattle.text.proofs.Inputs.{line_shorter}
use Rattle.text.proofs.Goings.{line-many}

-- ---- values in their range

abbrev pub Below : ℕ → List ℕ → Type 0
Below most vs = (k : ℕ) → get_or vs k 0 ≤ most

below-cons : (most v : ℕ) (vs : List ℕ) → v ≤ most → Below most vs → Below most (v ∷ vs)
below-cons most v vs h b zero = h
below-cons most v vs h b (suc k) = b k

below-append : (most : ℕ) (xs ys : List ℕ) → Below most xs → Below most ys → Below most (xs ++ ys)
below-append most [] ys b c k = c k
below-append most (x ∷ xs) ys b c k = below-cons most x (xs ++ ys) (b zero) (below-append most xs ys (λ j. b (suc j)) c) k

below_fields : (most v : ℕ) (b : Bool) (r : Values) → (b ≡ true → v ≤ most) → (r.found ≡ true → Below most r.values) → (cond b (before (v ∷ []) r) no_values).found ≡ true
    → Below most (cond b (before (v ∷ []) r) no_values).values
below_fields most v true r h c e = below-cons most v r.values (h refl) (c e)
below_fields most v false r h c e = absurd (false≢true e)

pub fields_below : (most n : ℕ) (s : List ℕ) → (fields_of most n s).found ≡ true → Below most (fields_of most n s).values
unfolding fields_of
fields_below most zero s e = λ k. zero-le
fields_below most (suc n) s e =
    below_fields most (field_of most s).value (field_of most s).found (fields_of most n (field_of most s).rest) (field_bound most s) (fields_below most n (field_of most s).rest) e

below-line : (most : ℕ) (b a : Bool) (r : Values) → (r.found ≡ true → Below most r.values) → (r.found && a) ≡ b
    → (cond b (valued r.values (drop 1 r.rest)) no_values).found ≡ true → Below most (cond b (valued r.values (drop 1 r.rest)) no_values).values
below-line most true a r h q e = h (both_left r.found a q)
below-line most false a r h q e = absurd (false≢true e)

below_letter : (most : ℕ) (b : Bool) (r : Values) → (r.found ≡ true → Below most r.values) → (cond b (ended r) no_values).found ≡ true
    → Below most (cond b (ended r) no_values).values
below_letter most true r h e = below-line most (r.found && starts feed r.rest) (starts feed r.rest) r h refl e
below_letter most false r h e = absurd (false≢true e)

pub line-below : (b most n : ℕ) (s : List ℕ) → (line_of b most n s).found ≡ true → Below most (line_of b most n s).values
unfolding line_of
line-below b most n s e = below_letter most (starts b s) (fields_of most n (drop 1 s)) (fields_below most n (drop 1 s)) e

-- ---- rows

below_rows : (b : Bool) (xs : List ℕ) (r : Values) → (b ≡ true → Below 255 xs) → (r.found ≡ true → Below 255 r.values) → (cond b (before xs r) no_values).found ≡ true
    → Below 255 (cond b (before xs r) no_values).values
below_rows true xs r h c e = below-append 255 xs r.values (h refl) (c e)
below_rows false xs r h c e = absurd (false≢true e)

pub rows-below : (h w : ℕ) (s : List ℕ) → (rows_of h w s).found ≡ true → Below 255 (rows_of h w s).values
unfolding rows_of
rows-below zero w [] e = λ k. zero-le
rows-below zero w (c ∷ s) e = absurd (false≢true e)
rows-below (suc h) w s e =
    below_rows (line_of 82 255 w s).found (line_of 82 255 w s).values (rows_of h w (line_of 82 255 w s).rest) (line-below 82 255 w s) (rows-below h w (line_of 82 255 w s).rest) e

many-rows : (h w : ℕ) (b : Bool) (xs : List ℕ) (r : Values) → (b ≡ true → length xs ≡ w) → (r.found ≡ true → length r.values ≡ h * w) → (cond b (before xs r) no_values).found ≡ true
    → length (cond b (before xs r) no_values).values ≡ suc h * w
many-rows h w true xs r m c e = length-append xs r.values ∙ omega (arith, m refl, c e, suc-mul h w)
many-rows h w false xs r m c e = absurd (false≢true e)

pub rows-many : (h w : ℕ) (s : List ℕ) → (rows_of h w s).found ≡ true → length (rows_of h w s).values ≡ h * w
unfolding rows_of
rows-many zero w [] e = omega arith
rows-many zero w (c ∷ s) e = absurd (false≢true e)
rows-many (suc h) w s e =
    many-rows h w (line_of 82 255 w s).found (line_of 82 255 w s).values (rows_of h w (line_of 82 255 w s).rest) (line-many 82 255 w s) (rows-many h w (line_of 82 255 w s).rest) e

rows-shorter : (n : ℕ) (b : Bool) (xs t : List ℕ) (r : Values) → (b ≡ true → length t + 2 * length xs ≤ n) → (r.found ≡ true → 2 * length r.values ≤ length t)
    → (cond b (before xs r) no_values).found ≡ true → 2 * length (cond b (before xs r) no_values).values ≤ n
rows-shorter n true xs t r h c e = omega (arith, h refl, c e, length-append xs r.values)
rows-shorter n false xs t r h c e = absurd (false≢true e)

pub rows_shorter : (h w : ℕ) (s : List ℕ) → (rows_of h w s).found ≡ true → 2 * length (rows_of h w s).values ≤ length s
unfolding rows_of
rows_shorter zero w [] e = omega arith
rows_shorter zero w (c ∷ s) e = absurd (false≢true e)
rows_shorter (suc h) w s e =
    let line = line_of 82 255 w s in
    rows-shorter (length s) line.found line.values line.rest (rows_of h w line.rest) (line_shorter 82 255 w s) (rows_shorter h w line.rest) e

head-shorter : (n : ℕ) (b : Bool) (xs t : List ℕ) (r : Values) → (b ≡ true → length t ≤ n) → (r.found ≡ true → length r.rest ≤ length t)
    → (cond b (before xs r) no_values).found ≡ true → length (cond b (before xs r) no_values).rest ≤ n
head-shorter n true xs t r h c e = omega (arith, h refl, c e)
head-shorter n false xs t r h c e = absurd (false≢true e)

pub head_shorter : (s : List ℕ) → (head_of s).found ≡ true → length (head_of s).rest ≤ length s
unfolding head_of
head_shorter s e =
    let d = line_of 68 largest_number 1 s in
    head-shorter (length s) d.found d.values d.rest (line_of 70 largest_number 2 d.rest) (λ f. omega (arith, line_shorter 68 largest_number 1 s f)) (λ f. omega (arith, line_shorter 70 largest_number 2 d.rest f)) e

module _ (s : List ℕ) (room : ℕ) (e : done 0 ≡ answer (input_rules s room) 0) where
  input_kept : ((length s ≤ longest_input) × ((head_of s).found ≡ true)) × (((rows_in s).found ≡ true) × (width_in s * height_in s ≤ room))
  input_kept =
      let k = kept (input_rules s room) 0 refl (rw (sym e)) in
      ((ltb-false longest_input (length s) k.0, not-false (head_of s).found k.1.0), (not-false (rows_in s).found k.1.1.1.1.1.0, ltb-false room (width_in s * height_in s) k.1.1.1.1.1.1.0))

  pub input_many : length (rows_in s).values ≡ width_in s * height_in s
  input_many = rows-many (height_in s) (width_in s) (head_of s).rest input_kept.1.0 ∙ mul_comm (height_in s) (width_in s)

  pub input_short : 2 * (width_in s * height_in s) ≤ longest_input
  input_short = omega (arith, input_kept.0.0, input_many, head_shorter s input_kept.0.1, rows_shorter (height_in s) (width_in s) (head_of s).rest input_kept.1.0)

  pub input_room : width_in s * height_in s ≤ room
  input_room = input_kept.1.1

  input_pixels : (vs vs' : List ℕ) → vs' ≡ front (rows_in s).values vs → take (width_in s * height_in s) vs' ≡ (rows_in s).values
  input_pixels vs vs' h = rw h (take_at (rows_in s).values (drop (length (rows_in s).values) vs) (width_in s * height_in s) input_many)

  pub input_copied : (vs vs' dst : List ℕ) → vs' ≡ front (rows_in s).values vs → take (width_in s * height_in s) vs' ++ drop (width_in s * height_in s) dst ≡ front (rows_in s).values dst
  input_copied vs vs' dst h = rw (input_pixels vs vs' h, input_many)

-- ---- what the call hands back

outcome-refused : (a : Answer) (n d w h : ℕ) → (n ≡ 0 → ⊥)
    → ◌≡◌ {A = Outcome} (record { answer = a; direction = 0; width = 0; height = 0 }) (record { answer = a; direction = by_number n d 0; width = by_number n w 0; height = by_number n h 0 })
outcome-refused a zero d w h ne = absurd (ne refl)
outcome-refused a (suc n) d w h ne = refl

module _ (s : List ℕ) (room : ℕ) where
  pub input_refused : (e : Refusal) → (outcome (Err e)).answer ≡ answer (input_rules s room) 0 → outcome (Err e) ≡ input_of s room
  input_refused e same =
      outcome-refused (outcome (Err e)).answer (rule_of e) (direction_in s) (width_in s) (height_in s) (refused_number e)
      ∙ ap (λ (a : Answer). record { answer = a; direction = after a (direction_in s) 0; width = after a (width_in s) 0; height = after a (height_in s) 0 }) same

  pub input_done : (i : Input) → (outcome (Ok i)).answer ≡ answer (input_rules s room) 0 → i.direction ≡ direction_in s → i.width ≡ width_in s → i.height ≡ height_in s
      → outcome (Ok i) ≡ input_of s room
  input_done i same d w h =
      rw (d, w, h) (ap (λ (a : Answer). record { answer = a; direction = after a (direction_in s) 0; width = after a (width_in s) 0; height = after a (height_in s) 0 }) same)
