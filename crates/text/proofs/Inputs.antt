-- The programs' input: what is read is there as text, and what is there as text is read.
--   number-sound, field_sound, fields_sound, line-sound, rows-sound    a text starts with what is found in it
--   number-found, fields_found, line-found, rows-found                 what a text starts with is found
--   frame-read       a text in which the first two lines and the rows are found is the text of the frame that is read
--   head_found, frame-written    in the text of a frame both are found, and the frame is read from it
--   accepted-text, text-accepted the texts that no rule refuses are those of the frames whose numbers are in their ranges
--   outcome_once     no two results of `read_input` have one outcome
--   input_example    the input of document 01's example
-- Assumes nothing.
use mathlib.Core.Path.{◌≡◌, refl, sym, ap, ap₂, ◌∙◌}
use mathlib.Core.Bool.{Bool, true, false, cond, ◌&&◌, false≢true}
use mathlib.Core.List.{List, [], ◌∷◌, ◌++◌, append_assoc}
use mathlib.Core.Logic.{⊎_elim}
use Prim.Native.Nat.{ℕ, zero, suc, ◌+◌, ◌-◌, ◌*◌, ◌/◌, ◌%◌, ◌≤◌, ◌<◌}
use native.Mathlib.Nat.{suc-mul, le_refl}
use native.Mathlib.Omega.{arith}
use lib.Dec.{ltb, leb, eqb}
use lib.ListN.{length, get_or, take, drop, take-append-drop, length-append, length-drop}
use lib.Seq.{take_at, drop_at, length-take-le}
use borrow.Author.Tests.{lt-ltb, le-ltb, le-leb, eqb-true, eq-eqb, not-false}
use Rattle.std.specs.Prelude.{Result, Ok, Err}
use Rattle.answer.specs.declared.Refusal.{Refusal}
use Rattle.answer.specs.declared.Refusal.TheVariants.{Size}
use Rattle.answer.specs.Limits.{longest}
use Rattle.answer.specs.Rules.{answer, done, outside}
use Rattle.answer.proofs.Rules.{kept, outside_not}
use Rattle.answer.proofs.Refusals.{counted_once, refused_number}
use Rattle.lists.specs.Members.{All}
use Rattle.lists.proofs.Cases.{less_or_not, both, both_left, both_right}
use Rattle.lists.proofs.Members.{all_take, all_drop}
use Rattle.text.specs.Decimal.{digits, decimal}
use Rattle.text.specs.Lines.{tab, feed, fields_text, line_text}
use Rattle.text.specs.Reading.{largest_number, is_digit, goes_on, Numeral, numeral, no_numeral, number_on, number_of, starts, at_most, field_of, Values, valued, no_values, before, fields_of, ended, line_of, rows_of}
use Rattle.text.specs.declared.input.Input.{Input}
use Rattle.text.specs.Inputs.{longest_input, rows_text, frame_text, head_of, direction_in, width_in, height_in, rows_in, input_rules, Outcome, outcome}
use Rattle.text.proofs.Decimals.{decimal-one, decimal-more, decimal-some}
use Rattle.text.proofs.Runs.{fields_least}
use Rattle.text.proofs.Readings.{digit_facts, goes_facts}
use Rattle.text.proofs.Goings.{line-many}

-- ---- numbers

-- one digit more
digit_more : (v c : ℕ) → 0 < v → v ≤ largest_number → 48 ≤ c → c ≤ 57 → decimal (10 * v + (c - 48)) ≡ decimal v ++ (c ∷ [])
digit_more v c some small low high =
    let n = 10 * v + (c - 48) in
    let front : (10 * v + (c - 48)) / 10 ≡ v = omega arith in
    let last : 48 + (10 * v + (c - 48)) % 10 ≡ c = omega arith in
    decimal-more n (omega arith) (omega arith) ∙ ap₂ (λ (m d : ℕ). decimal m ++ (d ∷ [])) front last

-- the text of the value so far, and what follows, is the text of the number, and what follows that
sound-on : (v : ℕ) (s : List ℕ) → decimal v ++ s ≡ decimal (number_on v s).value ++ (number_on v s).rest
unfolding number_on
sound-on v [] = refl
sound-on v (c ∷ s) = go (sound-on (10 * v + (c - 48)) s) (goes_on v c) refl
  where
    go : decimal (10 * v + (c - 48)) ++ s ≡ decimal (number_on (10 * v + (c - 48)) s).value ++ (number_on (10 * v + (c - 48)) s).rest
        → (b : Bool) → goes_on v c ≡ b
        → decimal v ++ (c ∷ s) ≡ decimal (cond b (number_on (10 * v + (c - 48)) s) (numeral v (c ∷ s))).value ++ (cond b (number_on (10 * v + (c - 48)) s) (numeral v (c ∷ s))).rest
    go more true e =
        let facts = goes_facts v c e in
        sym (append_assoc (decimal v) (c ∷ []) s) ∙ ap (λ (l : List ℕ). l ++ s) (sym (digit_more v c facts.0 facts.1 facts.2 facts.3)) ∙ more
    go more false e = refl

pub number-sound : (s : List ℕ) → (number_of s).found ≡ true → s ≡ decimal (number_of s).value ++ (number_of s).rest
unfolding number_of
number-sound [] e = absurd (false≢true e)
number-sound (c ∷ s) e = go (is_digit c) refl e
  where
    go : (b : Bool) → is_digit c ≡ b → (cond b (number_on (c - 48) s) no_numeral).found ≡ true
        → c ∷ s ≡ decimal (cond b (number_on (c - 48) s) no_numeral).value ++ (cond b (number_on (c - 48) s) no_numeral).rest
    go true q f =
        let facts = digit_facts c q in
        let same : 48 + (c - 48) ≡ c = omega (arith, facts.0) in
        ap (λ (d : ℕ). d ∷ s) (sym same) ∙ ap (λ (l : List ℕ). l ++ s) (sym (decimal-one (c - 48) (omega (arith, facts.1)))) ∙ sound-on (c - 48) s
    go false q f = absurd (false≢true f)

-- a number's text, whatever follows, is read as its value, which may go on
found-one : (n : ℕ) (t : List ℕ) → n < 10 → number_of (decimal n ++ t) ≡ number_on n t
unfolding number_of
found-one n t l =
    let digit : is_digit (48 + n) ≡ true = both (leb 48 (48 + n)) (leb (48 + n) 57) (le-leb 48 (48 + n) (omega arith)) (le-leb (48 + n) 57 (omega arith)) in
    let same : 48 + n - 48 ≡ n = omega arith in
    ap (λ (l : List ℕ). number_of (l ++ t)) (decimal-one n l) ∙ simp (digit, same)

on-more : (n : ℕ) (t : List ℕ) → 10 ≤ n → n ≤ largest_number → number_on (n / 10) ((48 + n % 10) ∷ t) ≡ number_on n t
unfolding number_on
on-more n t some small =
    let digit : is_digit (48 + n % 10) ≡ true = both (leb 48 (48 + n % 10)) (leb (48 + n % 10) 57) (le-leb 48 (48 + n % 10) (omega arith)) (le-leb (48 + n % 10) 57 (omega arith)) in
    let goes : goes_on (n / 10) (48 + n % 10) ≡ true =
    both (ltb 0 (n / 10)) (leb (n / 10) largest_number && is_digit (48 + n % 10)) (lt-ltb 0 (n / 10) (omega arith)) (both (leb (n / 10) largest_number) (is_digit (48 + n % 10)) (le-leb (n / 10) largest_number (omega arith)) digit) in
    let same : 10 * (n / 10) + (48 + n % 10 - 48) ≡ n = omega arith in
    rw goes (ap (λ (m : ℕ). number_on m t) same)

found-more : (n : ℕ) (t : List ℕ) → 10 ≤ n → n ≤ largest_number → number_of (decimal (n / 10) ++ ((48 + n % 10) ∷ t)) ≡ number_on (n / 10) ((48 + n % 10) ∷ t) → number_of (decimal n ++ t) ≡ number_on n t
found-more n t some small h =
    ap (λ (l : List ℕ). number_of (l ++ t)) (decimal-more n some (omega arith))
    ∙ ap number_of (append_assoc (decimal (n / 10)) ((48 + n % 10) ∷ []) t)
    ∙ h
    ∙ on-more n t some small

found_below : (k n : ℕ) (t : List ℕ) → n ≤ k → n ≤ largest_number → number_of (decimal n ++ t) ≡ number_on n t
found_below zero n t below small = found-one n t (omega arith)
found_below (suc k) n t below small =
    ⊎_elim (λ l. found-one n t l)
    (λ g. found-more n t g small (found_below k (n / 10) ((48 + n % 10) ∷ t) (omega arith) (omega arith)))
    (less_or_not n 10)

-- what starts with a tab or a line feed, or is nothing, goes on no number
abbrev Stops : List ℕ → Type 0
Stops t = (v : ℕ) → number_on v t ≡ numeral v t

stops : (v c : ℕ) (t : List ℕ) → is_digit c ≡ false → number_on v (c ∷ t) ≡ numeral v (c ∷ t)
unfolding number_on
stops v c t e = go (ltb 0 v) (leb v largest_number)
  where
    go : (a b : Bool) → cond (a && (b && is_digit c)) (number_on (10 * v + (c - 48)) t) (numeral v (c ∷ t)) ≡ numeral v (c ∷ t)
    go true true = rw e
    go true false = refl
    go false b = refl

pub number-found : (n : ℕ) (t : List ℕ) → n ≤ largest_number → Stops t → number_of (decimal n ++ t) ≡ numeral n t
number-found n t small stop = found_below n n t (omega arith) small ∙ stop n

-- ---- fields

pub field_sound : (most : ℕ) (s : List ℕ) → (field_of most s).found ≡ true → s ≡ (tab ∷ decimal (field_of most s).value) ++ (field_of most s).rest
unfolding field_of
field_sound most [] e = absurd (false≢true e)
field_sound most (c ∷ s) e = go (eqb c tab) refl e
  where
    kept : (g : Numeral) → (g.found ≡ true → s ≡ decimal g.value ++ g.rest) → (b : Bool) → (g.found && leb g.value most) ≡ b → (cond b g no_numeral).found ≡ true
        → s ≡ decimal (cond b g no_numeral).value ++ (cond b g no_numeral).rest
    kept g h true q f = h (both_left g.found (leb g.value most) q)
    kept g h false q f = absurd (false≢true f)

    go : (b : Bool) → eqb c tab ≡ b → (cond b (at_most most (number_of s)) no_numeral).found ≡ true
        → c ∷ s ≡ (tab ∷ decimal (cond b (at_most most (number_of s)) no_numeral).value) ++ (cond b (at_most most (number_of s)) no_numeral).rest
    go true q f = ap₂ (λ (d : ℕ) (l : List ℕ). d ∷ l) (eqb-true c tab q) (kept (number_of s) (number-sound s) ((number_of s).found && leb (number_of s).value most) refl f)
    go false q f = absurd (false≢true f)

pub field_found : (most n : ℕ) (t : List ℕ) → n ≤ most → most ≤ largest_number → Stops t → field_of most ((tab ∷ decimal n) ++ t) ≡ numeral n t
unfolding field_of
field_found most n t small range stop = rw (number-found n t (omega arith) stop) (simp (le-leb n most small))

pub fields_sound : (most n : ℕ) (s : List ℕ) → (fields_of most n s).found ≡ true → s ≡ fields_text (fields_of most n s).values ++ (fields_of most n s).rest
unfolding fields_of fields_text
fields_sound most zero s e = refl
fields_sound most (suc n) s e = go (fields_sound most n (field_of most s).rest) (field_of most s).found refl e
  where
    go : ((fields_of most n (field_of most s).rest).found ≡ true → (field_of most s).rest ≡ fields_text (fields_of most n (field_of most s).rest).values ++ (fields_of most n (field_of most s).rest).rest)
        → (b : Bool) → (field_of most s).found ≡ b → (cond b (before ((field_of most s).value ∷ []) (fields_of most n (field_of most s).rest)) no_values).found ≡ true
        → s ≡ fields_text (cond b (before ((field_of most s).value ∷ []) (fields_of most n (field_of most s).rest)) no_values).values
        ++ (cond b (before ((field_of most s).value ∷ []) (fields_of most n (field_of most s).rest)) no_values).rest
    go more true q f =
        field_sound most s q ∙ ap (λ (l : List ℕ). (tab ∷ decimal (field_of most s).value) ++ l) (more f)
        ∙ sym (append_assoc (tab ∷ decimal (field_of most s).value) (fields_text (fields_of most n (field_of most s).rest).values) (fields_of most n (field_of most s).rest).rest)
    go more false q f = absurd (false≢true f)

-- no value is above `most`
abbrev pub Within : ℕ → List ℕ → Type 0
Within most vs = All (λ (v : ℕ). v ≤ most) vs

-- what follows a field is a tab or the line feed
field_stops : (vs t : List ℕ) → Stops (fields_text vs ++ (feed ∷ t))
unfolding fields_text
field_stops [] t = λ v. stops v feed t refl
field_stops (x ∷ vs) t = λ v. stops v tab (decimal x ++ fields_text vs ++ (feed ∷ t)) refl

pub fields_found : (most : ℕ) (vs t : List ℕ) → most ≤ largest_number → Within most vs → fields_of most (length vs) (fields_text vs ++ (feed ∷ t)) ≡ valued vs (feed ∷ t)
unfolding fields_of fields_text All
fields_found most [] t range w = refl
fields_found most (v ∷ vs) t range w =
    let here = field_found most v (fields_text vs ++ (feed ∷ t)) w.0 range (field_stops vs t) in
    rw (append_assoc (tab ∷ decimal v) (fields_text vs) (feed ∷ t), here, fields_found most vs t range w.1)

-- ---- lines

pub line-sound : (b most n : ℕ) (s : List ℕ) → (line_of b most n s).found ≡ true → s ≡ line_text b (line_of b most n s).values ++ (line_of b most n s).rest
unfolding line_of
line-sound b most n [] e = absurd (false≢true e)
line-sound b most n (c ∷ s) e = go (eqb c b) refl e
  where
    closed : (vs t : List ℕ) → starts feed t ≡ true → t ≡ feed ∷ drop 1 t
    closed vs [] q = absurd (false≢true q)
    closed vs (d ∷ t) q = ap (λ (x : ℕ). x ∷ t) (eqb-true d feed q)

    kept : (r : Values) → (r.found ≡ true → s ≡ fields_text r.values ++ r.rest) → (a : Bool) → (r.found && starts feed r.rest) ≡ a
        → (cond a (valued r.values (drop 1 r.rest)) no_values).found ≡ true
        → s ≡ (fields_text (cond a (valued r.values (drop 1 r.rest)) no_values).values ++ (feed ∷ [])) ++ (cond a (valued r.values (drop 1 r.rest)) no_values).rest
    kept r h true q f =
        h (both_left r.found (starts feed r.rest) q)
        ∙ ap (λ (l : List ℕ). fields_text r.values ++ l) (closed r.values r.rest (both_right r.found (starts feed r.rest) q))
        ∙ sym (append_assoc (fields_text r.values) (feed ∷ []) (drop 1 r.rest))
    kept r h false q f = absurd (false≢true f)

    go : (a : Bool) → eqb c b ≡ a → (cond a (ended (fields_of most n s)) no_values).found ≡ true
        → c ∷ s ≡ line_text b (cond a (ended (fields_of most n s)) no_values).values ++ (cond a (ended (fields_of most n s)) no_values).rest
    go true q f =
        ap₂ (λ (d : ℕ) (l : List ℕ). d ∷ l) (eqb-true c b q)
        (kept (fields_of most n s) (fields_sound most n s) ((fields_of most n s).found && starts feed (fields_of most n s).rest) refl f)
    go false q f = absurd (false≢true f)

pub line-found : (b most : ℕ) (vs t : List ℕ) → most ≤ largest_number → Within most vs → line_of b most (length vs) (line_text b vs ++ t) ≡ valued vs t
unfolding line_of
line-found b most vs t range w =
    let same : (fields_text vs ++ (feed ∷ [])) ++ t ≡ fields_text vs ++ (feed ∷ t) = append_assoc (fields_text vs) (feed ∷ []) t in
    rw (eq-eqb b b refl, same, fields_found most vs t range w)

-- ---- a text is longer than what follows its values, by two bytes a value

pub field_shorter : (most : ℕ) (s : List ℕ) → (field_of most s).found ≡ true → length (field_of most s).rest + 2 ≤ length s
field_shorter most s e =
    let v = (field_of most s).value in
    omega (arith, ap length (field_sound most s e), length-append (tab ∷ decimal v) (field_of most s).rest, decimal-some v)

pub line_shorter : (b most n : ℕ) (s : List ℕ) → (line_of b most n s).found ≡ true → length (line_of b most n s).rest + 2 * length (line_of b most n s).values ≤ length s
line_shorter b most n s e =
    let vs = (line_of b most n s).values in
    omega (arith, ap length (line-sound b most n s e), length-append (line_text b vs) (line_of b most n s).rest, length-append (fields_text vs) (feed ∷ []), fields_least vs)

-- ---- rows

pub rows-sound : (h w : ℕ) (s : List ℕ) → (rows_of h w s).found ≡ true → s ≡ rows_text h w (rows_of h w s).values
unfolding rows_of rows_text
rows-sound zero w [] e = refl
rows-sound zero w (c ∷ s) e = absurd (false≢true e)
rows-sound (suc h) w s e = go (rows-sound h w (line_of 82 255 w s).rest) (line_of 82 255 w s).found refl e
  where
    go : ((rows_of h w (line_of 82 255 w s).rest).found ≡ true → (line_of 82 255 w s).rest ≡ rows_text h w (rows_of h w (line_of 82 255 w s).rest).values)
        → (b : Bool) → (line_of 82 255 w s).found ≡ b → (cond b (before (line_of 82 255 w s).values (rows_of h w (line_of 82 255 w s).rest)) no_values).found ≡ true
        → s ≡ rows_text (suc h) w (cond b (before (line_of 82 255 w s).values (rows_of h w (line_of 82 255 w s).rest)) no_values).values
    go more true q f =
        let row = (line_of 82 255 w s).values in
        let others = (rows_of h w (line_of 82 255 w s).rest).values in
        let many = line-many 82 255 w s q in
        line-sound 82 255 w s q ∙ ap (λ (l : List ℕ). line_text 82 row ++ l) (more f)
        ∙ sym (ap₂ (λ (x y : List ℕ). line_text 82 x ++ rows_text h w y) (take_at row others w many) (drop_at row others w many))
    go more false q f = absurd (false≢true f)

pub rows-found : (h w : ℕ) (ps : List ℕ) → length ps ≡ h * w → Within 255 ps → rows_of h w (rows_text h w ps) ≡ valued ps []
unfolding rows_of rows_text
rows-found zero w [] e d = refl
rows-found zero w (p ∷ ps) e d = absurd (omega (arith, e))
rows-found (suc h) w ps e d =
    let size = e ∙ suc-mul h w in
    let many = length-take-le w ps (omega arith) in
    let others = rows-found h w (drop w ps) (omega (arith, length-drop w ps)) (all_drop (λ (v : ℕ). v ≤ 255) w ps d) in
    let row : line_of 82 255 w (line_text 82 (take w ps) ++ rows_text h w (drop w ps)) ≡ valued (take w ps) (rows_text h w (drop w ps)) =
    ap (λ (n : ℕ). line_of 82 255 n (line_text 82 (take w ps) ++ rows_text h w (drop w ps))) (sym many)
    ∙ line-found 82 255 (take w ps) (rows_text h w (drop w ps)) (omega arith) (all_take (λ (v : ℕ). v ≤ 255) w ps d) in
    rw (row, others) (ap (λ (l : List ℕ). valued l []) (take-append-drop w ps))

-- ---- the whole text

three-parts : (s t u ps xs ys : List ℕ) → length xs ≡ 1 → length ys ≡ 2 → s ≡ line_text 68 xs ++ t → t ≡ line_text 70 ys ++ u
    → u ≡ rows_text (get_or (xs ++ ys) 2 0) (get_or (xs ++ ys) 1 0) ps
    → s ≡ frame_text (get_or (xs ++ ys) 0 0) (get_or (xs ++ ys) 1 0) (get_or (xs ++ ys) 2 0) ps
unfolding frame_text
three-parts s t u ps [] ys a b p q r = absurd (omega arith)
three-parts s t u ps (x ∷ (x' ∷ xs)) ys a b p q r = absurd (omega arith)
three-parts s t u ps (x ∷ []) [] a b p q r = absurd (omega arith)
three-parts s t u ps (x ∷ []) (y ∷ []) a b p q r = absurd (omega arith)
three-parts s t u ps (x ∷ []) (y ∷ (z ∷ [])) a b p q r =
    p ∙ ap (λ (l : List ℕ). line_text 68 (x ∷ []) ++ l) (q ∙ ap (λ (l : List ℕ). line_text 70 (y ∷ z ∷ []) ++ l) r)
three-parts s t u ps (x ∷ []) (y ∷ (z ∷ (y' ∷ ys))) a b p q r = absurd (omega arith)

pub frame-read : (s : List ℕ) → (head_of s).found ≡ true → (rows_in s).found ≡ true → s ≡ frame_text (direction_in s) (width_in s) (height_in s) (rows_in s).values
unfolding head_of
frame-read s = go (line_of 68 largest_number 1 s).found refl
  where
    go : (b : Bool) → (line_of 68 largest_number 1 s).found ≡ b
        → (cond b (before (line_of 68 largest_number 1 s).values (line_of 70 largest_number 2 (line_of 68 largest_number 1 s).rest)) no_values).found ≡ true
        → (rows_of (get_or (cond b (before (line_of 68 largest_number 1 s).values (line_of 70 largest_number 2 (line_of 68 largest_number 1 s).rest)) no_values).values 2 0)
        (get_or (cond b (before (line_of 68 largest_number 1 s).values (line_of 70 largest_number 2 (line_of 68 largest_number 1 s).rest)) no_values).values 1 0)
        (cond b (before (line_of 68 largest_number 1 s).values (line_of 70 largest_number 2 (line_of 68 largest_number 1 s).rest)) no_values).rest).found ≡ true
        → s ≡ frame_text
        (get_or (cond b (before (line_of 68 largest_number 1 s).values (line_of 70 largest_number 2 (line_of 68 largest_number 1 s).rest)) no_values).values 0 0)
        (get_or (cond b (before (line_of 68 largest_number 1 s).values (line_of 70 largest_number 2 (line_of 68 largest_number 1 s).rest)) no_values).values 1 0)
        (get_or (cond b (before (line_of 68 largest_number 1 s).values (line_of 70 largest_number 2 (line_of 68 largest_number 1 s).rest)) no_values).values 2 0)
        (rows_of (get_or (cond b (before (line_of 68 largest_number 1 s).values (line_of 70 largest_number 2 (line_of 68 largest_number 1 s).rest)) no_values).values 2 0)
        (get_or (cond b (before (line_of 68 largest_number 1 s).values (line_of 70 largest_number 2 (line_of 68 largest_number 1 s).rest)) no_values).values 1 0)
        (cond b (before (line_of 68 largest_number 1 s).values (line_of 70 largest_number 2 (line_of 68 largest_number 1 s).rest)) no_values).rest).values
    go true q f g =
        let t = (line_of 68 largest_number 1 s).rest in
        let second = line_of 70 largest_number 2 t in
        three-parts s t second.rest _ (line_of 68 largest_number 1 s).values second.values
        (line-many 68 largest_number 1 s q) (line-many 70 largest_number 2 t f) (line-sound 68 largest_number 1 s q) (line-sound 70 largest_number 2 t f) (rows-sound _ _ second.rest g)
    go false q f g = absurd (false≢true f)

module _ (d w h : ℕ) (ps : List ℕ) (numbered : d ≤ largest_number) (wide : w ≤ largest_number) (high : h ≤ largest_number) where
  pub head_found : head_of (frame_text d w h ps) ≡ valued (d ∷ w ∷ h ∷ []) (rows_text h w ps)
  unfolding head_of frame_text All
  head_found =
      let second = line-found 70 largest_number (w ∷ h ∷ []) (rows_text h w ps) (le_refl largest_number) (wide, (high, tt)) in
      let first = line-found 68 largest_number (d ∷ []) (line_text 70 (w ∷ h ∷ []) ++ rows_text h w ps) (le_refl largest_number) (numbered, tt) in
      rw (first, second)

  pub frame-written : length ps ≡ h * w → Within 255 ps → rows_in (frame_text d w h ps) ≡ valued ps []
  frame-written many dim = rw head_found (rows-found h w ps many dim)

-- ---- what is accepted

-- an input that no rule refuses is the text of the frame that is read
pub accepted-text : (s : List ℕ) (room : ℕ) → (answer (input_rules s room) 0).number ≡ 0 → s ≡ frame_text (direction_in s) (width_in s) (height_in s) (rows_in s).values
accepted-text s room z =
    let k = kept (input_rules s room) 0 refl z in
    frame-read s (not-false (head_of s).found k.1.0) (not-false (rows_in s).found k.1.1.1.1.1.0)

-- the text of a frame whose numbers are in their ranges is refused by no rule
pub text-accepted : (d w h : ℕ) (ps : List ℕ) (room : ℕ) → d ≤ 15 → outside 1 longest w ≡ false → outside 1 longest h ≡ false → length ps ≡ h * w → Within 255 ps
    → length (frame_text d w h ps) ≤ longest_input → w * h ≤ room → answer (input_rules (frame_text d w h ps) room) 0 ≡ done 0
text-accepted d w h ps room numbered wide high many dim size fit =
    let width = outside_not 1 longest w wide in
    let height = outside_not 1 longest h high in
    let head = head_found d w h ps (omega arith) (omega (arith, width.1)) (omega (arith, height.1)) in
    let rows = frame-written d w h ps (omega arith) (omega (arith, width.1)) (omega (arith, height.1)) many dim in
    let values = ap (λ (r : Values). r.values) head in
    let direction-is = ap (λ (l : List ℕ). get_or l 0 0) values in
    let width_is = ap (λ (l : List ℕ). get_or l 1 0) values in
    let height-is = ap (λ (l : List ℕ). get_or l 2 0) values in
    let area = ap₂ (λ (a b : ℕ). a * b) width_is height-is in
    rw (
      le-ltb _ _ size,
      ap (λ (r : Values). r.found) head,
      ap (outside 1 longest) width_is ∙ wide,
      ap (outside 1 longest) height-is ∙ high,
      ap (ltb 15) direction-is ∙ le-ltb _ _ numbered,
      ap (λ (r : Values). r.found) rows,
      ap (ltb room) area ∙ le-ltb _ _ fit,
    )

-- ---- what is handed back

-- a refusal is one refusal whatever a done call hands back
abbrev refused : Result ℕ Refusal → Result Input Refusal
refused (Ok n) = Err Size
refused (Err e) = Err e

-- so what an outcome settles is settled of the result itself
pub outcome_once : (r r' : Result Input Refusal) → outcome r ≡ outcome r' → r ≡ r'
outcome_once (Ok i) (Ok j) same = ap (λ (o : Outcome). Ok (record { direction = o.direction; width = o.width; height = o.height })) same
outcome_once (Ok i) (Err e) same = absurd (refused_number e (sym (ap (λ (o : Outcome). o.answer.number) same)))
outcome_once (Err e) (Ok i) same = absurd (refused_number e (ap (λ (o : Outcome). o.answer.number) same))
outcome_once (Err e) (Err d) same = ap refused (counted_once (Err e) (Err d) (ap (λ (o : Outcome). o.answer) same))

-- 'For the input' D 0, F 5 1, R 3 5 5 2 4
pub input_example : frame_text 0 5 1 (3 ∷ 5 ∷ 5 ∷ 2 ∷ 4 ∷ []) ≡
    68 ∷ 9 ∷ 48 ∷ 10
    ∷ 70 ∷ 9 ∷ 53 ∷ 9 ∷ 49 ∷ 10
    ∷ 82 ∷ 9 ∷ 51 ∷ 9 ∷ 53 ∷ 9 ∷ 53 ∷ 9 ∷ 50 ∷ 9 ∷ 52 ∷ 10 ∷ []
unfolding frame_text rows_text fields_text digits
input_example = refl
