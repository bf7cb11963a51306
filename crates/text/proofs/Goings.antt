-- Reading values one after the other.
--   Going                        the values read so far stand at the front of the buffer, the others are still to come; going_start, going_one, going_part, going_end, going_broken
--   fields_next, fields_broken, fields_past    one field more, or none; no field more
--   row_next, row-broken, rows-past, rows_more    one row more, or none; the end of the text, or more of it
--   fields_many, line-many       as many values as were asked for
-- Assumes nothing.
use mathlib.Core.Path.{◌≡◌, refl, sym, ap, ◌∙◌}
use mathlib.Core.Bool.{Bool, true, false, cond, ◌&&◌, false≢true}
use mathlib.Core.List.{List, [], ◌∷◌, ◌++◌, append_assoc, append-nil}
use Prim.Native.Nat.{ℕ, zero, suc, ◌+◌, ◌-◌, ◌≤◌, ◌<◌}
use native.Mathlib.Omega.{arith}
use lib.ListN.{length, set, take, drop, length-append, length-drop}
use lib.Seq.{take_all, take_at, drop_at, drop-drop}
use borrow.Rule.Slice.PartMut.{mid_of, post_of, put_mid}
use Rattle.std.proofs.lemmas.List.{drop_all}
use Rattle.lists.specs.Stores.{front}
use Rattle.lists.proofs.Stores.{front-more}
use Rattle.lists.proofs.Cases.{both_left}
use Rattle.text.specs.Lines.{feed}
use Rattle.text.specs.Reading.{numeral, Values, valued, no_values, before, starts, field_of, fields_of, ended, line_of, rows_of}

-- of the values m, those so far stand at the front of vs', i of them, and `left` is still to come
pub record Going (m left : Values) (vs vs' : List ℕ) (i : ℕ) : Type 0 where
  pub so_far : List ℕ
  pub many : length so_far ≡ i
  pub all : m ≡ before so_far left
  pub stored : vs' ≡ front so_far vs

pub going_start : (m : Values) (vs : List ℕ) → Going m m vs vs 0
going_start m vs = record { so_far = []; many = refl; all = refl; stored = refl }

joined : (m left left' : Values) (so_far xs : List ℕ) → m ≡ before so_far left → left ≡ before xs left' → m ≡ before (so_far ++ xs) left'
joined m left left' so_far xs a e =
    a ∙ ap (before so_far) e ∙ ap (λ (l : List ℕ). record { found = left'.found; values = l; rest = left'.rest }) (sym (append_assoc so_far xs left'.values))

-- one value stored behind those so far
pub going_one : {m left left' : Values} {vs vs' : List ℕ} {i : ℕ} (v : ℕ) → Going m left vs vs' i → left ≡ before (v ∷ []) left' → i < length vs → Going m left' vs (set vs' i v) (i + 1)
going_one {m} {left} {left'} {vs} {vs'} {i} v g e fit =
    record {
      so_far = g.so_far ++ (v ∷ []);
      many = length-append g.so_far (v ∷ []) ∙ ap (λ (n : ℕ). n + 1) g.many;
      all = joined m left left' g.so_far (v ∷ []) g.all e;
      stored = rw (g.stored, ← g.many) (front-more vs g.so_far v (omega (arith, g.many)));
    }

-- the values xs stored behind those so far, in what is left of the buffer
pub going_part : {m left left' : Values} {vs vs' ys : List ℕ} {i j : ℕ} (xs : List ℕ) → Going m left vs vs' i → left ≡ before xs left' → ys ≡ front xs (mid_of i (length vs' - i) vs')
    → i + length xs ≡ j → Going m left' vs (put_mid i (length vs' - i) vs' ys) j
going_part {m} {left} {left'} {vs} {vs'} {ys} {i} {j} xs g e w sum =
    let begun : take i vs' ≡ g.so_far = rw g.stored (take_at g.so_far (drop (length g.so_far) vs) i g.many) in
    let behind : drop i vs' ≡ drop i vs = rw g.stored (drop_at g.so_far (drop (length g.so_far) vs) i g.many) ∙ ap (λ (n : ℕ). drop n vs) g.many in
    let room : mid_of i (length vs' - i) vs' ≡ drop i vs = take_all (length vs' - i) (drop i vs') (omega (arith, length-drop i vs')) ∙ behind in
    let end : post_of i (length vs' - i) vs' ≡ [] = drop_all (length vs' - i) (drop i vs') (omega (arith, length-drop i vs')) in
    let many : length (g.so_far ++ xs) ≡ i + length xs = length-append g.so_far xs ∙ ap (λ (n : ℕ). n + length xs) g.many in
    record {
      so_far = g.so_far ++ xs;
      many = many ∙ sum;
      all = joined m left left' g.so_far xs g.all e;
      stored = rw (begun, w, room, end, append-nil, many, drop-drop (length xs) i vs) (sym (append_assoc g.so_far xs (drop (i + length xs) vs)));
    }

pub going_broken : {m left : Values} {vs vs' : List ℕ} {i : ℕ} → Going m left vs vs' i → left.found ≡ false → m.found ≡ false
going_broken g e = ap (λ (r : Values). r.found) g.all ∙ e

pub going_end : {m left : Values} {vs vs' : List ℕ} {i : ℕ} (t : List ℕ) → Going m left vs vs' i → left ≡ valued [] t → (m ≡ valued m.values t) × (vs' ≡ front m.values vs)
going_end {m} {left} {vs} {vs'} t g e =
    let whole : m ≡ valued g.so_far t = g.all ∙ ap (before g.so_far) e ∙ ap (λ (l : List ℕ). valued l t) (append-nil g.so_far) in
    let same : g.so_far ≡ m.values = sym (ap (λ (r : Values). r.values) whole) in
    (whole ∙ ap (λ (l : List ℕ). valued l t) same, g.stored ∙ ap (λ (l : List ℕ). front l vs) same)

-- ---- fields

module _ (most n i : ℕ) (s : List ℕ) (h : i < n) where
  pub fields_next : (v : ℕ) (t : List ℕ) → field_of most s ≡ numeral v t → fields_of most (n - i) s ≡ before (v ∷ []) (fields_of most (n - (i + 1)) t)
  unfolding fields_of
  fields_next v t e = let more : n - i ≡ suc (n - (i + 1)) = omega arith in rw (more, e)

  pub fields_broken : (field_of most s).found ≡ false → (fields_of most (n - i) s).found ≡ false
  unfolding fields_of
  fields_broken e = let more : n - i ≡ suc (n - (i + 1)) = omega arith in rw (more, e)

pub fields_past : (most n i : ℕ) (s : List ℕ) → n ≤ i → fields_of most (n - i) s ≡ valued [] s
unfolding fields_of
fields_past most n i s h = let e : n - i ≡ zero = omega arith in rw e

many_fields : (most n : ℕ) (v : ℕ) (b : Bool) (r : Values) → (r.found ≡ true → length r.values ≡ n) → (cond b (before (v ∷ []) r) no_values).found ≡ true
    → length (cond b (before (v ∷ []) r) no_values).values ≡ suc n
many_fields most n v true r h e = ap suc (h e)
many_fields most n v false r h e = absurd (false≢true e)

pub fields_many : (most n : ℕ) (s : List ℕ) → (fields_of most n s).found ≡ true → length (fields_of most n s).values ≡ n
unfolding fields_of
fields_many most zero s e = refl
fields_many most (suc n) s e =
    many_fields most n (field_of most s).value (field_of most s).found (fields_of most n (field_of most s).rest) (fields_many most n (field_of most s).rest) e

-- ---- lines

many-line : (n : ℕ) (b a : Bool) (r : Values) → (r.found ≡ true → length r.values ≡ n) → (r.found && a) ≡ b
    → (cond b (valued r.values (drop 1 r.rest)) no_values).found ≡ true → length (cond b (valued r.values (drop 1 r.rest)) no_values).values ≡ n
many-line n true a r h q e = h (both_left r.found a q)
many-line n false a r h q e = absurd (false≢true e)

many_letter : (n : ℕ) (b : Bool) (r : Values) → (r.found ≡ true → length r.values ≡ n) → (cond b (ended r) no_values).found ≡ true
    → length (cond b (ended r) no_values).values ≡ n
many_letter n true r h e = many-line n (r.found && starts feed r.rest) (starts feed r.rest) r h refl e
many_letter n false r h e = absurd (false≢true e)

pub line-many : (b most n : ℕ) (s : List ℕ) → (line_of b most n s).found ≡ true → length (line_of b most n s).values ≡ n
unfolding line_of
line-many b most n s e = many_letter n (starts b s) (fields_of most n (drop 1 s)) (fields_many most n (drop 1 s)) e

-- ---- rows

module _ (h i w : ℕ) (s : List ℕ) (l : i < h) where
  pub row_next : (xs t : List ℕ) → line_of 82 255 w s ≡ valued xs t → rows_of (h - i) w s ≡ before xs (rows_of (h - (i + 1)) w t)
  unfolding rows_of
  row_next xs t e = let more : h - i ≡ suc (h - (i + 1)) = omega arith in rw (more, e)

  pub row-broken : (line_of 82 255 w s).found ≡ false → (rows_of (h - i) w s).found ≡ false
  unfolding rows_of
  row-broken e = let more : h - i ≡ suc (h - (i + 1)) = omega arith in rw (more, e)

pub rows-past : (h i w : ℕ) (s : List ℕ) → h ≤ i → length s ≡ 0 → rows_of (h - i) w s ≡ valued [] s
unfolding rows_of
rows-past h i w [] l past = let e : h - i ≡ zero = omega arith in rw e
rows-past h i w (c ∷ s) l past = absurd (omega (arith, past))

pub rows_more : (h i w : ℕ) (s : List ℕ) → h ≤ i → 0 < length s → (rows_of (h - i) w s).found ≡ false
unfolding rows_of
rows_more h i w [] l more = absurd (omega (arith, more))
rows_more h i w (c ∷ s) l more = let e : h - i ≡ zero = omega arith in rw e
