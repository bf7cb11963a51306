-- Demand 2, size sums: what done calls put into the sums slice, from their contracts alone; and the rose and the summary.
--   line-bin, line-rest, line-whole      each bin and the rest of a line; together they are the light in the line
--   frame-bin, frame-rest, frame-whole   the same of a frame in a direction; frame-sum-opened: its sum for a length is the light of the opened frame
--   frame-bin-shared                     the bin of a length that shares its count of pixels with the next is 0
--   frame-bin-light, frame-rest-light    else it is the light of the stretches of just so many pixels, and the rest that of those with as many or more
--   rose_row, rose_whole                 each row of a done rose; rose_unmarked: no entry of it is the mark of a refused rose
--   summary_is                           mean and share of a done summary; summary_exact, summary_rounded: exact operands, rounded once
--   summary_refused                      both floats of a refused one are +0.0
-- Demand 3's last sentence, bins and rest from the list of stretches, is in Stretches.
-- Assumes nothing.
use mathlib.Core.Path.{◌≡◌, refl, sym, ap, ◌∙◌}
use mathlib.Core.Bool.{Bool, false}
use mathlib.Core.List.{List, []}
use Prim.Native.Nat.{ℕ, suc, ◌+◌, ◌-◌, ◌≤◌, ◌<◌, ◌^◌}
use native.Mathlib.Omega.{arith}
use lib.Dec.{eqb, ltb}
use lib.Ieee.{fin, binary64, of_int, round, to_unsigned}
use lib.IntN.{pos, ◌+ℤ◌}
use lib.ListN.{length, get_or}
use borrow.Author.Tests.{ltb-false, eqb-false}
use Rattle.lists.specs.Tables.{table}
use Rattle.lists.specs.Extremes.{total}
use Rattle.lists.proofs.Cases.{neither_left, neither_right}
use Rattle.lists.proofs.Tables.{get_d_table, table_same}
use Rattle.lists.proofs.Totals.{total_less}
use Rattle.answer.specs.declared.Answer.{Answer}
use Rattle.answer.specs.Rules.{Kept, answer}
use Rattle.answer.proofs.Rules.{done-kept, after-done}
use Rattle.frame.specs.declared.direction.Direction.{Direction}
use Rattle.frame.specs.declared.shape.Shape.{Shape}
use Rattle.frame.specs.Direction.{numbered_of}
use Rattle.frame.specs.Length.{pixels_for}
use Rattle.frame.specs.Lines.{frame_light, first_line, line_count}
use Rattle.frame.specs.Sweep.{Accepted}
use Rattle.frame.proofs.Directions.{numbered-accepted}
use Rattle.frame.proofs.Lengths.{pixels-some}
use Rattle.frame.proofs.Light.{lines-light}
use Rattle.opening.specs.Frames.{OpensFrame}
use Rattle.opening.proofs.Calls.{open_ready}
use Rattle.bright.specs.Stretches.{stretches}
use Rattle.bridge.specs.Sums.{sum_for, bin_for, rest_for, light_of}
use Rattle.bridge.proofs.Sizes.{bin-stretches, rest-stretches}
use Rattle.sizes.specs.Sums.{line_sums, line_at, pixel_sum, frame_sum, frame_sums}
use Rattle.sizes.specs.Line.{SumsLine}
use Rattle.sizes.specs.Frame.{SumsFrame}
use Rattle.sizes.specs.Rose.{rose_rules, rose_of, refused_rose, Roses}
use Rattle.sizes.specs.declared.summary.Summary.{Summary}
use Rattle.sizes.specs.Summary.{bins_of, rest_of, weighted, exactest, float, quotient, summary_rules, summary_of}
use Rattle.sizes.proofs.Bins.{sums-bin, sums-rest, sum-falls, line-total}
use Rattle.sizes.proofs.Calls.{frame-viewed}
use Rattle.sizes.proofs.Gathered.{frame-total}
use Rattle.sizes.proofs.Rows.{rose_framed, sum_never_largest}
use Rattle.sizes.proofs.Summaries.{float_back, quotient_rounded}
use Rattle.theorems.proofs.Refusals.{rose_settled, summary_settled}
use Rattle.theorems.proofs.Openings.{frame-lines}

-- K bins and the rest
module _ {f sums sums' t t' : List ℕ} {a : Answer} (p : SumsLine f sums sums' t t' a) (z : a.number ≡ 0) where
  line-filled : sums' ≡ line_sums f (length sums - 1)
  line-filled = p.written ∙ after-done a (line_sums f (length sums - 1)) sums z

  -- 'the bin for a length is the sum for that length less the sum for the next'
  pub line-bin : (j : ℕ) → j < length sums - 1 → get_or sums' j 0 ≡ bin_for f (suc j)
  line-bin j h = ap (λ (l : List ℕ). get_or l j 0) line-filled ∙ sums-bin (sum_for f) (length sums - 1) j h

  -- 'the rest is the sum for length K+1'; 'the rest last'
  pub line-rest : get_or sums' (length sums - 1) 0 ≡ rest_for f (length sums - 1)
  line-rest = ap (λ (l : List ℕ). get_or l (length sums - 1) 0) line-filled ∙ sums-rest (sum_for f) (length sums - 1)

  -- 'Bins and rest together equal the total of the source pixels.'
  pub line-whole : total sums' ≡ total f
  line-whole = ap total line-filled ∙ line-total f (length sums - 1)

module _ {f : List ℕ} {sh : Shape} {d : Direction} {sums sums' t t' : List ℕ} {a : Answer} (p : SumsFrame f sh d sums sums' t t' a) (z : a.number ≡ 0) where
  frame-filled : sums' ≡ frame_sums f sh d (length sums - 1)
  frame-filled = p.written ∙ after-done a (frame_sums f sh d (length sums - 1)) sums z

  pub frame-bin : (j : ℕ) → j < length sums - 1 → get_or sums' j 0 ≡ frame_sum f sh d (suc j) - frame_sum f sh d (suc (suc j))
  frame-bin j h = ap (λ (l : List ℕ). get_or l j 0) frame-filled ∙ sums-bin (frame_sum f sh d) (length sums - 1) j h

  pub frame-rest : get_or sums' (length sums - 1) 0 ≡ frame_sum f sh d (suc (length sums - 1))
  frame-rest = ap (λ (l : List ℕ). get_or l (length sums - 1) 0) frame-filled ∙ sums-rest (frame_sum f sh d) (length sums - 1)

  -- 'a bin may now be 0 where two lengths share a k'
  pub frame-bin-shared : (j : ℕ) → j < length sums - 1 → pixels_for d (suc (suc j)) ≡ pixels_for d (suc j) → get_or sums' j 0 ≡ 0
  frame-bin-shared j h same = frame-bin j h ∙ ap (λ (k : ℕ). pixel_sum f sh d (pixels_for d (suc j)) - pixel_sum f sh d k) same ∙ omega arith

  -- the light of the stretches on the frame's lines whose pixels pass a test
  abbrev line_light : (ℕ → Bool) → ℕ
  line_light test = total (table (λ (u : ℕ). light_of test (stretches (line_at f sh d u))) (line_count sh d))

  pub frame-bin-light : (j : ℕ) → j < length sums - 1 → pixels_for d (suc (suc j)) ≡ suc (pixels_for d (suc j))
      → get_or sums' j 0 ≡ line_light (λ (n : ℕ). eqb n (pixels_for d (suc j)))
  frame-bin-light j h more =
      let k : ℕ = pixels_for d (suc j) in
      let one : k ≡ suc (k - 1) = omega (arith, pixels-some d (suc j)) in
      frame-bin j h
      ∙ ap (λ (m : ℕ). pixel_sum f sh d k - pixel_sum f sh d m) more
      ∙ total_less (λ (u : ℕ). sum_for (line_at f sh d u) k) (λ (u : ℕ). sum_for (line_at f sh d u) (suc k)) (line_count sh d) (λ u _. rw one (sum-falls (line_at f sh d u) (k - 1)))
      ∙ ap total (table_same _ _ (line_count sh d) (λ u _. bin-stretches (line_at f sh d u) k (pixels-some d (suc j))))

  pub frame-rest-light : get_or sums' (length sums - 1) 0 ≡ line_light (λ (n : ℕ). ltb (pixels_for d (suc (length sums - 1)) - 1) n)
  frame-rest-light =
      let k : ℕ = pixels_for d (suc (length sums - 1)) in
      let one : k ≡ suc (k - 1) = omega (arith, pixels-some d (suc (length sums - 1))) in
      frame-rest ∙ ap (pixel_sum f sh d) one ∙ ap total (table_same _ _ (line_count sh d) (λ u _. rest-stretches (line_at f sh d u) (k - 1)))

  pub frame-whole : total sums' ≡ frame_light f sh
  frame-whole = ap total frame-filled ∙ frame-total f sh d (length sums - 1) (frame-viewed sh d (length sums) (length f) (length t) p.answers z).ok

-- 'The sum for a length is the total of the opened pixels.': of a frame, those that `open_frame` leaves for that direction and length
pub frame-sum-opened : {f : List ℕ} {sh : Shape} {d : Direction} {L : ℕ} {g g' t t' : List ℕ} {a : Answer} → OpensFrame f sh d L g g' t t' a → a.number ≡ 0
    → frame_sum f sh d L ≡ frame_light g' sh
frame-sum-opened {f} {sh} {d} {L} {g} {g'} {t} p z =
    sym (ap total (table_same _ _ (line_count sh d) (λ u l. ap total (frame-lines p z (first_line sh d +ℤ pos u)))))
    ∙ lines-light g' sh d (open_ready sh L (length f) (length g) d (length t) p.answers z).ok

-- ---- the rose

module _ {f : List ℕ} {sh : Shape} {t t' : List ℕ} {r : List (List ℕ)} (p : Roses f sh t t' r) (ok : Kept (rose_rules sh (length f) (length t))) where
  zero_number : (answer (rose_rules sh (length f) (length t)) 0).number ≡ 0
  zero_number = ap (λ (a : Answer). a.number) ((rose_settled p refl).done_if ok)

  -- 'row d has 32 bins and the rest of numbered direction d'
  pub rose_row : (n : ℕ) → n < 16 → get_or r n [] ≡ frame_sums f sh (numbered_of n) 32
  rose_row n h =
      ap (λ (l : List (List ℕ)). get_or l n []) (p.rows ∙ after-done (answer (rose_rules sh (length f) (length t)) 0) (rose_of f sh) refused_rose zero_number)
      ∙ get_d_table [] (λ (n : ℕ). frame_sums f sh (numbered_of n) 32) 16 n h

  accepted : (n : ℕ) → n < 16 → Accepted sh (numbered_of n)
  accepted n h = record { frame = rose_framed sh (length f) (length t) zero_number; direction = numbered-accepted n h }

  pub rose_whole : (n : ℕ) → n < 16 → total (get_or r n []) ≡ frame_light f sh
  rose_whole n h =
      ap total (rose_row n h) ∙ frame-total f sh (numbered_of n) 32 (accepted n h)

  -- 'a table of 64-bit largest numbers, which no sum reaches'
  pub rose_unmarked : ((i : ℕ) → get_or f i 0 ≤ 255) → (n j : ℕ) → n < 16 → get_or (get_or r n []) j 0 < 2 ^ 64 - 1
  rose_unmarked bytes n j h = rw (rose_row n h) (sum_never_largest f sh (numbered_of n) 32 j (accepted n h) bytes)

-- ---- the summary: A is the total of the bins, B the same with each bin multiplied by its length

module _ (s : List ℕ) {r : Summary} (e : r ≡ summary_of s) where
  abbrev A : ℕ
  A = total (bins_of s)

  abbrev B : ℕ
  B = weighted 1 (bins_of s)

  module _ (z : r.number ≡ 0) where
    -- 'the mean, B as a float divided by A as a float, and the share, A divided by A plus the rest'
    pub summary_is : r ≡ record { mean = quotient B A; share = quotient A (A + rest_of s); number = 0 }
    unfolding summary_of
    summary_is =
        e ∙ after-done (answer (summary_rules s) 0) _ _ (ap (λ (a : Answer). a.number) (done-kept (summary_rules s) 0 ((summary_settled s e).only_if z)))

    within : (0 < A) × (B ≤ exactest) × (A + rest_of s ≤ exactest)
    within =
        let ok = (summary_settled s e).only_if z in
        let some = eqb-false A 0 ok.1.0 in
        let long = ltb-false exactest B (neither_right (ltb exactest (A + rest_of s)) (ltb exactest B) ok.1.1.0) in
        let all = ltb-false exactest (A + rest_of s) (neither_left (ltb exactest (A + rest_of s)) (ltb exactest B) ok.1.1.0) in
        (pos_of A some, long, all)
      where
        pos_of : (n : ℕ) → (n ≡ 0 → ⊥) → 0 < n
        pos_of n some = omega (arith, some)

    -- 'Each operand is exact': as a float and back, it is unchanged
    pub summary_exact : (to_unsigned 64 (float B) ≡ B) × (to_unsigned 64 (float A) ≡ A) × (to_unsigned 64 (float (A + rest_of s)) ≡ A + rest_of s)
    summary_exact =
        let all = within.2 in
        (float_back B within.1, float_back A (omega arith), float_back (A + rest_of s) all)

    -- 'each quotient rounded once': `round` gives the float nearest to a fraction of whole numbers
    pub summary_rounded : (r.mean ≡ round binary64 false B A) × (r.share ≡ round binary64 false A (A + rest_of s))
    summary_rounded =
        let some = within.0 in
        let all = within.2 in (
          ap (λ (r : Summary). r.mean) summary_is ∙ quotient_rounded B A within.1 (omega arith) some,
          ap (λ (r : Summary). r.share) summary_is ∙ quotient_rounded A (A + rest_of s) (omega arith) all (omega arith),
        )

  -- 'a refused summary has both floats 0': +0.0
  pub summary_refused : (r.number ≡ 0 → ⊥) → (r.mean ≡ fin false 0 (pos 0)) × (r.share ≡ fin false 0 (pos 0))
  unfolding of_int
  summary_refused no-work =
      let is = ((summary_settled s e).refused no-work).1 in
      (ap (λ (r : Summary). r.mean) is, ap (λ (r : Summary). r.share) is)
