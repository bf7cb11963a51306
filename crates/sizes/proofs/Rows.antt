-- The rose, row by row.
--   rose_framed        the frame, once `rose` is not refused
--   Filling            where the filling of the rows stands; filling_start, -more, -end
--   rose_refused, rose_done    the ways out of `rose`
--   sum_never_largest  no sum of a frame is the largest number of 64 bits
-- Assumes nothing.
use mathlib.Core.Path.{◌≡◌, refl, sym, ap, ◌∙◌}
use mathlib.Core.Bool.{true, false, true≢false}
use mathlib.Core.List.{List, []}
use Prim.Native.Nat.{ℕ, ◌+◌, ◌-◌, ◌*◌, ◌^◌, ◌≤◌, ◌<◌}
use native.Mathlib.Nat.{not-suc-le-zero, ne_of_lt, mul-le-mul}
use native.Mathlib.Omega.{arith}
use lib.ListN.{length, get_or, set, length-set}
use lib.Seq.{get_or-set_same, get_or-set_other}
use borrow.Author.Count.{below_more}
use borrow.Author.Tests.{not-false}
use Rattle.lists.specs.Tables.{table}
use Rattle.lists.specs.Extremes.{total}
use Rattle.lists.proofs.Tables.{table-by}
use Rattle.std.specs.Prelude.{Result, Ok, Err}
use Rattle.std.specs.Result.{is_err}
use Rattle.answer.specs.declared.Answer.{Answer}
use Rattle.answer.specs.declared.Refusal.{Refusal}
use Rattle.answer.specs.Refusals.{finished}
use Rattle.answer.proofs.Refusals.{refused_number}
use Rattle.lists.proofs.Totals.{entry-total, table-most}
use Rattle.answer.specs.Limits.{longest}
use Rattle.answer.specs.Rules.{answer}
use Rattle.answer.proofs.Rules.{kept, after-done, after-refused}
use Rattle.frame.specs.declared.direction.Direction.{Direction}
use Rattle.frame.specs.declared.shape.Shape.{Shape}
use Rattle.frame.specs.Direction.{numbered_of}
use Rattle.frame.specs.Shape.{is_frame}
use Rattle.frame.specs.Lines.{at, place}
use Rattle.frame.specs.Sweep.{Accepted}
use Rattle.frame.proofs.Shapes.{framed}
use Rattle.sizes.specs.Sums.{frame_sums}
use Rattle.sizes.specs.Rose.{rose_bins, rose_rules, refused_rose, rose_of, Roses}
use Rattle.sizes.proofs.Gathered.{frame-total}

pub rose_framed : (sh : Shape) (size spare : ℕ) → (answer (rose_rules sh size spare) 0).number ≡ 0 → is_frame sh ≡ true
rose_framed sh size spare z = not-false (is_frame sh) (kept (rose_rules sh size spare) 0 refl z).0

module _ (f : List ℕ) (sh : Shape) where
  -- the rows below d are filled
  pub record Filling (d : ℕ) (rows : List (List ℕ)) : Type 0 where
    pub same : length rows ≡ 16
    pub filled : (k : ℕ) → k < d → get_or rows k [] ≡ frame_sums f sh (numbered_of k) rose_bins

  pub filling_start : (rows : List (List ℕ)) → length rows ≡ 16 → Filling 0 rows
  filling_start rows e = record { same = e; filled = λ k l. absurd (not-suc-le-zero l) }

  pub filling_more : (d : ℕ) (rows : List (List ℕ)) (row : List ℕ) → d < 16 → Filling d rows → row ≡ frame_sums f sh (numbered_of d) rose_bins
      → Filling (d + 1) (set rows d row)
  filling_more d rows row h g e =
      let room : d < length rows = omega (arith, g.same) in
      record {
        same = simp length-set g.same;
        filled =
            below_more (λ k. get_or (set rows d row) k [] ≡ frame_sums f sh (numbered_of k) rose_bins) d
            (λ k l. get_or-set_other rows d k row [] (ne_of_lt l) ∙ g.filled k l)
            (get_or-set_same rows d row [] room ∙ e);
      }

  pub filling_end : (rows : List (List ℕ)) → Filling 16 rows → rows ≡ rose_of f sh
  filling_end rows g = table-by [] rows (λ (d : ℕ). frame_sums f sh (numbered_of d) rose_bins) 16 g.same g.filled

-- ---- the ways out of `rose`

module _ (f scratch : List ℕ) (sh : Shape) (r : Result (Unit {0}) Refusal) (e : finished r ≡ answer (rose_rules sh (length f) (length scratch)) 0) where
  abbrev says : Answer
  says = answer (rose_rules sh (length f) (length scratch)) 0

  pub rose_refused : is_err r ≡ true → Roses f sh scratch scratch refused_rose
  rose_refused err =
      record {
        rows = sym (after-refused says (rose_of f sh) refused_rose (λ z. numbered r err (ap (λ (a : Answer). a.number) e ∙ z)));
        scratch_kept = λ _. refl;
        scratch_length = refl;
      }
    where
      numbered : (r : Result (Unit {0}) Refusal) → is_err r ≡ true → (finished r).number ≡ 0 → ⊥
      numbered (Ok u) err z = true≢false (sym err)
      numbered (Err e) err z = refused_number e z

  pub rose_done : is_err r ≡ false → (rows : List (List ℕ)) (scratch' : List ℕ) → rows ≡ rose_of f sh → length scratch' ≡ length scratch
      → Roses f sh scratch scratch' rows
  rose_done ok rows scratch' is kept =
      let done : says.number ≡ 0 = sym (ap (λ (a : Answer). a.number) e) ∙ numbered r ok in
      record {
        rows = is ∙ sym (after-done says (rose_of f sh) refused_rose done);
        scratch_kept = λ refused. absurd (refused done);
        scratch_length = kept;
      }
    where
      numbered : (r : Result (Unit {0}) Refusal) → is_err r ≡ false → (finished r).number ≡ 0
      numbered (Ok u) ok = refl
      numbered (Err e) ok = absurd (true≢false ok)

-- 'which no sum reaches'
pub sum_never_largest : (f : List ℕ) (sh : Shape) (d : Direction) (K j : ℕ) → Accepted sh d → ((i : ℕ) → get_or f i 0 ≤ 255)
    → get_or (frame_sums f sh d K) j 0 < 2 ^ 64 - 1
sum_never_largest f sh d K j ok dim =
    let sides = framed sh ok.frame in
    let row : (y : ℕ) → y < sh.height → total-row y ≤ sh.width * 255 = λ y l. table-most (pixel y) sh.width 255 (λ x k. dim (place sh (at x y))) in
    let all = table-most total-row sh.height (sh.width * 255) row in
    let side : sh.width * 255 ≤ longest * 255 = omega (arith, sides.width) in
    let most : sh.height * (sh.width * 255) ≤ longest * (longest * 255) = mul-le-mul {n₂ = longest} {m₂ = longest * 255} sides.height side in
    omega (arith, entry-total (frame_sums f sh d K) j, frame-total f sh d K ok)
  where
    pixel : ℕ → ℕ → ℕ
    pixel y x = get_or f (place sh (at x y)) 0

    total-row : ℕ → ℕ
    total-row y = total (table (pixel y) sh.width)
