-- What the calls know once they are not refused, and what they leave.
--   frame-viewed      a frame and its direction, once `sums_of_frame` is not refused
--   zero-entry        a cleared slice, entry by entry
--   line-added        bins and rest of a line, added to a cleared slice, are what it holds
-- Assumes nothing.
use mathlib.Core.Path.{◌≡◌, refl, ap, ◌∙◌}
use mathlib.Core.List.{List}
use mathlib.Core.Logic.{⊎_elim}
use Prim.Native.Nat.{ℕ, ◌+◌, ◌-◌, ◌≤◌, ◌<◌}
use native.Mathlib.Omega.{arith}
use lib.ListN.{length, get_or, replicate, get_or-eq_default}
use lib.Seq.{ext_get_or}
use Rattle.std.proofs.lemmas.List.{length-replicate, get_or-replicate}
use borrow.Author.Tests.{ltb-false, not-false}
use Rattle.lists.proofs.Cases.{less_or_not}
use Rattle.answer.specs.declared.Answer.{Answer}
use Rattle.answer.specs.Rules.{answer}
use Rattle.answer.proofs.Rules.{kept}
use Rattle.frame.specs.declared.direction.Direction.{Direction}
use Rattle.frame.specs.declared.shape.Shape.{Shape}
use Rattle.frame.specs.Direction.{is_direction}
use Rattle.frame.specs.Shape.{is_frame, needed}
use Rattle.bridge.specs.Sums.{sum_for}
use Rattle.sizes.specs.Sums.{line_sums}
use Rattle.sizes.specs.Frame.{frame_rules}
use Rattle.sizes.specs.Steps.{Adds, Whole}
use Rattle.sizes.proofs.Bins.{sums-length}

pub frame-viewed : (sh : Shape) (d : Direction) (entries size spare : ℕ) {a : Answer} → a ≡ answer (frame_rules sh d entries size spare) 0 → a.number ≡ 0
    → Whole sh d size
frame-viewed sh d entries size spare e z =
    let k = kept (frame_rules sh d entries size spare) 0 refl (rw e at z) in
    record {
      ok = record { frame = not-false (is_frame sh) k.0; direction = not-false (is_direction d) k.1.0 };
      source = ltb-false size (needed sh) k.1.1.1.0;
    }

pub zero-entry : (n j : ℕ) → get_or (replicate {A = ℕ} n 0) j 0 ≡ 0
zero-entry n j = ⊎_elim inside beyond (less_or_not j n)
  where
    inside : j < n → get_or (replicate {A = ℕ} n 0) j 0 ≡ 0
    inside l = get_or-replicate n j 0 0 l

    beyond : n ≤ j → get_or (replicate {A = ℕ} n 0) j 0 ≡ 0
    beyond l =
        let m : length (replicate {A = ℕ} n 0) ≤ j = omega (arith, length-replicate {A = ℕ} n 0) in
        get_or-eq_default (replicate n 0) 0 m

pub line-added : (f : List ℕ) (n : ℕ) (z s : List ℕ) → 1 ≤ n → z ≡ replicate n 0 → Adds f z s → s ≡ line_sums f (n - 1)
line-added f n z s some e a =
    let count : length z ≡ n = ap length e ∙ length-replicate n 0 in
    let entries : length s ≡ length (line_sums f (n - 1)) = omega (arith, a.same, sums-length (sum_for f) (n - 1)) in
    ext_get_or 0 s (line_sums f (n - 1)) entries
    (λ j l. (rw count at (a.added j)) ∙ ap (λ (x : ℕ). x + get_or (line_sums f (n - 1)) j 0) (ap (λ (l : List ℕ). get_or l j 0) e ∙ zero-entry n j) ∙ omega arith)
