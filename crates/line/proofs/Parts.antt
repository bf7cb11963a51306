-- A pass over bytes (crate passes), as the passes of windows take it.
--   narrowed-by, widened-by    a pass over the front of a buffer, and over what follows it
--   cleared_by                 zeros up to the end
-- Assumes nothing.
use mathlib.Core.Path.{◌≡◌, ap}
use mathlib.Core.List.{List}
use mathlib.Core.Bool.{true, false}
use Prim.Native.Nat.{ℕ, ◌+◌, ◌-◌, ◌≤◌, min, max}
use native.Mathlib.Omega.{arith}
use lib.ListN.{length, get_or}
use Rattle.lists.specs.Stores.{Filled}
use Rattle.lists.proofs.Stores.{filled_as, filled_end}
use Rattle.passes.specs.Passes.{Meets, Clears}
use Rattle.line.specs.Passes.{narrowed, widened}

pub narrowed-by : {b a : List ℕ} (d m : ℕ) → Meets true 0 d m b a → d + m ≤ length b → Filled b a 0 m (narrowed b d)
narrowed-by {b} {a} d m p fits =
    filled_as (filled_end (p.done (omega arith) fits) (omega arith)) (narrowed b d)
    (λ k l h. let there : d + (k - 0) ≡ k + d = omega arith in ap (λ (x : ℕ). min (get_or b k 0) (get_or b x 0)) there)

pub widened-by : {b a : List ℕ} (d m : ℕ) {hi : ℕ} → Meets false d 0 m b a → d + m ≡ hi → hi ≤ length b → Filled b a d hi (widened b d)
widened-by {b} {a} d m p end fits =
    filled_as (filled_end (p.done (omega arith) (omega arith)) end) (widened b d)
    (λ k l h. let there : 0 + (k - d) ≡ k - d = omega arith in ap (λ (x : ℕ). max (get_or b k 0) (get_or b x 0)) there)

pub cleared_by : {b a : List ℕ} (at n : ℕ) {hi : ℕ} → Clears at n b a → at + n ≡ hi → hi ≤ length b → Filled b a at hi (λ (k : ℕ). 0)
cleared_by at n p end fits = filled_end (p.done (omega arith)) end
