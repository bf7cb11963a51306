-- Why what Invariants.antt says lasts, and gives what the function promises.
use mathlib.Core.Path.{◌≡◌, refl, sym, ap, ◌∙◌}
use Prim.Native.Nat.{ℕ, suc, ◌-◌}
use native.Mathlib.Omega.{arith}
use lib.ListN.{get_or}
use Rattle.sizes.specs.Steps.{spread_to}
use Rattle.lists.proofs.Stores.{filled-before, filled-start, filled-whole}
use Rattle.sizes.proofs.Spreads.{spread_shared, spread_alone}
use Rattle.sizes.proofs.frames.spread.Goals.{then-count-taken, else-count-taken}
use Rattle.sizes.proofs.frames.spread.Goals as goal

pub loop-i-preserved : goal.loop-i-preserved
loop-i-preserved c =
    let counts = c.args.counts.now in
    let sums = c.args.sums.now in
    let at = c.loop-i in
    let i = at.i - 1 in
    let next : at.i ≡ suc i = omega arith in
    let taken : at.taken ≡ get_or counts (suc i) 0 = at.invariant.0 ∙ ap (λ (j : ℕ). get_or counts j 0) next in
    let count : c.from-count.result ≡ get_or counts i 0 = c.from-count.ensures in
    let value : c.if-count-taken.sums ≡ spread_to counts sums i =
    elim c.if-count-taken.branch [
      | then-count-taken w ↦ w.sums-is ∙ sym (spread_shared counts sums i (sym count ∙ w.if-count-taken.true ∙ taken))
      | else-count-taken w ↦ w.sums-is ∙ at.invariant.1.below _ (omega (arith, c.requires.some i (omega arith), c.requires.most i (omega arith))) ∙ ap (λ (n : ℕ). get_or sums (n - 1) 0) count ∙ sym (spread_alone counts sums i (λ e. w.if-count-taken.false (count ∙ e ∙ sym taken)))
    ] in
    (count, filled-before at.invariant.1 (omega arith) (omega arith) (omega arith) value)

pub returns : goal.returns
returns c = filled-whole (filled-start c.loop-i.invariant.1 (omega arith)) refl
