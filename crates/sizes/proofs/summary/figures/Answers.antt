-- Each way out is one case of the summary, and what is cast to a float is at most 2^53.
use mathlib.Core.Path.{◌≡◌, sym, ◌∙◌}
use mathlib.Core.Bool.{false}
use Prim.Native.Nat.{ℕ, ◌+◌, ◌<◌, ◌≤◌}
use native.Mathlib.Omega.{arith}
use lib.ListN.{length}
use borrow.Author.Tests.{eqb-true, eqb-false}
use Rattle.std.proofs.Common.{rules}
use Rattle.std.proofs.lemmas.Result.{err_from_is_err_and}
use Rattle.lists.specs.Extremes.{total}
use Rattle.answer.specs.Limits.{longest}
use Rattle.answer.specs.Rules.{outside}
use Rattle.sizes.specs.Summary.{bins_of, rest_of, weighted, exactest}
use Rattle.sizes.proofs.Summaries.{exact, weighed-one, weighed-lengths, summary_outside, summary_dark, summary_large, summary_heavy, summary_done}
use Rattle.sizes.proofs.summary.figures.Goals.{In_ok-when, In_ok-light, In_ok-when-2, In_ok-all, In_ok-lengths}
use Rattle.sizes.proofs.summary.figures.Goals as goal

entries : (c : In_ok-when) → outside 2 (longest + 1) (length c.args.sums.now) ≡ false
entries c = sym c.is_outside.ensures ∙ c.in_ok-when.ensures

light : (c : In_ok-light) → (let a = total (bins_of c.args.sums.now) in (a ≤ exactest) × (c.in_ok-light.light ≡ a))
light c =
    let one = weighed-one (bins_of c.args.sums.now) in
    let sum = c.in_ok-light.ensures (λ (i : ℕ). 1) (λ i r p. search rules) in
    (omega (arith, sum.0, one), sum.1 ∙ one)

some : (c : In_ok-when-2) → total (bins_of c.args.sums.now) ≡ 0 → ⊥
some c z = eqb-false _ _ c.in_ok-when-2.ensures ((light (goal.at.In_ok-when-2 c).In_ok-light).1 ∙ z)

all : (c : In_ok-all) → (let s = c.args.sums.now in let a = total (bins_of s) + rest_of s in (a ≤ exactest) × (c.in_ok-all.all ≡ a))
all c =
    let s = c.args.sums.now in
    let a = light (goal.at.In_ok-all c).In_ok-light in
    let sum = c.in_ok-all.ensures in
    (omega (arith, sum.0, a.1), omega (arith, sum.1, a.1))

lengths : (c : In_ok-lengths) → (let b = weighted 1 (bins_of c.args.sums.now) in (b ≤ exactest) × (c.in_ok-lengths.lengths ≡ b))
lengths c =
    let each = weighed-lengths (bins_of c.args.sums.now) in
    let sum = c.in_ok-lengths.ensures (λ (i : ℕ). i + 1) (λ i r p. search rules) in
    (omega (arith, sum.0, each), sum.1 ∙ each)

pub returns-in_err-when : goal.returns-in_err-when
returns-in_err-when c =
    let broken = c.in_err-when.ensures in
    let back = err_from_is_err_and c.from_residual.result c.from_residual.ensures.1 in
    rw (back.1, back.2, broken.1) (sym (summary_outside _ (sym c.is_outside.ensures ∙ broken.0)))

pub returns-in_err-light : goal.returns-in_err-light
returns-in_err-light c =
    let s = c.args.sums.now in
    let over = c.in_err-light.ensures (λ (i : ℕ). 1) (λ i r p. search rules) in
    let back = err_from_is_err_and c.from_residual-in_err-light.result c.from_residual-in_err-light.ensures.1 in
    let large : exactest < total (bins_of s) = omega (arith, over.0, weighed-one (bins_of s)) in
    rw (back.1, back.2, over.1) (sym (summary_large s (entries (goal.at.returns-in_err-light c).In_ok-when) (λ z. omega arith) (omega arith)))

pub returns-in_err-when-2 : goal.returns-in_err-when-2
returns-in_err-when-2 c =
    let s = c.args.sums.now in
    let at = goal.at.returns-in_err-when-2 c in
    let broken = c.in_err-when-2.ensures in
    let back = err_from_is_err_and c.from_residual-in_err-when-2.result c.from_residual-in_err-when-2.ensures.1 in
    let dark : total (bins_of s) ≡ 0 = sym (light at.In_ok-light).1 ∙ eqb-true _ _ broken.0 in
    rw (back.1, back.2, broken.1) (sym (summary_dark s (entries at.In_ok-when) dark))

pub returns-in_err-all : goal.returns-in_err-all
returns-in_err-all c =
    let s = c.args.sums.now in
    let at = goal.at.returns-in_err-all c in
    let a = light at.In_ok-light in
    let over = c.in_err-all.ensures in
    let back = err_from_is_err_and c.from_residual-in_err-all.result c.from_residual-in_err-all.ensures.1 in
    let large : exactest < total (bins_of s) + rest_of s = omega (arith, over.0, a.1) in
    rw (back.1, back.2, over.1) (sym (summary_large s (entries at.In_ok-when) (some at.In_ok-when-2) large))

pub returns-in_err-lengths : goal.returns-in_err-lengths
returns-in_err-lengths c =
    let s = c.args.sums.now in
    let at = goal.at.returns-in_err-lengths c in
    let over = c.in_err-lengths.ensures (λ (i : ℕ). i + 1) (λ i r p. search rules) in
    let back = err_from_is_err_and c.from_residual-in_err-lengths.result c.from_residual-in_err-lengths.ensures.1 in
    let heavy : exactest < weighted 1 (bins_of s) = omega (arith, over.0, weighed-lengths (bins_of s)) in
    rw (back.1, back.2, over.1) (sym (summary_heavy s (entries at.In_ok-when) (some at.In_ok-when-2) heavy))

pub int_to_float-result : goal.int_to_float-result
int_to_float-result c = exact _ (omega (arith, (lengths (goal.at.int_to_float-result c).In_ok-lengths).1, (lengths (goal.at.int_to_float-result c).In_ok-lengths).0))

pub returns : goal.returns
returns c =
    let s = c.args.sums.now in
    let at = goal.at.returns c in
    let a = light at.In_ok-light in
    let whole = all at.In_ok-all in
    let b = lengths at.In_ok-lengths in
    rw (a.1, whole.1, b.1) (sym (summary_done s (entries at.In_ok-when) (some at.In_ok-when-2) whole.0 b.0))
