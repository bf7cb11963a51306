-- The first line, the bins' lines and the last, one behind the other.
use Rattle.std.proofs.Common.{◌≡◌, ℕ, ◌-◌, List, length, arith}
use Rattle.lists.specs.Tables as tables
use Rattle.text.specs.Lines.{line_text}
use Rattle.text.specs.Sums.{bin_fields}
use Rattle.text.proofs.Runs.{puts_none, puts_each, each_within}
use Rattle.text.proofs.Texts.{sums-length, sums-put}
use Rattle.text.proofs.sums.put_sums.Goals as goal

pub put_line-next-requires : goal.put_line-next-requires
put_line-next-requires c = omega (arith, sums-length c.args.direction c.args.sums.now)

pub loop-i-init : goal.loop-i-init
unfolding tables.each
loop-i-init c = puts_none _ _

pub put_line-next-requires-in-loop-i : goal.put_line-next-requires-in-loop-i
put_line-next-requires-in-loop-i c =
    let sums = c.args.sums.now in
    let turn = c.loop-i in
    omega (
      arith,
      sums-length c.args.direction sums,
      each_within (λ (i : ℕ). line_text 66 (bin_fields sums i)) turn.i (length sums - 1) (omega arith),
    )

pub loop-i-preserved : goal.loop-i-preserved
loop-i-preserved c =
    let f : ℕ → List ℕ = λ (i : ℕ). line_text 66 (bin_fields c.args.sums.now i) in
    puts_each f c.loop-i.i c.loop-i.invariant c.put_line-next-in-loop-i.ensures

pub put_line-requires : goal.put_line-requires
put_line-requires c =
    let sums = c.args.sums.now in
    let all : c.loop-i.i ≡ length sums - 1 = omega arith in
    let bins = rw all at c.loop-i.invariant in
    omega (arith, bins.next, sums-length c.args.direction sums)

pub returns : goal.returns
returns c =
    let sums = c.args.sums.now in
    let all : c.loop-i.i ≡ length sums - 1 = omega arith in
    sums-put c.args.direction sums c.put_line-next.ensures (rw all at c.loop-i.invariant) c.put_line.ensures
