-- Why what Invariants.antt says lasts, and gives what the function promises.
use mathlib.Core.Path.{◌≡◌, sym, ap₂, ◌∙◌}
use mathlib.Core.List.{[]}
use Prim.Native.Nat.{ℕ, ◌-◌}
use native.Mathlib.Omega.{arith}
use lib.ListN.{length, get_or}
use Rattle.frame.specs.declared.direction.Direction.{Direction}
use Rattle.frame.specs.Direction.{numbered_of}
use Rattle.sizes.specs.Sums.{frame_sums}
use Rattle.sizes.specs.Rose.{rose_bins}
use Rattle.sizes.proofs.Rows.{rose_done, filling_more, filling_end}
use Rattle.sizes.proofs.roses.rose.Goals as goal

pub loop-number-preserved : goal.loop-number-preserved
loop-number-preserved c =
    let src = c.args.src.now in
    let sh = c.args.shape in
    let at = c.loop-number in
    let bins : length (get_or at.row-items at.number []) - 1 ≡ rose_bins = omega arith in
    let set : c.set_sums.new.sums ≡ frame_sums src sh (numbered_of at.number) rose_bins =
    c.set_sums.ensures ∙ ap₂ (λ (d : Direction) (K : ℕ). frame_sums src sh d K) c.numbered-d.ensures bins in
    filling_more src sh at.number at.row-items _ c.loop-number-test.true at.invariant set

pub returns : goal.returns
returns c =
    let src = c.args.src.now in
    let at = c.loop-number in
    let all : at.number ≡ 16 = omega arith in
    let rows = filling_end src c.args.shape at.row-items (rw all at at.invariant) in
    rose_done src c.args.scratch.now c.args.shape _ c.rose_refusal.ensures (sym c.if-is_err.ensures.value) at.row-items at.scratch rows at.auto.scratch
