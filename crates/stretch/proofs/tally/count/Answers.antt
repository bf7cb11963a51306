-- Why what Invariants.antt says lasts, and gives what the function promises.
use mathlib.Core.Path.{refl}
use native.Mathlib.Omega.{arith}
use lib.ListN.{get_or}
use Rattle.bright.proofs.Counting.{going_start, going-first, going_pop, going-room, going_push, going-same, going_end}
use Rattle.bright.specs.Reading.{levels8}
use Rattle.stretch.proofs.tally.count.Goals.{then-loop-depth-test+else-v-levels, else-loop-depth-test, then-depth-eq0, then-depth-eq0-via-then-depth-eq0, then-depth-eq0-via-else-depth-eq0+then-levels-depth, else-depth-eq0+else-levels-depth}
use Rattle.stretch.proofs.tally.count.Goals as goal

pub loop-v-init : goal.loop-v-init
loop-v-init c = going_start levels8 c.args.line.now _ refl

pub loop-depth-preserved : goal.loop-depth-preserved
loop-depth-preserved c =
    let f = c.args.line.now in
    let l = c.loop-depth in
    let read = c.loop-v.v-index in
    going_pop levels8 f c.loop-v.levels l.depth l.total read (get_or f read 0) l.invariant (omega arith) refl (λ e. omega arith) (omega arith)

pub bounds-levels-depth-then-depth-eq0 : goal.bounds-levels-depth-then-depth-eq0
bounds-levels-depth-then-depth-eq0 c =
    let f = c.args.line.now in
    let l = c.loop-depth in
    let read = c.loop-v.v-index in
    let byte = c.type_inv.line read in
    elim c.then-depth-eq0.branch [
      | then-depth-eq0-via-then-depth-eq0 w ↦ omega arith
      | then-depth-eq0-via-else-depth-eq0+then-levels-depth w ↦
          going-room levels8 f c.loop-v.levels l.depth l.total read (get_or f read 0) l.invariant (omega arith) refl w.if-depth-eq0.false (omega (arith, byte)) (omega arith)
    ]

pub loop-v-preserved : goal.loop-v-preserved
loop-v-preserved c =
    let f = c.args.line.now in
    let a = c.loop-v.levels in
    let l = c.loop-depth in
    let read = c.loop-v.v-index in
    let v = get_or f read 0 in
    let byte = c.type_inv.line read in
    elim c.if-depth-eq0.branch [
      | then-depth-eq0 w ↦
          rw (w.levels-is, w.depth-is)
          (elim w.then-depth-eq0.branch [
            | then-depth-eq0-via-then-depth-eq0 u ↦
                going-first levels8 f a l.depth l.total read v l.invariant (omega arith) refl (omega (arith, byte)) u.if-depth-eq0.true
            | then-depth-eq0-via-else-depth-eq0+then-levels-depth u ↦
                going_push levels8 f a l.depth l.total read v l.invariant (omega arith) refl u.if-depth-eq0.false (omega (arith, byte)) u.if-levels-depth.true
          ])
      | else-depth-eq0+else-levels-depth w ↦
          rw (w.levels-is, w.depth-is)
          (elim c.loop-depth-test.branch [
            | then-loop-depth-test+else-v-levels u ↦
                going-same levels8 f a l.depth l.total read v l.invariant (omega arith) refl w.if-depth-eq0.false w.if-levels-depth.false u.if-v-levels.false
            | else-loop-depth-test u ↦ absurd (w.if-depth-eq0.false (omega arith))
          ])
    ]

pub returns : goal.returns
returns c =
    let l = c.loop-v in
    going_end levels8 c.args.line.now l.levels l.depth l.total l.v-index l.invariant (omega arith)
