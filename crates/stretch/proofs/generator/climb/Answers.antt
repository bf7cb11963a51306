-- Why what Invariants.antt says lasts, and gives what the function promises.
use mathlib.Core.Path.{◌≡◌, sym, ap, ◌∙◌}
use Prim.Native.Nat.{ℕ, ◌-◌, ◌<◌}
use native.Mathlib.Omega.{arith}
use lib.ListN.{length, get_or, take, drop, length-take, length-drop}
use lib.Seq.{get_or-take}
use Rattle.std.proofs.lemmas.List.{get_or-drop}
use Rattle.bright.proofs.Steps.{climbing_more}
use Rattle.bright.specs.Generator.{run8}
use Rattle.stretch.proofs.generator.climb.Goals as goal

pub loop-v-preserved : goal.loop-v-preserved
loop-v-preserved c =
    let f = c.args.line.now in
    let from = c.args.at.read in
    let l = c.loop-v in
    let i : l.v-index < length f - from = omega (arith, length-take (length f - from) (drop from f), length-drop from f) in
    let pixel : get_or (take (length f - from) (drop from f)) l.v-index 0 ≡ get_or f l.read 0 =
    get_or-take (length f - from) (drop from f) l.v-index 0 i ∙ get_or-drop from f l.v-index 0 ∙ ap (λ (k : ℕ). get_or f k 0) (sym l.invariant.place) in
    let v = rw pixel at c.if-v-top.false in
    record {
      climbing = rw pixel
          (climbing_more run8 f c.args.scratch.now c.args.at l.scratch l.read l.depth l.top l.invariant.climbing (omega arith) v
          c.put.new.scratch c.grown-depth.result c.put.auto.scratch (rw pixel at c.put.ensures) (rw pixel at c.grown-depth.ensures));
      place = omega arith;
    }
