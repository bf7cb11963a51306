-- Why what Invariants.antt says lasts.
use mathlib.Core.Path.{refl, ap₂, ◌∙◌}
use mathlib.Core.List.{List}
use Prim.Native.Nat.{ℕ}
use native.Mathlib.Omega.{arith}
use lib.ListN.{get_or, set}
use Rattle.lists.specs.Tables as tables
use Rattle.gathering.proofs.Walks.{put-more}
use Rattle.gathering.proofs.scattering.copy_in.Goals as goal

pub loop-i-init : goal.loop-i-init
unfolding tables.each
loop-i-init c = refl

pub bounds-dst-at : goal.bounds-dst-at
bounds-dst-at c = rw c.loop-i.auto.dst (c.byte-at.ensures.within _ c.requires.0)

pub loop-i-preserved : goal.loop-i-preserved
loop-i-preserved c =
    let a = c.args in
    let w = a.walk in
    let l = c.loop-i in
    let value = get_or a.src.now l.i 0 in
    ap₂ (λ (g : List ℕ) (n : ℕ). set g n value) l.invariant c.byte-at.ensures.at
    ∙ put-more (λ (c old new : ℕ). new) a.src.now a.dst.now w.sweep w.track.index w.track.from l.i (omega (arith, c.requires.1, c.loop-i-test.true))
