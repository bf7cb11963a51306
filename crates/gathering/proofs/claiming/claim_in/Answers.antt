-- Why what Invariants.antt says lasts.
use mathlib.Core.Path.{◌≡◌, refl, ap, ap₂, ◌∙◌}
use mathlib.Core.List.{List}
use Prim.Native.Nat.{ℕ, ◌+◌, ◌<◌, max}
use native.Mathlib.Omega.{arith}
use Rattle.std.proofs.Math.Nat.{max_comm}
use lib.ListN.{length, get_or, set}
use Rattle.lists.specs.Tables as tables
use Rattle.frame.specs.Sweep.{cell}
use Rattle.gathering.specs.Claiming.{claims}
use Rattle.gathering.proofs.Puts.{put-off}
use Rattle.gathering.proofs.Walks.{places, places_fresh, put-more}
use Rattle.gathering.proofs.claiming.claim_in.Goals as goal

pub loop-i-init : goal.loop-i-init
unfolding tables.each
loop-i-init c = (refl, refl)

pub bounds-holders-at : goal.bounds-holders-at
bounds-holders-at c = rw c.loop-i.auto.holders (c.byte-at.ensures.within _ c.requires.2)

pub bounds-holders-at-in-loop-i : goal.bounds-holders-at-in-loop-i
bounds-holders-at-in-loop-i c = rw c.loop-i.auto.holders (c.byte-at.ensures.within _ c.requires.2)

pub bounds-best-at-in-loop-i : goal.bounds-best-at-in-loop-i
bounds-best-at-in-loop-i c = rw c.loop-i.auto.best (c.byte-at.ensures.within _ c.requires.1)

pub loop-i-preserved : goal.loop-i-preserved
loop-i-preserved c =
    let a = c.args in
    let w = a.walk in
    let t = w.track in
    let l = c.loop-i in
    let at = c.byte-at in
    let here = cell w.sweep t.index (t.from + l.i) in
    let value = get_or a.values.now l.i 0 in
    let enough : l.i < length a.values.now = omega (arith, c.requires.3, c.loop-i-test.true) in
    -- the best value there is the one at entry: no earlier turn has been there
    let old-is : get_or l.best at.result 0 ≡ get_or a.best.now here 0 =
    ap₂ (λ (g : List ℕ) (n : ℕ). get_or g n 0) l.invariant.0 at.ensures.at
    ∙ put-off (λ (p old new : ℕ). max old new) (places w.sweep t.index t.from l.i) a.values.now a.best.now here (places_fresh w.sweep t.index t.from l.i c.requires.0 w.spans c.loop-i-test.true)
    in (
      ap (set l.best at.result) (c.max.ensures ∙ max_comm value (get_or l.best at.result 0))
          ∙ ap₂ (λ (g : List ℕ) (n : ℕ). set g n (max (get_or g n 0) value)) l.invariant.0 at.ensures.at
          ∙ put-more (λ (p old new : ℕ). max old new) a.values.now a.best.now w.sweep t.index t.from l.i enough,
      ap (set l.holders at.result) (c.claimed.ensures ∙ ap (λ (old : ℕ). claims old a.number value (get_or l.holders at.result 0)) old-is)
          ∙ ap₂ (λ (g : List ℕ) (n : ℕ). set g n (claims (get_or a.best.now here 0) a.number value (get_or g n 0))) l.invariant.1 at.ensures.at
          ∙ put-more (λ (p old new : ℕ). claims (get_or a.best.now p 0) a.number new old) a.values.now a.holders.now w.sweep t.index t.from l.i enough,
    )
