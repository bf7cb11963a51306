-- Why what Invariants.antt says lasts, and gives what the function promises.
use mathlib.Core.Path.{refl, sym, ◌∙◌}
use mathlib.Core.Bool.{false≢true}
use native.Mathlib.Omega.{arith}
use Rattle.bright.proofs.Links.{linking_start, linking_needs, linking_step, linking_end, can_nest_room}
use Rattle.stretch.proofs.nesting.enclosers.Goals as goal

pub loop-k-init : goal.loop-k-init
loop-k-init c =
    let can = can_nest_room _ _ _ (sym c.can_nest.ensures ∙ c.if-not-can_nest.false) in
    linking_start c.note_all-count.ensures can.0 can.1 can.2

pub link-requires : goal.link-requires
link-requires c = linking_needs c.loop-k.invariant c.loop-k-test.true

pub loop-k-preserved : goal.loop-k-preserved
loop-k-preserved c =
    linking_step c.loop-k.invariant c.loop-k-test.true c.link.ensures

pub returns : goal.returns
returns c =
    let can = sym c.can_nest.ensures ∙ c.if-not-can_nest.false in
    let noted = c.note_all-count.ensures in
    let linked = c.loop-k.invariant in
    record {
      counts = noted.counts ∙ rw can refl;
      written = linking_end noted linked (omega arith) ∙ rw can refl;
      scratch_kept = λ refused. absurd (false≢true (sym refused ∙ can));
      scratch_length = linked.kept ∙ noted.kept;
    }
