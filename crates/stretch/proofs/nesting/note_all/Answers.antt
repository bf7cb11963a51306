-- Why what Invariants.antt says lasts, and gives what the function promises.
use mathlib.Core.Path.{refl, ap, ◌∙◌}
use mathlib.Core.List.{List}
use Prim.Native.Nat.{ℕ}
use native.Mathlib.Omega.{arith}
use Rattle.lists.proofs.Stores.{filled_none, filled_more, filled_end}
use Rattle.bright.specs.declared.Nested.{Nested}
use Rattle.bright.specs.Stretches.{stretches}
use Rattle.bright.specs.Generator.{run8}
use Rattle.bright.specs.Nesting.{stretch_at}
use Rattle.bright.specs.Steps.{outer_of}
use Rattle.bright.proofs.Counting.{stretches-few}
use Rattle.bright.proofs.Links.{finding_start, finding_more, finding_step, finding_noted, finding_end}
use Rattle.stretch.proofs.nesting.note_all.Goals as goal

abbrev start_in : List ℕ → ℕ → ℕ
start_in f i = (stretch_at (stretches f) i).start

pub loop-nested-init : goal.loop-nested-init
loop-nested-init c =
    let a = c.args in
    record {
      finding = rw c.begin-at.ensures (finding_start run8 a.line.now a.scratch.now c.requires.0 c.requires.3);
      starting = filled_none a.starts.now 0 (start_in a.line.now);
      outer = filled_none a.outers.now 0 (outer_of (stretches a.line.now));
      kept = refl;
    }

pub offset_bounds-starts-count : goal.offset_bounds-starts-count
offset_bounds-starts-count c =
    omega (arith, finding_more c.loop-nested.invariant.finding c.in-Some.ensures, stretches-few c.args.line.now, c.requires.0)

pub bounds-starts-count : goal.bounds-starts-count
bounds-starts-count c =
    let at = c.loop-nested.invariant in
    omega (arith, finding_more at.finding c.in-Some.ensures, stretches-few c.args.line.now, c.requires.1, at.starting.same)

pub offset_bounds-outers-count : goal.offset_bounds-outers-count
offset_bounds-outers-count c =
    omega (arith, finding_more c.loop-nested.invariant.finding c.in-Some.ensures, stretches-few c.args.line.now, c.requires.0)

pub bounds-outers-count : goal.bounds-outers-count
bounds-outers-count c =
    let at = c.loop-nested.invariant in
    omega (arith, finding_more at.finding c.in-Some.ensures, stretches-few c.args.line.now, c.requires.2, at.outer.same)

pub overflow_add-count : goal.overflow_add-count
overflow_add-count c =
    omega (arith, finding_more c.loop-nested.invariant.finding c.in-Some.ensures, stretches-few c.args.line.now, c.requires.0)

pub loop-nested-smaller : goal.loop-nested-smaller
loop-nested-smaller c =
    omega (arith, finding_more c.loop-nested.invariant.finding c.in-Some.ensures)

pub loop-nested-preserved : goal.loop-nested-preserved
loop-nested-preserved c =
    let at = c.loop-nested.invariant in
    let step = c.in-Some.ensures in
    let more = finding_more at.finding step in
    let few = stretches-few c.args.line.now in
    let is = finding_noted at.finding step in
    record {
      finding = finding_step at.finding step;
      starting = filled_more at.starting (omega arith) (omega (arith, more, few, c.requires.1, at.starting.same)) (ap (λ (n : Nested). n.stretch.start) is);
      outer = filled_more at.outer (omega arith) (omega (arith, more, few, c.requires.2, at.outer.same)) (ap (λ (n : Nested). n.encloser) is);
      kept = step.follows.kept ∙ at.kept;
    }

pub returns : goal.returns
returns c =
    let at = c.loop-nested.invariant in
    let all = finding_end at.finding c.in_default.ensures in
    record {
      counts = all;
      starting = filled_end at.starting all;
      outer = filled_end at.outer all;
      kept = c.in_default.ensures.follows.kept ∙ at.kept;
    }
