-- Why what Invariants.antt says lasts, and gives what the function promises.
use Rattle.std.proofs.Common.{◌≡◌, sym, ◌∙◌, ap, subst, length, ℕ, suc, ◌+◌, ◌-◌, ◌*◌, ◌<◌, ◌≤◌, List, get_or, arith}
use Rattle.std.proofs.Math.ListN.{set}
use Rattle.answer.specs.declared.Answer.{Answer}
use Rattle.answer.specs.Limits.{longest}
use Rattle.bright.specs.declared.Nested.{Nested}
use Rattle.bright.specs.Stretches.{stretches, no_stretch}
use Rattle.bright.specs.Generator.{run8}
use Rattle.bright.specs.Nesting.{stretch_at, nested}
use Rattle.bright.specs.Steps.{outer_of, noted, Links}
use Rattle.bright.proofs.Laying.{listable, laying_start, laying_begins, laying_room, laying_less, laying_length, laying_table, laying_step, placed, Placing, placing_start, placing_begins, placing_needs, placing_here, placing_table, placing_step, placing_end}
use Rattle.stretch.proofs.listing.list.Goals as goal

-- what lies past a table's end
abbrev none : Nested
none = nested no_stretch 0

-- one turn of the second loop: of the table l the record at j is read, which still has the start of its encloser
module _ {f : List ℕ} {t : List Nested} {o : List ℕ} {c : ℕ} {m : List ℕ} {k : ℕ} (g : Placing f t o c m k) (l : List Nested) (e : l ≡ placed f t c k)
    (j : ℕ) (up : suc j ≡ k) where
  stands : Placing f t o c m (suc j)
  stands = rw up g

  table_up : l ≡ placed f t c (suc j)
  table_up = rw up e

  is_noted : get_or l j none ≡ noted (stretches f) j
  is_noted = ap (λ (x : List Nested). get_or x j none) table_up ∙ placing_here stands none

  needed : (2 * (get_or l j none).stretch.start + 2 ≤ length m) × (2 * (get_or l j none).encloser + 2 ≤ length m) × (j < c) × (c ≤ longest)
  needed =
      subst (λ (s : Nested). (2 * s.stretch.start + 2 ≤ length m) × (2 * s.encloser + 2 ≤ length m) × (j < c) × (c ≤ longest)) (sym is_noted) (placing_needs stands)

  module _ {m' : List ℕ} {r : ℕ} (h : Links m (get_or l j none).stretch.start (get_or l j none).encloser j c m' r) where
    linked : Links m (stretch_at (stretches f) j).start (outer_of (stretches f) j) j c m' r
    linked = subst (λ (s : Nested). Links m s.stretch.start s.encloser j c m' r) is_noted h

    next_placing : Placing f t o c m' j
    next_placing = placing_step stands linked

    next_table : set l j (nested (get_or l j none).stretch r) ≡ placed f t c j
    next_table =
        ap (λ (s : Nested). set l j (nested s.stretch r)) is_noted
        ∙ ap (λ (x : List Nested). set x j (nested (noted (stretches f) j).stretch r)) table_up ∙ placing_table stands linked

pub loop-nested-init : goal.loop-nested-init
loop-nested-init c =
    let a = c.args in
    record {
      laying =
          rw c.begin-at.ensures
          (laying_start run8 a.line.now a.table.now a.scratch.now (listable a.line.now a.table.now a.scratch.now (sym (ap (λ (a : Answer). a.number) c.in_ok-tested.ensures))));
      table = laying_begins a.line.now a.table.now;
    }

pub bounds-table-count : goal.bounds-table-count
bounds-table-count c =
    let at = c.loop-nested.invariant in
    omega (arith, laying_room at.laying c.in-Some.ensures, laying_length at.laying c.in-Some.ensures, ap length at.table)

pub loop-nested-smaller : goal.loop-nested-smaller
loop-nested-smaller c = laying_less c.loop-nested.invariant.laying c.in-Some.ensures

pub loop-nested-preserved : goal.loop-nested-preserved
loop-nested-preserved c =
    let at = c.loop-nested.invariant in
    record {
      laying = laying_step at.laying c.in-Some.ensures;
      table = ap (λ (x : List Nested). set x c.loop-nested.count c.in-Some.field-0.nested) at.table ∙ laying_table at.laying c.in-Some.ensures;
    }

pub loop-k-init : goal.loop-k-init
loop-k-init c =
    let at = c.loop-nested.invariant in
    record {
      placing = placing_start at.laying c.in_default.ensures;
      table = at.table ∙ placing_begins c.args.line.now c.args.table.now c.loop-nested.count;
    }

pub link-record-requires : goal.link-record-requires
link-record-requires c =
    let at = c.loop-k.invariant in
    needed at.placing c.loop-k.table at.table (c.loop-k.k - 1) (omega arith)

pub loop-k-preserved : goal.loop-k-preserved
loop-k-preserved c =
    let at = c.loop-k.invariant in
    record {
      placing = next_placing at.placing c.loop-k.table at.table (c.loop-k.k - 1) (omega arith) c.link-record.ensures;
      table = next_table at.placing c.loop-k.table at.table (c.loop-k.k - 1) (omega arith) c.link-record.ensures;
    }

pub returns : goal.returns
returns c =
    let at = c.loop-k.invariant in
    rw at.table (placing_end at.placing (omega arith) (sym (ap (λ (a : Answer). a.number) c.in_ok-tested.ensures)))
