-- Why what Invariants.antt says lasts, and gives what the function promises.
use mathlib.Core.Path.{ap}
use mathlib.Core.List.{List}
use Prim.Native.Nat.{ℕ}
use native.Mathlib.Omega.{arith}
use lib.ListN.{length, get_or}
use Rattle.bright.specs.Nesting.{nested}
use Rattle.text.specs.Lines.{line_text}
use Rattle.text.specs.Stretches.{stretch_fields}
use Rattle.text.proofs.Runs.{left-start, left-more, left_end, left-room, puts_none}
use Rattle.text.proofs.Printings.{printing_start, printing_none, printing_past, printing_first, printing_more}
use Rattle.text.proofs.stretches.put_stretches.Goals as goal

pub loop-encloser-init : goal.loop-encloser-init
loop-encloser-init c =
    let line = c.args.line.now in
    let start = printing_start line c.args.places.now c.args.runs.now c.requires.0 c.requires.1 c.requires.2 in
    (rw c.begin-bookmark.ensures start, left-start _ _ _)

pub put_line-end-requires : goal.put_line-end-requires
put_line-end-requires c =
    let at = c.loop-encloser in
    let step = c.in-Some.ensures in
    let first = printing_first at.invariant.0 step in
    let room = left-room (line_text 90 (stretch_fields (nested c.in-Some.step.stretch (get_or c.args.places.now at.encloser-index 0)))) _ (rw first at at.invariant.1) in
    let same = ap (λ (fields : List ℕ). length (line_text 90 fields)) c.stretch_fields.ensures in
    omega (arith, same, room)

pub loop-encloser-preserved : goal.loop-encloser-preserved
loop-encloser-preserved c =
    let at = c.loop-encloser in
    let step = c.in-Some.ensures in (
      printing_more at.invariant.0 step,
      left-more (rw (printing_first at.invariant.0 step) at at.invariant.1) (rw c.stretch_fields.ensures at c.put_line-end.ensures),
    )

pub returns-in_default : goal.returns-in_default
returns-in_default c =
    let at = c.loop-encloser in
    left_end (rw (printing_none at.invariant.0 c.in_default.ensures) at at.invariant.1) (puts_none at.dst at.end)

pub returns : goal.returns
returns c =
    let at = c.loop-encloser in
    left_end (rw (printing_past at.invariant.0 c.loop-encloser-test.false) at at.invariant.1) (puts_none at.dst at.end)
