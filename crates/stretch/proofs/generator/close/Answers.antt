-- The topmost run is ended by the line's end, or by the pixel at hand.
use native.Mathlib.Omega.{arith}
use Rattle.bright.proofs.Steps.{finds_end, finds_fall}
use Rattle.bright.specs.Generator.{run8}
use Rattle.stretch.proofs.generator.close.Goals as goal

pub returns-then-at-line : goal.returns-then-at-line
returns-then-at-line c =
    let start = c.pair_at-start in
    let level = c.top_level in
    let under = c.top_level-under in
    let a = c.args in
    rw (c.from-level.ensures, c.from-base.ensures)
    (finds_end run8 a.line.now a.scratch.now a.at start.result level.result under.result
    (record { closes = c.requires; from = start.ensures; below = under.ensures }) level.ensures c.if-at-line.true)

pub returns : goal.returns
returns c =
    let start = c.pair_at-start in
    let level = c.top_level in
    let under = c.top_level-under in
    let fell = c.fall-bookmark in
    let a = c.args in
    rw (c.from-level.ensures, c.from-base-2.ensures)
    (finds_fall run8 a.line.now a.scratch.now a.at start.result level.result under.result
    (record { closes = c.requires; from = start.ensures; below = under.ensures }) level.ensures
    fell.new.scratch c.max.result fell.result (omega (arith, c.requires.ready.read, c.if-at-line.false)) c.max.ensures fell.ensures)
