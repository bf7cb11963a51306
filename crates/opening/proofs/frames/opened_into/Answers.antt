-- Along by rows, which are its lines; else the copy, opened where it stands.
use mathlib.Core.Path.{◌≡◌, sym, ◌∙◌}
use native.Mathlib.Nat.{le_of_lt}
use borrow.Author.Tests.{leb-false, le-leb}
use lib.IntN.{nat_abs}
use Rattle.std.proofs.Common.{rules}
use Rattle.frame.proofs.Paintings.{painted_as}
use Rattle.opening.specs.Pixels.{opened_pixel}
use Rattle.opening.proofs.Along.{along-opened}
use Rattle.opening.proofs.Inplace.{opened_copy}
use Rattle.opening.proofs.frames.opened_into.Goals as goal

pub returns-then-d-eq0 : goal.returns-then-d-eq0
returns-then-d-eq0 c =
    let a = c.args in
    let pre = c.requires in
    let flat : nat_abs a.d.q ≡ 0 = search rules in
    painted_as (opened_pixel a.src.now a.shape a.d a.length) c.open_rows.ensures
    (λ x y h l. sym (along-opened a.src.now a.shape a.d (record { frame = pre.0; direction = pre.1.direction }) flat pre.3 a.length x y h l))

pub returns-then-goes_down : goal.returns-then-goes_down
returns-then-goes_down c =
    let a = c.args in
    let pre = c.requires in
    let down = sym c.goes_down.ensures ∙ c.if-goes_down.true in
    opened_copy a.src.now a.shape a.d a.stride pre.0 pre.3 pre.1 c.open_rows-2.ensures a.length pre.2 down pre.4
    c.open_down.ensures

pub returns-else-goes_down : goal.returns-else-goes_down
returns-else-goes_down c =
    let a = c.args in
    let pre = c.requires in
    let flatter = sym c.goes_down.ensures ∙ c.if-goes_down.false in
    let flat = le-leb (nat_abs a.d.q) (nat_abs a.d.p) (le_of_lt (leb-false (nat_abs a.d.p) (nat_abs a.d.q) flatter)) in
    opened_copy a.src.now a.shape a.d a.stride pre.0 pre.3 pre.1 c.open_rows-2.ensures a.length pre.2 flat pre.4
    c.open_shallow.ensures
