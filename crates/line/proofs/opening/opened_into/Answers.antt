-- The copy of the source is opened where it stands.
use mathlib.Core.Path.{refl, ap, ◌∙◌}
use mathlib.Core.List.{List}
use Prim.Native.Nat.{ℕ}
use native.Mathlib.Omega.{arith}
use borrow.Author.Tests.{le-ltb}
use Rattle.lists.proofs.Stores.{filled_copy}
use Rattle.line.specs.Windows.{opened}
use Rattle.line.proofs.opening.opened_into.Goals as goal

pub returns : goal.returns
returns c =
    let args = c.args in
    let src = args.src.now in
    let length = args.length in
    let copied = filled_copy src (c.copy.ensures.done (omega arith) (omega arith)) refl
    c.requires.1 in
    c.open_in_place.ensures ∙ rw (le-ltb length 1 c.requires.0) (ap (λ (l : List ℕ). opened l length) copied)
