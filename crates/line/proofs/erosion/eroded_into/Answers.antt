-- The part of the array that is lent on has the line's length.
use mathlib.Core.Path.{sym}
use native.Mathlib.Omega.{arith}
use lib.Seq.{length-take-le}
use borrow.Author.Rules.{rules}
use Rattle.line.proofs.erosion.eroded_into.Goals as goal

pub slice_bounds-eroded_by-end : goal.slice_bounds-eroded_by-end
slice_bounds-eroded_by-end c = sym (length-take-le _ _ (search rules))

pub eroded_by-requires : goal.eroded_by-requires
eroded_by-requires c = (omega arith, omega arith, length-take-le _ _ (search rules), omega arith)
