-- Each pixel of the part is one of the slice.
use mathlib.Core.Path.{ap₂}
use Prim.Native.Nat.{ℕ, ◌+◌, ◌-◌}
use native.Mathlib.Omega.{arith}
use borrow.Author.Rules.{rules}
use lib.ListN.{get_or}
use Rattle.lists.proofs.Parts.{filled-put, part_at}
use Rattle.passes.specs.Passes.{op, straight}
use Rattle.passes.proofs.between.meet_by.Goals as goal

pub returns-then-is_within-2 : goal.returns-then-is_within-2
returns-then-is_within-2 c =
    let a = c.args in
    record {
      done = λ there room.
          filled-put c.meet_row.ensures (search rules) (omega arith) room (λ (k : ℕ). op a.darker (get_or a.dst.now k 0) (straight a.from a.src.now (k - a.at)))
          (λ k l h.
          ap₂ (op a.darker) (part_at a.at (a.at + a.n) a.dst.now (k - a.at) k (omega arith) (omega arith))
          (part_at a.from (a.from + a.n) a.src.now (k - a.at) (a.from + (k - a.at)) (omega arith) (omega arith)));
      none = λ unfit. search rules;
    }
