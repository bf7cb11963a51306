-- Bins and rest in the cleared slice.
use mathlib.Core.Path.{refl}
use lib.ListN.{length}
use Rattle.std.proofs.Common.{rules}
use Rattle.sizes.proofs.Calls.{line-added}
use Rattle.sizes.proofs.lines.sums_of_line.Goals as goal

pub returns : goal.returns
returns c =
    record {
      answers = c.in_ok-tested.ensures;
      written = line-added c.args.line.now (length c.args.sums.now) _ _ (search rules) (c.fill.ensures.after (λ y e. e)) c.add_line.ensures;
      scratch_kept = λ refused. absurd (refused refl);
      scratch_length = c.add_line.auto.scratch;
    }
