-- The rules are those of `open_frame` along, with the shorter of the two destinations.
use lib.ListN.{length as size}
use Rattle.std.proofs.Common.{rules}
use Rattle.opening.proofs.Calls.{highest_rules_lem}
use Rattle.opening.proofs.sixteen.highest.Goals as goal

pub returns-in_err-tested : goal.returns-in_err-tested
returns-in_err-tested c =
    let a = c.args in
    let rules_lem = highest_rules_lem a.shape a.length (size a.src.now) (size a.dst.now) (size a.directions.now) (size a.scratch.now) in
    search rules
