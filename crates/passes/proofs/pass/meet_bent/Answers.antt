-- The way that the row at `near` asks for also keeps those at `far`.
use Rattle.passes.proofs.Blocks.{bent-keeps, goes_by}
use Rattle.passes.proofs.pass.meet_bent.Goals as goal

pub run-requires-clause-keeps : goal.run-requires-clause-keeps
run-requires-clause-keeps c = bent-keeps c.args.bends.now (goes_by _ _ _ _ (c.is_parted.ensures.0 c.if-is_parted.true))
