-- Where a stretch is found, the scratch holds the runs then open.
use Rattle.bright.proofs.Steps.{next-room}
use Rattle.stretch.proofs.nesting.next_noted.Goals as goal

pub top_start-encloser-requires : goal.top_start-encloser-requires
top_start-encloser-requires c = next-room c.in_ok-stretch.ensures
