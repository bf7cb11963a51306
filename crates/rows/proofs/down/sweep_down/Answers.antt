-- The sweep of what is accepted, and the same turned.
use mathlib.Core.Path.{◌∙◌}
use Rattle.frame.proofs.Shapes.{sweep_sane, sweep_accepted}
use Rattle.rows.proofs.down.sweep_down.Goals as goal

pub swapped-requires : goal.swapped-requires
swapped-requires c =
    let ok = c.requires in
    rw (c.sweep_of-s.ensures ∙ sweep_accepted ok) (sweep_sane ok).wide
