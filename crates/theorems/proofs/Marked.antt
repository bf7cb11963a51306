-- 'P1 to P12 form a single table, proved by one theorem about the definitions.'
--   marked_hold     in every row of the table, what the definition computes is what the document says
-- Assumes nothing.
use mathlib.Core.Path.{◌≡◌, refl}
use mathlib.Core.List.{map}
use Rattle.lists.specs.Tables as tables
use Rattle.lists.specs.Extremes as extremes
use Rattle.line.specs.Windows as windows
use Rattle.frame.specs.Lines as lines
use Rattle.bright.specs.Stretches as stretching
use Rattle.bright.specs.Nesting as nesting
use Rattle.theorems.specs.Marked.{Example, marked}

pub marked_hold : map (λ (e : Example). e.computed) marked ≡ map (λ (e : Example). e.stated) marked
unfolding tables.each extremes.least extremes.greatest windows.eroded windows.dilated windows.opened lines.r stretching.level_of stretching.is_stretch stretching.stretch_of stretching.ending_at stretching.stretches nesting.shortest nesting.records
marked_hold = refl
