-- The first u lines have claimed pixels.
use mathlib.Core.Path.{◌≡◌}
use lib.ListN.{length as size}
use Rattle.opening.proofs.Lines.{LinesClaimed}
use Rattle.opening.proofs.claiming.claim_lines.Given as goal

abbrev pub invariant-loop-u : goal.invariant-loop-u
invariant-loop-u l =
    (size l.values ≡ 4096) × LinesClaimed l.src l.shape l.d l.length l.number l.u l.initial.dst l.dst l.initial.directions l.directions
