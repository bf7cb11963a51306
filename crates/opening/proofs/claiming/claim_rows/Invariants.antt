-- The first y rows have claimed pixels.
use Prim.Native.Nat.{ℕ, ◌+◌, ◌*◌, max}
use lib.ListN.{get_or}
use Rattle.frame.specs.Shape.{shape}
use Rattle.frame.specs.Painted.{Painted}
use Rattle.gathering.specs.Claiming.{claims}
use Rattle.opening.proofs.claiming.claim_rows.Given as goal

abbrev pub invariant-loop-y : goal.invariant-loop-y
invariant-loop-y l =
    Painted (shape l.shape.width l.y l.shape.stride) (λ (x n : ℕ). max (get_or l.initial.dst (n * l.shape.stride + x) 0) (get_or l.new (n * l.shape.width + x) 0)) l.initial.dst l.dst
    × Painted (shape l.shape.width l.y l.shape.stride)
    (λ (x n : ℕ). claims (get_or l.initial.dst (n * l.shape.stride + x) 0) l.number (get_or l.new (n * l.shape.width + x) 0) (get_or l.initial.directions (n * l.shape.stride + x) 0)) l.initial.directions l.directions
