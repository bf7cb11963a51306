-- The call `scatter`, the way back from gathering: which rules it checks, and what it leaves.
--   put op cs vs f    f with, at each of the places cs in order, op of the place, what stood there and the value of vs
--   stored cs vs f    f with the values vs stored at the places cs, in order
-- Laws: gathering/proofs/Puts, PutLines.
use Rattle.std.specs.Prelude.{◌≡◌, not, List, [], ◌∷◌, map, ℕ, ltb, length, get_or, set, ℤ}
use Rattle.answer.specs.declared.Answer.{Answer}
use Rattle.answer.specs.Rules.{Rule, rule, answer, after}
use Rattle.frame.specs.declared.direction.Direction.{Direction}
use Rattle.frame.specs.declared.shape.Shape.{Shape}
use Rattle.frame.specs.Direction.{is_direction}
use Rattle.frame.specs.Shape.{is_frame, needed}
use Rattle.frame.specs.Lines.{pixels, no_line, place}

abbrev pub put : (ℕ → ℕ → ℕ → ℕ) → List ℕ → List ℕ → List ℕ → List ℕ
put op [] vs f = f
put op (c ∷ cs) [] f = f
put op (c ∷ cs) (v ∷ vs) f = put op cs vs (set f c (op c (get_or f c 0) v))

abbrev pub stored : List ℕ → List ℕ → List ℕ → List ℕ
stored cs vs f = put (λ (c old new : ℕ). new) cs vs f

-- size values to line k of a frame of room bytes
abbrev pub scatter_rules : Shape → Direction → ℤ → ℕ → ℕ → List Rule
scatter_rules sh d k size room =
    rule (not (is_frame sh)) 1 0
    ∷ rule (not (is_direction d)) 2 0
    ∷ rule (no_line sh d k) 2 0
    ∷ rule (ltb size (length (pixels sh d k))) 5 (length (pixels sh d k))
    ∷ rule (ltb room (needed sh)) 6 (needed sh)
    ∷ []

-- the values at the front of src, to the pixels of line k in line order; every other byte is unchanged
pub record Scatters (src : List ℕ) (sh : Shape) (d : Direction) (k : ℤ) (dst dst' : List ℕ) (a : Answer) : Type 0 where
  pub answers : a ≡ answer (scatter_rules sh d k (length src) (length dst)) (length (pixels sh d k))
  pub written : dst' ≡ after a (stored (map (place sh) (pixels sh d k)) src dst) dst
