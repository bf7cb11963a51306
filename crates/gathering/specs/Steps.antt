-- What private contracts need.
--   frame_line_rules framed n size from room to  the rules of a call on a line of a frame, with n pixels; size and room are lent, from and to needed
use Rattle.std.specs.Prelude.{Bool, not, List, [], ◌∷◌, ℕ, ltb, eqb}
use Rattle.answer.specs.Rules.{Rule, rule}

abbrev pub frame_line_rules : Bool → ℕ → ℕ → ℕ → ℕ → ℕ → List Rule
frame_line_rules framed n size from room to =
    rule (not framed) 1 0 ∷ rule (eqb n 0) 2 0 ∷ rule (ltb size from) 5 from ∷ rule (ltb room to) 6 to ∷ []
