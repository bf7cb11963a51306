-- What holds of each member of a list.
--   All P l    P holds of each member of the list l
-- Laws: lists/proofs/Members.
use Rattle.std.specs.Prelude.{List, [], ◌∷◌}

unfoldable pub All : {A : Type 0} → (A → Type 0) → List A → Type 0
All P [] = Unit {0}
All P (x ∷ xs) = P x × All P xs
