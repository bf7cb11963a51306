-- P11 and P12 of document 01, and the lengths that document 02 gives, computed from the definitions.
use mathlib.Core.Path.{◌≡◌, refl}
use mathlib.Core.List.{List, [], ◌∷◌}
use Prim.Native.Nat.{ℕ, suc}
use lib.IntN.{ℤ, pos, negsuc}
use Rattle.lists.specs.Tables as tables
use Rattle.lists.specs.Tables.{table}
use Rattle.frame.specs.Direction.{dir, along, across}
use Rattle.frame.specs.Shape.{shape}
use Rattle.frame.specs.Length.{first_from, pixels_for}
use Rattle.frame.specs.Lines.{Pixel, at, pixels, r}

-- the pixels of line k of a frame of 4 by 2 pixels in the direction (p, q)
abbrev pub on_four : ℤ → ℤ → ℤ → List Pixel
on_four p q k = pixels (shape 4 2 4) (dir p q) k

-- '(P11) direction (2,1), line −1 is (1,0) (2,0) (3,1) and line −2 is (3,0)'
pub P11 : (on_four (pos 2) (pos 1) (negsuc 0) ≡ at 1 0 ∷ at 2 0 ∷ at 3 1 ∷ []) × (on_four (pos 2) (pos 1) (negsuc 1) ≡ at 3 0 ∷ [])
unfolding r tables.each
P11 = (refl, refl)

-- '(P12) direction (−2,1), line 1 is (0,1) (1,0) (2,0)'
pub P12 : on_four (negsuc 1) (pos 1) (pos 1) ≡ at 0 1 ∷ at 1 0 ∷ at 2 0 ∷ []
unfolding r tables.each
P12 = refl

-- 'L of 21 gives 16 at (1,1), 17 at (4,3), 21 along.'
pub twenty_one : pixels_for (dir (pos 1) (pos 1)) 21 ∷ pixels_for (dir (pos 4) (pos 3)) 21 ∷ pixels_for along 21 ∷ pixels_for across 21 ∷ [] ≡ 16 ∷ 17 ∷ 21 ∷ 21 ∷ []
unfolding first_from
twenty_one = refl

-- at (1,1) the lengths 4 and 5 share a count, and so do 7 and 8
pub shared : table (λ (i : ℕ). pixels_for (dir (pos 1) (pos 1)) (suc i)) 8 ≡ 1 ∷ 2 ∷ 3 ∷ 4 ∷ 4 ∷ 5 ∷ 6 ∷ 6 ∷ []
unfolding tables.each first_from
shared = refl
