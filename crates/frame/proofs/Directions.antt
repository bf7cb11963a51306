-- The sixteen numbered directions: each rule is one computed test over the table, and the law at each entry.
--   neighbours_ascend     p·v − q·u is above 0 for each neighbouring pair
--   numbered-accepted     each of the sixteen is a direction; unnumbered_refused: what a number above 15 names is none
-- Assumes nothing.
use mathlib.Core.Path.{◌≡◌, refl, sym, ap, subst}
use mathlib.Core.Bool.{Bool, true, false, ◌&&◌}
use mathlib.Core.List.{List, [], ◌∷◌}
use Prim.Native.Nat.{ℕ, zero, suc, ◌<◌}
use native.Mathlib.Omega.{arith}
use native.Mathlib.Nat.{le_of_suc-le-suc}
use lib.Dec.{T}
use lib.ListN.{length, get_or, get_or-eq_default}
use lib.IntN.{pos}
use lib.Signed.{lt_z, ◌<ℤ◌}
use Rattle.lists.proofs.Cases.{both_left, both_right}
use Rattle.frame.specs.declared.direction.Direction.{Direction}
use Rattle.frame.specs.Direction.{dir, is_direction, sixteen, numbered_of, cross}

-- each entry's cross product with the next is above 0
abbrev ascends : List Direction → Bool
ascends [] = true
ascends (d ∷ []) = true
ascends (d ∷ e ∷ ds) = lt_z (pos 0) (cross d e) && ascends (e ∷ ds)

ascends-at : (ds : List Direction) (z : Direction) → ascends ds ≡ true → (n : ℕ) → suc n < length ds → lt_z (pos 0) (cross (get_or ds n z) (get_or ds (suc n) z)) ≡ true
ascends-at [] z t n h = absurd (omega arith)
ascends-at (d ∷ []) z t n h = absurd (omega arith)
ascends-at (d ∷ e ∷ ds) z t zero h = both_left (lt_z (pos 0) (cross d e)) (ascends (e ∷ ds)) t
ascends-at (d ∷ e ∷ ds) z t (suc n) h = ascends-at (e ∷ ds) z (both_right (lt_z (pos 0) (cross d e)) (ascends (e ∷ ds)) t) n (le_of_suc-le-suc h)

pub neighbours_ascend : (n : ℕ) → n < 15 → pos 0 <ℤ cross (numbered_of n) (numbered_of (suc n))
neighbours_ascend n h = record { lt = subst T (sym (ascends-at sixteen (dir (pos 0) (pos 0)) refl n (omega arith))) tt }

-- each entry is a direction
abbrev accepted : List Direction → Bool
accepted [] = true
accepted (d ∷ ds) = is_direction d && accepted ds

accepted-at : (ds : List Direction) (z : Direction) → accepted ds ≡ true → (n : ℕ) → n < length ds → is_direction (get_or ds n z) ≡ true
accepted-at [] z t n h = absurd (omega arith)
accepted-at (d ∷ ds) z t zero h = both_left (is_direction d) (accepted ds) t
accepted-at (d ∷ ds) z t (suc n) h = accepted-at ds z (both_right (is_direction d) (accepted ds) t) n (le_of_suc-le-suc h)

pub numbered-accepted : (n : ℕ) → n < 16 → is_direction (numbered_of n) ≡ true
numbered-accepted n h = accepted-at sixteen (dir (pos 0) (pos 0)) refl n h

pub unnumbered_refused : (n : ℕ) → 15 < n → is_direction (numbered_of n) ≡ false
unnumbered_refused n h = ap is_direction (get_or-eq_default sixteen (dir (pos 0) (pos 0)) h)
