-- Lists made one place after the other.
--   each f n       f 0, f 1, .., f (n − 1), each a list, one after the other
--   keep t a       a alone where the test t holds, else nothing
--   table g n      g 0, g 1, .., g (n − 1)
--   those p g n    g i for those i below n that pass the test p, in their order
-- Laws: lists/proofs/Tables.
use Rattle.std.specs.Prelude.{Bool, true, false, List, [], ◌∷◌, ◌++◌, ℕ, zero, suc}

module _ {A : Type 0} where
  unfoldable pub each : (ℕ → List A) → ℕ → List A
  each f zero = []
  each f (suc n) = each f n ++ f n

  abbrev pub keep : Bool → A → List A
  keep true a = a ∷ []
  keep false a = []

  abbrev pub table : (ℕ → A) → ℕ → List A
  table g n = each (λ (i : ℕ). g i ∷ []) n

  abbrev pub those : (ℕ → Bool) → (ℕ → A) → ℕ → List A
  those p g n = each (λ (i : ℕ). keep (p i) (g i)) n
