-- What holds of each member of a list, and where a member stands.
--   all_map                      what follows from it holds of each too
--   all_append, all-parts        of two lists one after the other, and of each of them
--   all_take, all_drop           of a part of the list
--   all_in, all_self             by what stands in the list
--   all-at, all_of               by the places of the list
--   mem_at                       a member stands at some place
-- Assumes nothing.
use mathlib.Core.Path.{◌≡◌, refl, sym, subst}
use mathlib.Core.List.Memᴰ
use mathlib.Core.List.{List, [], ◌∷◌, ◌++◌, Memᴰ}
use mathlib.Core.Logic.{◌⊎◌, inl, inr, ⊎_elim}
use Prim.Native.Nat.{ℕ, zero, suc, ◌<◌}
use native.Mathlib.Omega.{arith}
use lib.ListN.{length, get_or, take, drop}
use Rattle.lists.specs.Members.{All}

pub all_map : {A : Type 0} (P Q : A → Type 0) (l : List A) → ((x : A) → P x → Q x) → All P l → All Q l
unfolding All
all_map P Q [] h a = tt
all_map P Q (x ∷ xs) h a = (h x a.0, all_map P Q xs h a.1)

module _ {A : Type 0} (P : A → Type 0) where
  pub all_append : (xs ys : List A) → All P xs → All P ys → All P (xs ++ ys)
  unfolding All
  all_append [] ys p q = q
  all_append (x ∷ xs) ys p q = (p.0, all_append xs ys p.1 q)

  pub all-parts : (xs ys : List A) → All P (xs ++ ys) → All P xs × All P ys
  unfolding All
  all-parts [] ys p = (tt, p)
  all-parts (x ∷ xs) ys p = let r = all-parts xs ys p.1 in ((p.0, r.0), r.1)

  pub all_take : (n : ℕ) (l : List A) → All P l → All P (take n l)
  unfolding All
  all_take zero l a = tt
  all_take (suc n) [] a = tt
  all_take (suc n) (x ∷ xs) a = (a.0, all_take n xs a.1)

  pub all_drop : (n : ℕ) (l : List A) → All P l → All P (drop n l)
  unfolding All
  all_drop zero l a = a
  all_drop (suc n) [] a = tt
  all_drop (suc n) (x ∷ xs) a = all_drop n xs a.1

  pub all_in : (l : List A) → All P l → (x : A) → Memᴰ x l → P x
  unfolding All
  all_in [] a x m = absurd (Memᴰ.not-nil m)
  all_in (y ∷ ys) a x m =
      ⊎_elim
      (λ e. subst P (sym e) a.0)
      (λ n. all_in ys a.1 x n)
      (Memᴰ.cases_cons m)

  pub all-at : (d : A) (l : List A) (i : ℕ) → All P l → i < length l → P (get_or l i d)
  unfolding All
  all-at d [] i a h = absurd (omega arith)
  all-at d (x ∷ xs) zero a h = a.0
  all-at d (x ∷ xs) (suc i) a h = all-at d xs i a.1 (omega arith)

  pub all_of : (d : A) (l : List A) → ((i : ℕ) → i < length l → P (get_or l i d)) → All P l
  unfolding All
  all_of d [] h = tt
  all_of d (x ∷ xs) h = (h 0 (omega arith), all_of d xs (λ i l. h (suc i) (omega arith)))

pub all_self : {A : Type 0} (l : List A) → All (λ (x : A). Memᴰ x l) l
unfolding All
all_self [] = tt
all_self {A} (x ∷ xs) = (Memᴰ.head refl, all_map (λ (y : A). Memᴰ y xs) (λ (y : A). Memᴰ y (x ∷ xs)) xs (λ y m. Memᴰ.tail m) (all_self xs))

pub mem_at : {A : Type 0} (d a : A) (l : List A) → Memᴰ a l → (j : ℕ) × (j < length l) × (get_or l j d ≡ a)
mem_at d a [] m = absurd (Memᴰ.not-nil m)
mem_at d a (b ∷ l) m = go (mem_at d a l) (Memᴰ.cases_cons m)
  where
    go : (Memᴰ a l → (j : ℕ) × (j < length l) × (get_or l j d ≡ a)) → (a ≡ b) ⊎ Memᴰ a l → (j : ℕ) × (j < length (b ∷ l)) × (get_or (b ∷ l) j d ≡ a)
    go ih (inl e) = (0, omega arith, sym e)
    go ih (inr n) = let r = ih n in (suc r.0, omega (arith, r.1), r.2)
