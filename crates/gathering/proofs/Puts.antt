-- Values put at places: what is there afterwards.
--   put-length, put_next     how long it is, and one value more
--   put-off, put-at          what stands at other places, and at these
--   nth_in                   a place of a list is among its places
-- Assumes nothing.
use mathlib.Core.Path.{◌≡◌, refl, ap, ◌∙◌}
use mathlib.Core.List.{List, [], ◌∷◌, ◌++◌, Memᴰ}
use Prim.Native.Nat.{ℕ, zero, suc, ◌<◌}
use native.Mathlib.Omega.{arith}
use native.Mathlib.Nat.{le_of_suc-le-suc}
use lib.ListN.{length, get_or, set, length-set}
use lib.Seq.{get_or-set_same, get_or-set_other}
use Rattle.frame.proofs.Partition.{Distinct}
use Rattle.gathering.specs.Scattering.{put}

pub nth_in : (cs : List ℕ) (j : ℕ) → j < length cs → Memᴰ (get_or cs j 0) cs
nth_in [] j h = absurd (omega arith)
nth_in (c ∷ cs) zero h = Memᴰ.head refl
nth_in (c ∷ cs) (suc j) h = Memᴰ.tail (nth_in cs j (le_of_suc-le-suc h))

module _ (op : ℕ → ℕ → ℕ → ℕ) where
  pub put-length : (cs vs f : List ℕ) → length (put op cs vs f) ≡ length f
  put-length [] vs f = refl
  put-length (c ∷ cs) [] f = refl
  put-length (c ∷ cs) (v ∷ vs) f = put-length cs vs (set f c (op c (get_or f c 0) v)) ∙ length-set f c (op c (get_or f c 0) v)

  pub put-off : (cs vs f : List ℕ) (i : ℕ) → (Memᴰ i cs → ⊥) → get_or (put op cs vs f) i 0 ≡ get_or f i 0
  put-off [] vs f i h = refl
  put-off (c ∷ cs) [] f i h = refl
  put-off (c ∷ cs) (v ∷ vs) f i h =
      put-off cs vs (set f c (op c (get_or f c 0) v)) i (λ m. h (Memᴰ.tail m)) ∙ get_or-set_other f c i (op c (get_or f c 0) v) 0 (λ e. h (Memᴰ.head e))

  pub put_next : (cs vs f : List ℕ) (c : ℕ) → length cs < length vs
      → put op (cs ++ (c ∷ [])) vs f ≡ set (put op cs vs f) c (op c (get_or (put op cs vs f) c 0) (get_or vs (length cs) 0))
  put_next [] [] f c h = absurd (omega arith)
  put_next [] (v ∷ vs) f c h = refl
  put_next (b ∷ cs) [] f c h = absurd (omega arith)
  put_next (b ∷ cs) (v ∷ vs) f c h = put_next cs vs (set f b (op b (get_or f b 0) v)) c (le_of_suc-le-suc h)

  pub put-at : (cs vs f : List ℕ) → Distinct cs → (j : ℕ) → j < length cs → j < length vs → get_or cs j 0 < length f
      → get_or (put op cs vs f) (get_or cs j 0) 0 ≡ op (get_or cs j 0) (get_or f (get_or cs j 0) 0) (get_or vs j 0)
  put-at [] vs f d j h l k = absurd (omega arith)
  put-at (c ∷ cs) [] f d j h l k = absurd (omega arith)
  put-at (c ∷ cs) (v ∷ vs) f d zero h l k =
      put-off cs vs (set f c (op c (get_or f c 0) v)) c d.0 ∙ get_or-set_same f c (op c (get_or f c 0) v) 0 k
  put-at (c ∷ cs) (v ∷ vs) f d (suc j) h l k =
      let there = nth_in cs j (le_of_suc-le-suc h) in
      put-at cs vs (set f c (op c (get_or f c 0) v)) d.1 j (le_of_suc-le-suc h) (le_of_suc-le-suc l) (rw length-set k)
      ∙ ap (λ (old : ℕ). op (get_or cs j 0) old (get_or vs j 0)) (get_or-set_other f c (get_or cs j 0) (op c (get_or f c 0) v) 0 (λ e. d.0 (rw e at there)))
