-- No two pixels of a frame share a byte.
--   flat                    a place in a row, and its row
--   place-once              one byte, one pixel of a frame; same-cell: of a sweep
--   Distinct, distinct-next no place twice
--   distinct, line-once     a line has each of its bytes once
-- Assumes nothing.
use mathlib.Core.Path.{◌≡◌, refl, sym, ap, ◌∙◌, subst}
use mathlib.Core.Bool.{Bool, true, false}
use mathlib.Core.Logic.{◌⊎◌, inl, inr, ⊎_elim}
use mathlib.Core.List.Memᴰ
use mathlib.Core.List.{List, [], ◌∷◌, ◌++◌, map, Memᴰ, append-nil}
use Prim.Native.Nat.{ℕ, zero, suc, ◌+◌, ◌-◌, ◌*◌, ◌/◌, ◌%◌, ◌≤◌, ◌<◌}
use native.Mathlib.Omega.{arith}
use native.Mathlib.Nat.{add-mul-mod_self_right, add-mul-div_right, mod-eq_of_lt, div-eq_of_lt}
use lib.IntN.{ℤ, sub_ℕ}
use Rattle.lists.specs.Tables as tables
use Rattle.frame.specs.declared.direction.Direction.{Direction}
use Rattle.frame.specs.declared.shape.Shape.{Shape}
use Rattle.frame.specs.declared.sweep.Sweep.{Sweep}
use Rattle.frame.specs.Shape.{is_frame}
use Rattle.frame.specs.Lines.{at, pixels, place}
use Rattle.frame.specs.Sweep.{sweep_of, low, shift, hit, cell, cells, Accepted, Apart}
use Rattle.frame.proofs.Numbers.{Index, indexed}
use Rattle.frame.proofs.Shapes.{framed, accepted-some, sweep_apart}
use Rattle.frame.proofs.Walks.{hits, cells_mem, places_are, pixels-none}

-- a place below w in a row of w, and its row
pub flat : (w i j i' j' : ℕ) → i < w → i' < w → i + j * w ≡ i' + j' * w → (i ≡ i') × (j ≡ j')
flat w i j i' j' h k e = (
  sym (mod-eq_of_lt h) ∙ sym (add-mul-mod_self_right i j w) ∙ ap (λ (n : ℕ). n % w) e ∙ add-mul-mod_self_right i' j' w ∙ mod-eq_of_lt k,
  sym (row i j h) ∙ ap (λ (n : ℕ). n / w) e ∙ row i' j' k,
)
  where
    row : (i j : ℕ) → i < w → (i + j * w) / w ≡ j
    row i j h = add-mul-div_right i j {z = w} (omega arith) ∙ ap (λ (n : ℕ). n + j) (div-eq_of_lt h) ∙ omega arith

pub place-once : (sh : Shape) → is_frame sh ≡ true → (x y x' y' : ℕ) → x < sh.width → x' < sh.width → place sh (at x y) ≡ place sh (at x' y') → (x ≡ x') × (y ≡ y')
place-once sh ok x y x' y' h k e = let f = framed sh ok in flat sh.stride x y x' y' (omega (arith, f.past)) (omega (arith, f.past)) (omega (arith, e))

pub same-cell : (s : Sweep) → Apart s → (u v i j : ℕ) → i < s.majors → j < s.majors → hit s u i ≡ true → hit s v j ≡ true
    → cell s u i ≡ cell s v j → (i ≡ j) × (u ≡ v)
unfolding cell
same-cell s far u v i j h k e f q = go far
  where
    both : i ≡ j → u - shift s i ≡ v - shift s j → (i ≡ j) × (u ≡ v)
    both p z =
        let a = hits s u i e in
        let b = hits s v j f in
        (p, omega (arith, a, b, ap (shift s) p))

    go : Apart s → (i ≡ j) × (u ≡ v)
    go (inl w) =
        let t = flat s.sidestep i (u - shift s i) j (v - shift s j) (omega (arith, w.1)) (omega (arith, w.1))
        (omega (arith, q, ap (λ (m : ℕ). i * m) w.0, ap (λ (m : ℕ). j * m) w.0)) in
        both t.0 t.1
    go (inr w) =
        let a = hits s u i e in
        let b = hits s v j f in
        let t = flat s.pace (u - shift s i) i (v - shift s j) j (omega (arith, w.1, a)) (omega (arith, w.1, b))
        (omega (arith, q, ap (λ (m : ℕ). (u - shift s i) * m) w.0, ap (λ (m : ℕ). (v - shift s j) * m) w.0)) in
        both t.1 t.0

-- no place twice
abbrev pub Distinct : List ℕ → Type 0
Distinct [] = Unit
Distinct (c ∷ cs) = (Memᴰ c cs → ⊥) × Distinct cs

distinct-next : (cs : List ℕ) (c : ℕ) → Distinct cs → (Memᴰ c cs → ⊥) → Distinct (cs ++ (c ∷ []))
distinct-next [] c d h = (Memᴰ.not-nil, tt)
distinct-next (b ∷ cs) c d h = (
  (λ m. ⊎_elim d.0 (λ n. h (Memᴰ.head (sym (Memᴰ.eq_of_singleton n)))) (Memᴰ.append_cases cs m)),
  distinct-next cs c d.1 (λ m. h (Memᴰ.tail m)),
)

module _ (s : Sweep) (far : Apart s) where
  pub distinct : (u n : ℕ) → n ≤ s.majors → Distinct (cells s u n)
  unfolding cells tables.each
  distinct u zero h = tt
  distinct u (suc n) h = go (distinct u n (omega arith)) (hit s u n) refl
    where
      go : Distinct (cells s u n) → (t : Bool) → hit s u n ≡ t → Distinct (cells s u (suc n))
      go d true e =
          rw e (distinct-next (cells s u n) (cell s u n) d (λ m.
          let a = cells_mem s u n (cell s u n) m in
          let q = (same-cell s far u u n a.i (omega arith) (omega (arith, a.below)) e a.passed a.is).0 in
          omega (arith, q, a.below)))
      go d false e = rw (e, append-nil) d

-- a line of an accepted frame has each of its bytes once
pub line-once : (sh : Shape) (d : Direction) → Accepted sh d → (k : ℤ) → Distinct (map (place sh) (pixels sh d k))
line-once sh d ok k = go (indexed (low (sweep_of sh d)) k)
  where
    go : Index (low (sweep_of sh d)) k ⊎ ((u : ℕ) → sub_ℕ u (low (sweep_of sh d)) ≡ k → ⊥) → Distinct (map (place sh) (pixels sh d k))
    go (inl x) =
        subst Distinct (sym (places_are sh d (accepted-some ok) x.u) ∙ ap (λ (z : ℤ). map (place sh) (pixels sh d z)) x.is)
        (distinct (sweep_of sh d) (sweep_apart ok) x.u (sweep_of sh d).majors (omega arith))
    go (inr none) = rw (pixels-none sh d (accepted-some ok) k none) tt
