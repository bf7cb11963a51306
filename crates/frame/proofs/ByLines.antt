-- A frame treated line by line: what it says of each pixel.
--   frames_same     two frames that agree at each pixel and between the rows are the same
--   one_outcome     one source and destination allow one outcome alone
--   map_at          the j-th of what is made of each pixel of a list
--   at_place        a line's pixel has the value at its place on the line
--   own_value       each pixel of the frame has the value at its place on its own line
-- Assumes nothing.
use mathlib.Core.Path.{◌≡◌, refl, sym, ap, ◌∙◌, subst}
use mathlib.Core.Bool.{true}
use mathlib.Core.Logic.{◌⊎◌, inl, inr}
use mathlib.Core.List.Memᴰ
use mathlib.Core.List.{List, [], ◌∷◌, map, Memᴰ}
use Prim.Native.Nat.{ℕ, zero, suc, ◌+◌, ◌*◌, ◌/◌, ◌%◌, ◌≤◌, ◌<◌}
use native.Mathlib.Omega.{arith}
use native.Mathlib.Nat.{div-add-mod', mod-lt, le_of_suc-le-suc}
use lib.ListN.{length, get_or}
use lib.Seq.{ext_get_or}
use lib.IntN.{ℤ}
use Rattle.lists.proofs.Cases.{less_or_not}
use Rattle.frame.specs.declared.direction.Direction.{Direction}
use Rattle.frame.specs.declared.shape.Shape.{Shape}
use Rattle.frame.specs.Shape.{is_frame}
use Rattle.frame.specs.Lines.{line_of, Pixel, at, pixels, place, line_read}
use Rattle.frame.specs.Painted.{Gap}
use Rattle.frame.specs.ByLines.{ByLines}
use Rattle.frame.proofs.Shapes.{Framed, framed}
use Rattle.frame.proofs.Partition.{flat}
use Rattle.frame.proofs.Pixels.{on_its_line}

-- ---- one outcome

-- two frames that agree on a line agree at each of its pixels
agree : (h k : Pixel → ℕ) (cs : List Pixel) (c : Pixel) → map h cs ≡ map k cs → Memᴰ c cs → h c ≡ k c
agree h k [] c e m = absurd (Memᴰ.not-nil m)
agree h k (b ∷ cs) c e m = go (agree h k cs c) (Memᴰ.cases_cons m)
  where
    go : (map h cs ≡ map k cs → Memᴰ c cs → h c ≡ k c) → (c ≡ b) ⊎ Memᴰ c cs → h c ≡ k c
    go ih (inl q) = let z : h b ≡ k b = cc e in ap h q ∙ z ∙ sym (ap k q)
    go ih (inr n) = let z : map h cs ≡ map k cs = cc e in ih z n

-- a byte's row and its place there
row_of : (w i x y : ℕ) → x < w → i ≡ y * w + x → (i % w ≡ x) × (i / w ≡ y)
row_of w i x y h e = flat w (i % w) (i / w) x y (mod-lt i (omega arith)) h (omega (arith, div-add-mod' i w))

pub frames_same : (sh : Shape) (a b : List ℕ) → is_frame sh ≡ true → length a ≡ length b
    → ((x y : ℕ) → x < sh.width → y < sh.height → get_or a (place sh (at x y)) 0 ≡ get_or b (place sh (at x y)) 0)
    → ((i : ℕ) → Gap sh i → get_or a i 0 ≡ get_or b i 0) → a ≡ b
frames_same sh a b ok long pixel gap =
    ext_get_or 0 a b long (λ i h. byte i (less_or_not (i % sh.stride) sh.width) (less_or_not (i / sh.stride) sh.height))
  where
    shaped : Framed sh
    shaped = framed sh ok

    byte : (i : ℕ) → (i % sh.stride < sh.width) ⊎ (sh.width ≤ i % sh.stride) → (i / sh.stride < sh.height) ⊎ (sh.height ≤ i / sh.stride)
        → get_or a i 0 ≡ get_or b i 0
    byte i (inl x) (inl y) = subst (λ (j : ℕ). get_or a j 0 ≡ get_or b j 0) (div-add-mod' i sh.stride) (pixel (i % sh.stride) (i / sh.stride) x y)
    byte i (inl x) (inr y) = gap i (λ x' y' h k e. let z = (row_of sh.stride i x' y' (omega (arith, shaped)) e).1 in omega arith)
    byte i (inr x) y = gap i (λ x' y' h k e. let z = (row_of sh.stride i x' y' (omega (arith, shaped)) e).0 in omega arith)

pub one_outcome : (φ : List ℕ → List ℕ) (f : List ℕ) (sh : Shape) (d : Direction) (g a b : List ℕ) → is_frame sh ≡ true
    → ByLines φ f sh d g a → ByLines φ f sh d g b → a ≡ b
one_outcome φ f sh d g a b ok p q =
    frames_same sh a b ok (p.same ∙ sym q.same) pixel (λ i h. p.gaps i h ∙ sym (q.gaps i h))
  where
    pixel : (x y : ℕ) → x < sh.width → y < sh.height → get_or a (place sh (at x y)) 0 ≡ get_or b (place sh (at x y)) 0
    pixel x y h k =
        agree (λ (c : Pixel). get_or a (place sh c) 0) (λ (c : Pixel). get_or b (place sh c) 0) (pixels sh d (line_of d x y)) (at x y)
        (p.lines (line_of d x y) ∙ sym (q.lines (line_of d x y))) (on_its_line sh d x y h k)

-- ---- each pixel has the value at its place on its own line

pub map_at : (h : Pixel → ℕ) (cs : List Pixel) (j : ℕ) → j < length cs → get_or (map h cs) j 0 ≡ h (get_or cs j (at 0 0))
map_at h [] j l = absurd (omega arith)
map_at h (c ∷ cs) zero l = refl
map_at h (c ∷ cs) (suc j) l = map_at h cs j (le_of_suc-le-suc l)

pub at_place : (φ : List ℕ → List ℕ) (f : List ℕ) (sh : Shape) (d : Direction) (g g' : List ℕ) → ByLines φ f sh d g g'
    → (k : ℤ) (j x y : ℕ) → j < length (pixels sh d k) → get_or (pixels sh d k) j (at 0 0) ≡ at x y
    → get_or g' (place sh (at x y)) 0 ≡ get_or (φ (line_read f sh d k)) j 0
at_place φ f sh d g g' p k j x y l e =
    sym (ap (λ (c : Pixel). get_or g' (place sh c) 0) e)
    ∙ sym (map_at (λ (c : Pixel). get_or g' (place sh c) 0) (pixels sh d k) j l)
    ∙ ap (λ (vs : List ℕ). get_or vs j 0) (p.lines k)

-- where c stands in a list of pixels
record Standing (cs : List Pixel) (c : Pixel) : Type 0 where
  j : ℕ
  below : j < length cs
  is : get_or cs j (at 0 0) ≡ c

standing : (cs : List Pixel) (c : Pixel) → Memᴰ c cs → Standing cs c
standing [] c m = absurd (Memᴰ.not-nil m)
standing (b ∷ cs) c m = go (standing cs c) (Memᴰ.cases_cons m)
  where
    go : (Memᴰ c cs → Standing cs c) → (c ≡ b) ⊎ Memᴰ c cs → Standing (b ∷ cs) c
    go ih (inl q) = record { j = 0; below = omega arith; is = sym q }
    go ih (inr n) = let s = ih n in record { j = suc s.j; below = omega (arith, s.below); is = s.is }

pub record Own (φ : List ℕ → List ℕ) (f : List ℕ) (sh : Shape) (d : Direction) (g' : List ℕ) (x y : ℕ) : Type 0 where
  pub j : ℕ
  pub below : j < length (pixels sh d (line_of d x y))
  pub stands : get_or (pixels sh d (line_of d x y)) j (at 0 0) ≡ at x y
  pub has : get_or g' (place sh (at x y)) 0 ≡ get_or (φ (line_read f sh d (line_of d x y))) j 0

pub own_value : (φ : List ℕ → List ℕ) (f : List ℕ) (sh : Shape) (d : Direction) (g g' : List ℕ) → ByLines φ f sh d g g'
    → (x y : ℕ) → x < sh.width → y < sh.height → Own φ f sh d g' x y
own_value φ f sh d g g' p x y h l =
    let s = standing (pixels sh d (line_of d x y)) (at x y) (on_its_line sh d x y h l) in
    record { j = s.j; below = s.below; stands = s.is; has = at_place φ f sh d g g' p (line_of d x y) s.j x y s.below s.is }
