-- The computing definitions of windows, of the highest and of its direction say what specs/Equation says in facts.
--   darkest-is, dilated-is, opened-is     a window's darkest pixel, a value of a dilation, an opened pixel; opens-alone: one value alone meets equation (3)
--   opens-below                           an opened pixel is no brighter than the pixel it came from
--   index_is                              where a pixel stands on its own line; entry_in, entry_index: pixel number j of a line is found at j
--   highest_of, leads_of                  the greatest of sixteen values, and the lowest number that reaches it
-- Assumes nothing.
use mathlib.Core.Path.{◌≡◌, refl, sym, ap, ap₂, subst, ◌∙◌}
use mathlib.Core.Bool.{Bool, true, false, cond, true≢false, ◌&&◌}
use mathlib.Core.Logic.{◌⊎◌, inl, inr}
use mathlib.Core.List.Memᴰ
use mathlib.Core.List.{List, [], ◌∷◌, Memᴰ}
use Prim.Native.Nat.{ℕ, zero, suc, ◌+◌, ◌-◌, ◌≤◌, ◌<◌, min}
use native.Mathlib.Nat.{le_antisymm}
use native.Mathlib.Omega.{arith}
use borrow.Author.Tests.{leb-true, ltb-true, le-leb, lt-ltb, eqb-true, eq-eqb}
use lib.Dec.{leb, ltb, eqb}
use lib.IntN.{ℤ}
use lib.ListN.{length, get_or, drop, length-take, length-drop}
use lib.Seq.{get_or-take, get_or-drop}
use Rattle.lists.specs.Tables.{those, table}
use Rattle.lists.specs.Extremes.{least, greatest}
use Rattle.lists.proofs.Cases.{less_or_not, both, both_left, both_right}
use Rattle.lists.proofs.Tables.{length-table, get_d_table}
use Rattle.lists.proofs.Members.{mem_at}
use Rattle.lists.proofs.Extremes.{le_those, least_mem, least_in, least_mem_of}
use Rattle.lists.proofs.Picks.{those_mem, those_in, those-reached}
use Rattle.line.specs.Windows.{window, darkest, holds, on_line, dilated_at, opened_at}
use Rattle.line.proofs.Windows.{darkest_le, le_darkest, le_dilated-at, le_opened-at}
use Rattle.frame.specs.declared.direction.Direction.{Direction}
use Rattle.frame.specs.declared.shape.Shape.{Shape}
use Rattle.frame.specs.Direction.{shallow}
use Rattle.frame.specs.Lines.{Pixel, at, line_of, pixels, same_pixel, index_in}
use Rattle.frame.specs.Sweep.{Accepted}
use Rattle.frame.proofs.Walks.{spot}
use Rattle.frame.proofs.Pixels.{on_its_line, line_interval}
use Rattle.opening.specs.Pixels.{first_greatest}
use Rattle.theorems.specs.Equation.{Holding, Darkest, Dilates, Opens, OnItsLine, Highest, Leads}

-- ---- windows

length-window : (f : List ℕ) (i L : ℕ) → i + L ≤ length f → length (window f i L) ≡ L
length-window f i L h = simp (length-take, length-drop) (omega arith)

pub darkest-is : (f : List ℕ) (i L : ℕ) → 1 ≤ L → i + L ≤ length f → Darkest f i L (darkest f i L)
darkest-is f i L some fit = record { below = λ j lo hi. darkest_le f i L j fit lo hi; reached = go (window f i L) refl }
  where
    go : (w : List ℕ) → window f i L ≡ w → (j : ℕ) × (i ≤ j) × (j < i + L) × (get_or f j 0 ≡ darkest f i L)
    go [] e = absurd (omega (arith, length-window f i L fit, ap length e))
    go (v ∷ vs) e =
        let r = mem_at 0 (darkest f i L) (window f i L) (rw e (least_in v vs)) in
        let l : r.0 < L = omega (arith, r.1, length-window f i L fit) in
        (i + r.0, omega arith, omega arith, sym (get_or-take L (drop i f) r.0 0 l ∙ get_or-drop i f r.0 0) ∙ r.2)

held : (L i x : ℕ) → holds L i x ≡ true → (i ≤ x) × (x < i + L)
held L i x e = (leb-true i x (both_left (leb i x) (ltb x (i + L)) e), ltb-true x (i + L) (both_right (leb i x) (ltb x (i + L)) e))

holding : (L i x : ℕ) → i ≤ x → x < i + L → holds L i x ≡ true
holding L i x lo hi = both (leb i x) (ltb x (i + L)) (le-leb i x lo) (lt-ltb x (i + L) hi)

pub dilated-is : (e : List ℕ) (L x : ℕ) → 1 ≤ length e → 1 ≤ L → x + 1 < length e + L → Dilates e L x (dilated_at e L x)
dilated-is e L x m some fit =
    record { above = λ i h lo hi. le_dilated-at e L x i h lo hi; reached = go (those-reached (λ (i : ℕ). holds L i x) (λ (i : ℕ). get_or e i 0) (length e)) }
  where
    go : ((i : ℕ) × (i < length e) × (holds L i x ≡ true) × (get_or e i 0 ≡ dilated_at e L x))
        ⊎ (((i : ℕ) → i < length e → holds L i x ≡ true → ⊥) × (dilated_at e L x ≡ 0))
        → (i : ℕ) × (i < length e) × (i ≤ x) × (x < i + L) × (get_or e i 0 ≡ dilated_at e L x)
    go (inl r) = (r.0, r.1, (held L r.0 x r.2).0, (held L r.0 x r.2).1, r.3)
    go (inr none) = absurd (none.0 (min x (length e - 1)) (omega arith) (holding L (min x (length e - 1)) x (omega arith) (omega arith)))

pub opened-is : (f : List ℕ) (L x : ℕ) → 1 ≤ L → Opens f L x (opened_at f L x)
opened-is f L x some =
    record {
      above = λ i w h d. above i w h d;
      reached = go (those-reached (λ (i : ℕ). on_line (length f) L i && holds L i x) (λ (i : ℕ). darkest f i L) (length f));
    }
  where
    above : (i w : ℕ) → Holding (length f) L x i → Darkest f i L w → w ≤ opened_at f L x
    above i w h d =
        let low = le_darkest f i L w some h.fits d.below in
        let high = le_opened-at f L x i (omega (arith, h.fits)) h.fits h.from h.to in
        omega arith

    go : ((i : ℕ) × (i < length f) × ((on_line (length f) L i && holds L i x) ≡ true) × (darkest f i L ≡ opened_at f L x))
        ⊎ (((i : ℕ) → i < length f → (on_line (length f) L i && holds L i x) ≡ true → ⊥) × (opened_at f L x ≡ 0))
        → ((i : ℕ) × Holding (length f) L x i × Darkest f i L (opened_at f L x)) ⊎ (((i : ℕ) → Holding (length f) L x i → ⊥) × (opened_at f L x ≡ 0))
    go (inl (i, l, t, e)) =
        let fit = leb-true (i + L) (length f) (both_left (on_line (length f) L i) (holds L i x) t) in
        let h = held L i x (both_right (on_line (length f) L i) (holds L i x) t) in
        inl (i, record { fits = fit; from = h.0; to = h.1 }, subst (Darkest f i L) e (darkest-is f i L some fit))
    go (inr (none, z)) =
        inr (
          (λ i h. none i (omega (arith, h.fits)) (both (on_line (length f) L i) (holds L i x) (le-leb (i + L) (length f) h.fits) (holding L i x h.from h.to))),
          z,
        )

-- the facts settle the value
pub opens-alone : (f : List ℕ) (L x v w : ℕ) → Opens f L x v → Opens f L x w → v ≡ w
opens-alone f L x v w p q = le_antisymm (below v w p.reached q) (below w v q.reached p)
  where
    below : (v w : ℕ) → ((i : ℕ) × Holding (length f) L x i × Darkest f i L v) ⊎ (((i : ℕ) → Holding (length f) L x i → ⊥) × (v ≡ 0)) → Opens f L x w → v ≤ w
    below v w (inl (i, h, d)) q = q.above i v h d
    below v w (inr (none, z)) q = omega arith

-- an opening is never brighter than the pixel
pub opens-below : (f : List ℕ) (L x v : ℕ) → Opens f L x v → v ≤ get_or f x 0
opens-below f L x v p = below p.reached
  where
    below : ((i : ℕ) × Holding (length f) L x i × Darkest f i L v) ⊎ (((i : ℕ) → Holding (length f) L x i → ⊥) × (v ≡ 0)) → v ≤ get_or f x 0
    below (inl (i, h, d)) = d.below x h.from h.to
    below (inr (none, z)) = omega arith

-- ---- a pixel's number on its line

same-is : (c b : Pixel) → same_pixel c b ≡ true → c ≡ b
same-is c b e =
    let x : c.x ≡ b.x = eqb-true c.x b.x (both_left (eqb c.x b.x) (eqb c.y b.y) e) in
    let y : c.y ≡ b.y = eqb-true c.y b.y (both_right (eqb c.x b.x) (eqb c.y b.y) e) in
    ap₂ at x y

same_self : (c : Pixel) → same_pixel c c ≡ true
same_self c = both (eqb c.x c.x) (eqb c.y c.y) (eq-eqb c.x c.x refl) (eq-eqb c.y c.y refl)

index_in_lem : (c : Pixel) (cs : List Pixel) → Memᴰ c cs → (index_in c cs < length cs) × (get_or cs (index_in c cs) (at 0 0) ≡ c)
unfolding index_in
index_in_lem c [] m = absurd (Memᴰ.not-nil m)
index_in_lem c (b ∷ cs) m = go (same_pixel c b) refl (index_in_lem c cs) (Memᴰ.cases_cons m)
  where
    go : (t : Bool) → same_pixel c b ≡ t → (Memᴰ c cs → (index_in c cs < length cs) × (get_or cs (index_in c cs) (at 0 0) ≡ c)) → (c ≡ b) ⊎ Memᴰ c cs
        → (cond t 0 (suc (index_in c cs)) < length (b ∷ cs)) × (get_or (b ∷ cs) (cond t 0 (suc (index_in c cs))) (at 0 0) ≡ c)
    go true e ih w = (omega arith, sym (same-is c b e))
    go false e ih (inl q) = absurd (true≢false (sym (same_self c) ∙ ap (same_pixel c) q ∙ e))
    go false e ih (inr n) = let r = ih n in (omega (arith, r.0), r.1)

pub index_is : (sh : Shape) (d : Direction) (x y : ℕ) → x < sh.width → y < sh.height → OnItsLine sh d x y (index_in (at x y) (pixels sh d (line_of d x y)))
index_is sh d x y h l =
    let r = index_in_lem (at x y) (pixels sh d (line_of d x y)) (on_its_line sh d x y h l) in
    record { below = r.0; is = r.1 }

-- a line passes each of its pixels once, so pixel number j of a line is found at j
same_major : (d : Direction) (i j k l : ℕ) → spot d i j ≡ spot d k l → i ≡ k
same_major d i j k l = go (shallow d)
  where
    go : (t : Bool) → cond t (at i j) (at j i) ≡ cond t (at k l) (at l k) → i ≡ k
    go true e = ap (λ (c : Pixel). c.x) e
    go false e = ap (λ (c : Pixel). c.y) e

pub entry_in : (cs : List Pixel) (j : ℕ) → j < length cs → Memᴰ (get_or cs j (at 0 0)) cs
entry_in [] j h = absurd (omega arith)
entry_in (c ∷ cs) zero h = Memᴰ.head refl
entry_in (c ∷ cs) (suc j) h = Memᴰ.tail (entry_in cs j (omega arith))

pub entry_index : (sh : Shape) (d : Direction) → Accepted sh d → (k : ℤ) (j : ℕ) → j < length (pixels sh d k)
    → index_in (get_or (pixels sh d k) j (at 0 0)) (pixels sh d k) ≡ j
entry_index sh d ok k j h =
    let cs = pixels sh d k in
    let w = line_interval sh d ok k in
    let S : ℕ → Pixel = λ (i : ℕ). spot d (w.from + i) (w.minor i) in
    let n : length cs ≡ w.count = ap length w.is ∙ length-table S w.count in
    let there : (i : ℕ) → i < length cs → get_or cs i (at 0 0) ≡ S i =
    λ i l. ap (λ (l : List Pixel). get_or l i (at 0 0)) w.is ∙ get_d_table (at 0 0) S w.count i (omega (arith, n)) in
    let r = index_in_lem (get_or cs j (at 0 0)) cs (entry_in cs j h) in
    let i : ℕ = index_in (get_or cs j (at 0 0)) cs in
    let major = same_major d (w.from + i) (w.minor i) (w.from + j) (w.minor j) (sym (there i r.0) ∙ r.1 ∙ there j h) in
    omega (arith, major)

-- ---- sixteen directions

pub highest_of : (F : ℕ → ℕ) → Highest F (greatest (table F 16))
highest_of F = record { above = λ n h. le_those (λ (i : ℕ). true) F 16 n h refl; reached = go (those-reached (λ (i : ℕ). true) F 16) }
  where
    go : ((i : ℕ) × (i < 16) × (true ≡ true) × (F i ≡ greatest (table F 16))) ⊎ (((i : ℕ) → i < 16 → true ≡ true → ⊥) × (greatest (table F 16) ≡ 0))
        → (n : ℕ) × (n < 16) × (F n ≡ greatest (table F 16))
    go (inl (i, l, t, e)) = (i, l, e)
    go (inr none) = absurd (none.0 0 (omega arith) refl)

pub leads_of : (F : ℕ → ℕ) → Leads F (first_greatest F 16)
unfolding first_greatest
leads_of F =
    let top = highest_of F in
    let r = top.reached in
    let test : ℕ → Bool = λ (k : ℕ). eqb (F k) (greatest (table F 16)) in
    let m = least_mem_of r.0 (those test (λ (k : ℕ). k) 16) (those_in test (λ (k : ℕ). k) 16 r.0 r.1 (eq-eqb (F r.0) (greatest (table F 16)) r.2)) in
    let q = those_mem test (λ (k : ℕ). k) 16 (least (those test (λ (k : ℕ). k) 16)) m in
    let at : F q.i ≡ greatest (table F 16) = eqb-true (F q.i) (greatest (table F 16)) q.passed in
    let here : F (least (those test (λ (k : ℕ). k) 16)) ≡ greatest (table F 16) = ap F q.is ∙ at in
    record {
      numbered = omega (arith, q.below, q.is);
      above = λ k h. omega (arith, top.above k h);
      lowest = λ k h. lower k (omega (arith, q.below, q.is)) h here (less_or_not (F k) (greatest (table F 16))) (top.above k (omega (arith, q.below, q.is)));
    }
  where
    lower : (k : ℕ) → k < 16 → (let n = least (those (λ (k : ℕ). eqb (F k) (greatest (table F 16))) (λ (k : ℕ). k) 16) in
        k < n → F n ≡ greatest (table F 16) → (F k < greatest (table F 16)) ⊎ (greatest (table F 16) ≤ F k) → F k ≤ greatest (table F 16) → F k < F n)
    lower k l h e (inl s) t = omega arith
    lower k l h e (inr s) t =
        let test : ℕ → Bool = λ (k : ℕ). eqb (F k) (greatest (table F 16)) in
        let reach : F k ≡ greatest (table F 16) = omega arith in
        absurd (omega (arith, least_mem k (those test (λ (k : ℕ). k) 16) (those_in test (λ (k : ℕ). k) 16 k l (eq-eqb (F k) (greatest (table F 16)) reach))))
