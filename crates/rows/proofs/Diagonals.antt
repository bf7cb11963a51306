-- The lines of a diagonal, which go along the rows and down them: each is the same pixels either way, in the same order or in the opposite one.
--   swapped_sane         the swapped sweep is one of a frame
--   swapped_opens        an opening down the rows is nowhere below that along them; swapped, also nowhere above: so they are one
-- Assumes nothing.
use mathlib.Core.Path.{◌≡◌, refl, sym, ap, ◌∙◌, subst}
use mathlib.Core.Bool.{Bool, true, false, cond, ◌&&◌}
use mathlib.Core.List.{List}
use mathlib.Core.Logic.{⊎_elim}
use Prim.Native.Nat.{ℕ, ◌+◌, ◌-◌, ◌*◌, ◌/◌, ◌≤◌, ◌<◌}
use native.Mathlib.Nat.{le_trans, le_antisymm, add_comm, mul_assoc, mul_comm, le-div_iff_mul-le}
use native.Mathlib.Omega.{arith}
use lib.Dec.{leb, ltb}
use lib.ListN.{length, get_or}
use Rattle.lists.proofs.Cases.{less_or_not}
use Rattle.lists.proofs.Tables.{table_same}
use Rattle.line.specs.Windows.{darkest, opened, opened_at}
use Rattle.line.proofs.Windows.{darkest_le, le_darkest, opened-at_le, le_opened-at, opened-at}
use Rattle.frame.specs.declared.sweep.Sweep.{Sweep}
use Rattle.frame.specs.Lines as slope
use Rattle.frame.specs.Lines.{r}
use Rattle.frame.specs.Sweep as sweep
use Rattle.frame.specs.Sweep.{shift, Sane}
use Rattle.frame.proofs.Rounding.{r_le}
use Rattle.rows.specs.Rows as rows
use Rattle.rows.specs.Rows.{byte_of, lane_at, lane, OpensLines}
use Rattle.rows.proofs.Lines.{lane_in, lane-left, lane-right, line-length, line_at}
use Rattle.rows.specs.Down.{swap_of}

-- how far aside a line of slope 1 stands
abbrev diag : Bool → ℕ → ℕ → ℕ
diag f M i = cond f i (M - 1 - i)

r-diag : (a i : ℕ) → 1 ≤ a → r a a i ≡ i
unfolding slope.r
r-diag a i some =
    let e : i * (2 * a) ≡ 2 * i * a = sym (mul_assoc i 2 a) ∙ ap (λ (k : ℕ). k * a) (mul_comm i 2) in
    let l : i ≤ (2 * i * a + a) / (2 * a) = (le-div_iff_mul-le {k = 2 * a} {x = i} {y = 2 * i * a + a} (omega arith)).1 (omega (arith, e)) in
    le_antisymm (r_le a a i some (omega arith)) l

diag-shift : (s : Sweep) → Sane s → s.rise ≡ s.run → (i : ℕ) → shift s i ≡ diag s.falling s.majors i
unfolding sweep.shift
diag-shift s sane flat i = go s.falling
  where
    same : (j : ℕ) → r s.run s.rise j ≡ j
    same j = ap (λ (b : ℕ). r s.run b j) flat ∙ r-diag s.run j sane.moves

    go : (f : Bool) → cond f (r s.run s.rise i) (s.top - r s.run s.rise i) ≡ diag f s.majors i
    go true = same i
    go false = omega (arith, sane.top, same i, same (s.majors - 1))

-- a line's numbers known by equations of its course
lane_as : (h h' : ℕ → ℕ) (A A' : ℕ → ℕ → ℕ) (N M : ℕ) (g : List ℕ) (u : ℕ) → ((i : ℕ) → h i ≡ h' i) → ((i k : ℕ) → A i k ≡ A' i k)
    → lane h A N M g u ≡ lane h' A' N M g u
unfolding rows.lane_at
lane_as h h' A A' N M g u eh ea =
    table_same (lane_at h A N g u) (lane_at h' A' N g u) M
    (λ i l.
    ap (λ (x : ℕ). cond (leb x u && ltb u (x + N)) (get_or g (A i (u - x)) 0) 0) (eh i)
    ∙ ap (λ (y : ℕ). cond (leb (h' i) u && ltb u (h' i + N)) (get_or g y 0) 0) (ea i (u - h' i)))

-- a window of l whose pixels are all in a window of m that holds x
record Seen (l m : List ℕ) (L x i : ℕ) : Type 0 where
  start : ℕ
  fits : start + L ≤ length m
  from : start ≤ x
  to : x < start + L
  above : (j : ℕ) → start ≤ j → j < start + L → darkest l i L ≤ get_or m j 0

seen_le : (l m : List ℕ) (L x i : ℕ) → 0 < L → Seen l m L x i → darkest l i L ≤ opened_at m L x
seen_le l m L x i some w =
    le_trans (le_darkest m w.start L (darkest l i L) some w.fits w.above)
    (le_opened-at m L x w.start (omega (arith, w.fits)) w.fits w.from w.to)

dark_le : (l : List ℕ) (L i j k : ℕ) → i + L ≤ length l → i ≤ j → j < i + L → get_or l j 0 ≡ 0 → darkest l i L ≤ k
dark_le l L i j k fit lo hi zero' = omega (arith, darkest_le l i L j fit lo hi, zero')

module _ (M N : ℕ) (A : ℕ → ℕ → ℕ) (g : List ℕ) (h : ℕ → ℕ) (u : ℕ) where
  value_in : (j : ℕ) → j < M → h j ≤ u → u < h j + N → get_or (lane h A N M g u) j 0 ≡ get_or g (A j (u - h j)) 0
  value_in j l lo hi = line_at h A N M g u j l ∙ lane_in h A N g u j lo hi

  value-left : (j : ℕ) → j < M → u < h j → get_or (lane h A N M g u) j 0 ≡ 0
  value-left j l out = line_at h A N M g u j l ∙ lane-left h A N g u j out

  value-right : (j : ℕ) → j < M → h j + N ≤ u → get_or (lane h A N M g u) j 0 ≡ 0
  value-right j l out = line_at h A N M g u j l ∙ lane-right h A N g u j (omega arith) out

-- a pixel (x, j) on the rising line of the pixel (i, k)
module _ (M i x k j : ℕ) (in' : i < M) (there : x < M) (on : k + x ≡ i + j) where
  aside_le : M - 1 - x ≤ k + (M - 1 - i)
  aside_le = omega arith

  aside_is : k + (M - 1 - i) - (M - 1 - x) ≡ j
  aside_is = omega arith

aside_less : (M N i x k j : ℕ) → i < M → x < M → j < N → k + x ≡ i + j → k + (M - 1 - i) < M - 1 - x + N
aside_less M N i x k j in' there side on = omega arith

window-from : (i j k w : ℕ) → k + w - i ≤ j → w ≤ i + j - k
window-from i j k w lo = omega arith

window-to : (i j k w L : ℕ) → k + w - i ≤ j → i ≤ k + w → j < k + w - i + L → i + j - k < w + L
window-to i j k w L lo first hi = omega arith

same_le : {a b c : ℕ} → a ≤ b → b ≡ c → a ≤ c
same_le {a} l e = subst (λ (m : ℕ). a ≤ m) e l

module _ (M N L : ℕ) (A : ℕ → ℕ → ℕ) (g : List ℕ) (i k : ℕ) (in' : i < M) (n : k < N) (some : 0 < L) where
  -- falling: as one coordinate ascends the other descends
  fallen : opened_at (lane (λ (j : ℕ). j) A N M g (k + i)) L i ≤ opened_at (lane (λ (j : ℕ). j) (λ (j l : ℕ). A l j) M N g (i + k)) L k
  fallen = opened-at_le l L i (opened_at m L k) window
    where
      l : List ℕ
      l = lane (λ (j : ℕ). j) A N M g (k + i)

      m : List ℕ
      m = lane (λ (j : ℕ). j) (λ (j l : ℕ). A l j) M N g (i + k)

      long : length l ≡ M
      long = line-length (λ (j : ℕ). j) A N M g (k + i)

      far : length m ≡ N
      far = line-length (λ (j : ℕ). j) (λ (j l : ℕ). A l j) M N g (i + k)

      above : (w : ℕ) → w + L ≤ length l → w + L ≤ k + i + 1 → k + i < w + N → (j : ℕ) → k + i + 1 - (w + L) ≤ j → j < k + i + 1 - (w + L) + L → darkest l w L ≤ get_or m j 0
      above w fit first last j lo hi =
          let p = value_in M N A g (λ (j : ℕ). j) (k + i) (k + i - j) (omega (arith, fit, long)) (omega arith) (omega arith) in
          let q = value_in N M (λ (j l : ℕ). A l j) g (λ (j : ℕ). j) (i + k) j (omega arith) (omega arith) (omega (arith, fit, long)) in
          let e : k + i - (k + i - j) ≡ j = omega arith in
          let f : i + k - j ≡ k + i - j = omega arith in
          let same : get_or l (k + i - j) 0 ≡ get_or m j 0 = p ∙ ap (λ (y : ℕ). get_or g (A (k + i - j) y) 0) e ∙ ap (λ (x : ℕ). get_or g (A x j) 0) (sym f) ∙ sym q in
          omega (arith, darkest_le l w L (k + i - j) fit (omega arith) (omega arith), same)

      window : (w : ℕ) → w + L ≤ length l → w ≤ i → i < w + L → darkest l w L ≤ opened_at m L k
      window w fit lo hi =
          ⊎_elim
          (λ out.
          dark_le l L w (w + L - 1) (opened_at m L k) fit (omega arith) (omega arith)
          (value-left M N A g (λ (j : ℕ). j) (k + i) (w + L - 1) (omega (arith, fit, long)) (omega arith)))
          (λ first.
          ⊎_elim
          (λ last.
          seen_le l m L k w some
          (record {
            start = k + i + 1 - (w + L);
            fits = omega (arith, far);
            from = omega arith;
            to = omega arith;
            above = above w fit first last;
          }))
          (λ out. dark_le l L w w (opened_at m L k) fit (omega arith) (omega arith) (value-right M N A g (λ (j : ℕ). j) (k + i) w (omega (arith, fit, long)) out))
          (less_or_not (k + i) (w + N)))
          (less_or_not (k + i + 1) (w + L))

  -- rising: both ascend
  risen : opened_at (lane (λ (j : ℕ). M - 1 - j) A N M g (k + (M - 1 - i))) L i ≤ opened_at (lane (λ (j : ℕ). N - 1 - j) (λ (j l : ℕ). A l j) M N g (i + (N - 1 - k))) L k
  risen = opened-at_le l L i (opened_at m L k) window
    where
      l : List ℕ
      l = lane (λ (j : ℕ). M - 1 - j) A N M g (k + (M - 1 - i))

      m : List ℕ
      m = lane (λ (j : ℕ). N - 1 - j) (λ (j l : ℕ). A l j) M N g (i + (N - 1 - k))

      long : length l ≡ M
      long = line-length (λ (j : ℕ). M - 1 - j) A N M g (k + (M - 1 - i))

      far : length m ≡ N
      far = line-length (λ (j : ℕ). N - 1 - j) (λ (j l : ℕ). A l j) M N g (i + (N - 1 - k))

      above : (w : ℕ) → w + L ≤ length l → i ≤ k + w → k + w + L ≤ i + N → (j : ℕ) → k + w - i ≤ j → j < k + w - i + L → darkest l w L ≤ get_or m j 0
      above w fit first last j lo hi =
          let x : i + j - k < M = omega (arith, fit, long) in
          let y : j < N = omega arith in
          let there : k + (i + j - k) ≡ i + j = omega arith in
          let p =
          value_in M N A g (λ (j : ℕ). M - 1 - j) (k + (M - 1 - i)) (i + j - k) x (aside_le M i (i + j - k) k j in' x there)
          (aside_less M N i (i + j - k) k j in' x y there) in
          let q =
          value_in N M (λ (j l : ℕ). A l j) g (λ (j : ℕ). N - 1 - j) (i + (N - 1 - k)) j y (aside_le N k j i (i + j - k) n y (sym there))
          (aside_less N M k j i (i + j - k) n y x (sym there)) in
          let e : k + (M - 1 - i) - (M - 1 - (i + j - k)) ≡ j = aside_is M i (i + j - k) k j in' x there in
          let f : i + (N - 1 - k) - (N - 1 - j) ≡ i + j - k = aside_is N k j i (i + j - k) n y (sym there) in
          let same : get_or l (i + j - k) 0 ≡ get_or m j 0 = p ∙ ap (λ (y : ℕ). get_or g (A (i + j - k) y) 0) e ∙ ap (λ (x : ℕ). get_or g (A x j) 0) (sym f) ∙ sym q in
          same_le (darkest_le l w L (i + j - k) fit (window-from i j k w lo) (window-to i j k w L lo first hi)) same

      window : (w : ℕ) → w + L ≤ length l → w ≤ i → i < w + L → darkest l w L ≤ opened_at m L k
      window w fit lo hi =
          ⊎_elim
          (λ out.
          dark_le l L w w (opened_at m L k) fit (omega arith) (omega arith)
          (value-left M N A g (λ (j : ℕ). M - 1 - j) (k + (M - 1 - i)) w (omega (arith, fit, long)) (omega arith)))
          (λ first.
          ⊎_elim
          (λ out.
          dark_le l L w (w + L - 1) (opened_at m L k) fit (omega arith) (omega arith)
          (value-right M N A g (λ (j : ℕ). M - 1 - j) (k + (M - 1 - i)) (w + L - 1) (omega (arith, fit, long)) (omega (arith, fit, long))))
          (λ last.
          seen_le l m L k w some
          (record {
            start = k + w - i;
            fits = omega (arith, far);
            from = omega arith;
            to = omega arith;
            above = above w fit first last;
          }))
          (less_or_not (i + N) (k + w + L)))
          (less_or_not (k + w) i)

swapped_le : (f : Bool) (M N L : ℕ) (A : ℕ → ℕ → ℕ) (g : List ℕ) (i k : ℕ) → i < M → k < N → 0 < L
    → opened_at (lane (diag f M) A N M g (k + diag f M i)) L i ≤ opened_at (lane (diag f N) (λ (j l : ℕ). A l j) M N g (i + diag f N k)) L k
swapped_le true M N L A g i k in' n some = fallen M N L A g i k in' n some
swapped_le false M N L A g i k in' n some = risen M N L A g i k in' n some

-- ---- the swapped sweep

module _ (s : Sweep) (flat : s.rise ≡ s.run) where
  pub swapped_sane : Sane s → 1 ≤ s.pace → Sane (swap_of s)
  swapped_sane sane step =
      record {
        some = sane.wide;
        majors = sane.minors;
        wide = sane.some;
        minors = sane.majors;
        pace = sane.sidestep;
        step = step;
        sidestep = sane.pace;
        slow = sane.slow;
        moves = sane.moves;
        run = sane.run;
        top = sym (ap (λ (b : ℕ). r s.run b (s.minors - 1)) flat ∙ r-diag s.run (s.minors - 1) sane.moves);
      }

  swapped_at : Sane s → Sane (swap_of s) → (g : List ℕ) (L i k : ℕ) → 0 < L → i < s.majors → k < s.minors
      → get_or (opened (lane (shift (swap_of s)) (byte_of (swap_of s)) s.majors s.minors g (i + shift (swap_of s) k)) L) k 0
      ≡ get_or (opened (lane (shift s) (byte_of s) s.minors s.majors g (k + shift s i)) L) i 0
  swapped_at sane sane' g L i k some in' n =
      ap (λ (l : List ℕ). get_or (opened l L) k 0) down
      ∙ opened-at (lane (diag f N) (λ (j l : ℕ). byte_of s l j) M N g (i + diag f N k)) L k
      (omega (arith, n, line-length (diag f N) (λ (j l : ℕ). byte_of s l j) M N g (i + diag f N k)))
      ∙ le_antisymm (swapped_le f N M L (λ (j l : ℕ). byte_of s l j) g k i n in' some) (swapped_le f M N L (byte_of s) g i k in' n some)
      ∙ sym (opened-at (lane (diag f M) (byte_of s) N M g (k + diag f M i)) L i (omega (arith, in', line-length (diag f M) (byte_of s) N M g (k + diag f M i))))
      ∙ ap (λ (l : List ℕ). get_or (opened l L) i 0) (sym along)
    where
      f : Bool
      f = s.falling

      M : ℕ
      M = s.majors

      N : ℕ
      N = s.minors

      down : lane (shift (swap_of s)) (byte_of (swap_of s)) M N g (i + shift (swap_of s) k) ≡ lane (diag f N) (λ (j l : ℕ). byte_of s l j) M N g (i + diag f N k)
      down =
          ap (λ (v : ℕ). lane (shift (swap_of s)) (byte_of (swap_of s)) M N g (i + v)) (diag-shift (swap_of s) sane' flat k)
          ∙ lane_as (shift (swap_of s)) (diag f N) (byte_of (swap_of s)) (λ (j l : ℕ). byte_of s l j) M N g (i + diag f N k) (diag-shift (swap_of s) sane' flat)
          (λ j l. add_comm (j * s.sidestep) (l * s.pace))

      along : lane (shift s) (byte_of s) N M g (k + shift s i) ≡ lane (diag f M) (byte_of s) N M g (k + diag f M i)
      along =
          ap (λ (v : ℕ). lane (shift s) (byte_of s) N M g (k + v)) (diag-shift s sane flat i)
          ∙ lane_as (shift s) (diag f M) (byte_of s) (byte_of s) N M g (k + diag f M i) (diag-shift s sane flat) (λ j l. refl)

  pub swapped_opens : {b a : List ℕ} (L : ℕ) → Sane s → 1 ≤ s.pace → 0 < L → OpensLines (swap_of s) L b a → OpensLines s L b a
  swapped_opens {b} {a} L sane step some o =
      record {
        same = o.same;
        within = λ i k l n.
            ap (λ (x : ℕ). get_or a x 0) (add_comm (i * s.pace) (k * s.sidestep))
            ∙ o.within k i n l
            ∙ swapped_at sane (swapped_sane sane step) b L i k some l n;
        other = λ x none. o.other x (λ k i n l e. none i k l n (e ∙ add_comm (k * s.sidestep) (i * s.pace)));
      }
