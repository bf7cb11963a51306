-- The passes of an opening along the rows, line by line: from windows of w columns to those of w + e.
--   bool_cases                        a test is true or false
--   paired_cases, paired-dark         a column's partner stands in the frame, or it has none; it is dark
--   grown-start, grown-step           the passes of an erosion or of a dilation
--   grown-turn, grown-opened          from the erosion to the dilation, and to the opening
--   grown-dark                        which columns are dark after a pass
--   grows_end                         the window length known by an equation
-- Assumes nothing.
use mathlib.Core.Path.{◌≡◌, refl, sym, ap, ap₂, ◌∙◌, subst}
use mathlib.Core.Bool.{Bool, true, false, cond}
use mathlib.Core.List.{List}
use mathlib.Core.Logic.{◌⊎◌, inl, inr, ⊎_elim}
use Prim.Native.Nat.{ℕ, ◌+◌, ◌-◌, ◌≤◌, ◌<◌, min, max}
use native.Mathlib.Omega.{arith}
use lib.ListN.{get_or}
use borrow.Author.Tests.{le-leb, lt-leb, lt-ltb, le-ltb}
use Rattle.lists.proofs.Cases.{less_or_not}
use Rattle.line.specs.Windows.{opened}
use Rattle.line.specs.Passes.{eroded_to, reopened}
use Rattle.line.proofs.Rims.{eroded-to-one, eroded-to-more, eroded-to_out, eroded-to-dark, reopened-one, reopened-near, reopened-more, reopened-dark}
use Rattle.frame.specs.declared.sweep.Sweep.{Sweep}
use Rattle.frame.specs.Sweep.{shift}
use Rattle.rows.specs.Rows.{byte_of, lane_at, lane, PixelsAre}
use Rattle.rows.specs.Slants.{paired, meeting, Dark, edge, grown, GrownLines, Grows}
use Rattle.rows.proofs.Lines.{lane-pixel, lane-dark, pixels_as, line-length, line_at, held, opening_is}

-- ---- a column and its partner

pub bool_cases : (P : Bool → Type 0) (b : Bool) → (b ≡ true → P true) → (b ≡ false → P false) → P b
bool_cases P true yes' no' = yes' refl
bool_cases P false yes' no' = no' refl

module _ (s : Sweep) (here there x : ℕ) where
  pub paired_cases : (P : Bool → Type 0) → (here ≤ x → there + (x - here) < s.majors → P true)
      → ((x < here) ⊎ (s.majors ≤ there + (x - here)) → P false) → P (paired s here there x)
  paired_cases P in' out =
      ⊎_elim
      (λ before. rw (lt-leb here x before) (out (inl before)))
      (λ from.
      rw (le-leb here x from)
      (⊎_elim
      (λ l. rw (lt-ltb (there + (x - here)) s.majors l) (in' from l))
      (λ past. rw (le-ltb (there + (x - here)) s.majors past) (out (inr past)))
      (less_or_not (there + (x - here)) s.majors)))
      (less_or_not x here)

  pub paired-dark : (light : ℕ) (g : List ℕ) → Dark s light g → (u : ℕ) → light ≤ there + (x - here)
      → cond (paired s here there x) (lane_at (shift s) (byte_of s) s.minors g u (there + (x - here))) 0 ≡ 0
  paired-dark light g dark u from =
      paired_cases
      (λ (b : Bool). cond b (lane_at (shift s) (byte_of s) s.minors g u (there + (x - here))) 0 ≡ 0)
      (λ l in'. lane-dark (shift s) (byte_of s) s.minors g u (there + (x - here)) (λ k n. dark (there + (x - here)) k from in' n))
      (λ out. refl)

-- ---- the lines of the frame f

module _ (s : Sweep) (f : List ℕ) where
  abbrev line : ℕ → List ℕ
  line = lane (shift s) (byte_of s) s.minors s.majors f

  size : (u : ℕ) → lib.ListN.length (line u) ≡ s.majors
  size = line-length (shift s) (byte_of s) s.minors s.majors f

  pub grown-start : (L : ℕ) → GrownLines true s L 1 f f f
  grown-start L =
      record {
        pixels = record {
          same = refl;
          within = λ i k l n.
              let u = k + shift s i in
              sym
              (eroded-to-one (line u) i (omega (arith, size u))
              ∙ line_at (shift s) (byte_of s) s.minors s.majors f u i l
              ∙ lane-pixel (shift s) (byte_of s) s.minors f i k n);
          other = λ x none. refl;
        };
      }

  -- the pixel that a line's pixel meets, by what the line holds
  found : (darker : Bool) {b g : List ℕ} (L w here there : ℕ) → GrownLines darker s L w f b g → 0 < w → w ≤ L → (u x : ℕ)
      → cond (paired s here there x) (lane_at (shift s) (byte_of s) s.minors g u (there + (x - here))) 0
      ≡ cond (paired s here there x) (grown darker (line u) L w (there + (x - here))) 0
  found darker {b} {g} L w here there r some short u x =
      paired_cases s here there x
      (λ (t : Bool). cond t (lane_at (shift s) (byte_of s) s.minors g u (there + (x - here))) 0 ≡ cond t (grown darker (line u) L w (there + (x - here))) 0)
      (λ l in'.
      held (shift s) (byte_of s) s.minors s.majors f {B = λ (v i : ℕ). grown darker (line v) L w i} r.pixels (λ v i h dark. gone darker v i dark) u
      (there + (x - here)) in')
      (λ out. refl)
    where
      gone : (d : Bool) (v i : ℕ) → get_or (line v) i 0 ≡ 0 → grown d (line v) L w i ≡ 0
      gone true v i dark = eroded-to-dark (line v) w i some dark
      gone false v i dark = reopened-dark (line v) L w i short dark

  meeting-is : (darker : Bool) {b g : List ℕ} (L w e : ℕ) → GrownLines darker s L w f b g → 0 < w → w ≤ L → e ≤ w → (i k : ℕ) → i < s.majors → k < s.minors
      → meeting darker s (cond darker 0 e) (cond darker e 0) g i k ≡ grown darker (line (k + shift s i)) L (w + e) i
  meeting-is true L w e r some short small i k l n =
      let u = k + shift s i in
      ap₂ min (r.pixels.within i k l n)
      (found true L w 0 e r some short u i
      ∙ paired_cases s 0 e i (λ (t : Bool). cond t (eroded_to (line u) w (e + (i - 0))) 0 ≡ eroded_to (line u) w (e + (i - 0)))
      (λ from in'. refl)
      (λ out. sym (eroded-to_out (line u) w (e + (i - 0)) some (⊎_elim (λ q. omega arith) (λ q. omega (arith, size u)) out)))
      ∙ ap (eroded_to (line u) w) (omega arith))
      ∙ sym (eroded-to-more (line u) w e i some small)
  meeting-is false L w e r some short small i k l n =
      let u = k + shift s i in
      ap₂ max (r.pixels.within i k l n) (found false L w e 0 r some short u i)
      ∙ paired_cases s e 0 i (λ (t : Bool). max (reopened (line u) L w i) (cond t (reopened (line u) L w (0 + (i - e))) 0) ≡ reopened (line u) L (w + e) i)
      (λ from in'. ap (λ (x : ℕ). max (reopened (line u) L w i) (reopened (line u) L w x)) (omega arith) ∙ sym (reopened-more (line u) L w e i small from))
      (λ out. ⊎_elim (λ near. omega (arith, reopened-near (line u) L w e i small near)) (λ past. omega arith) out)

  pub grown-step : (darker : Bool) {b g g' : List ℕ} (L w e : ℕ) → GrownLines darker s L w f b g
      → PixelsAre (byte_of s) s.majors s.minors (meeting darker s (cond darker 0 e) (cond darker e 0) g) g g' → 0 < w → w ≤ L → e ≤ w
      → GrownLines darker s L (w + e) f b g'
  grown-step darker L w e r p some short small =
      record {
        pixels = record {
          same = p.same ∙ r.pixels.same;
          within = λ i k l n. p.within i k l n ∙ meeting-is darker L w e r some short small i k l n;
          other = λ x none. p.other x none ∙ r.pixels.other x none;
        };
      }

  pub grown-turn : {b g : List ℕ} (L : ℕ) → GrownLines true s L L f b g → GrownLines false s L 1 f b g
  grown-turn L r =
      record {
        pixels = pixels_as r.pixels (λ (i k : ℕ). reopened (line (k + shift s i)) L 1 i)
            (λ i k l n. sym (reopened-one (line (k + shift s i)) L i (omega (arith, size (k + shift s i)))));
      }

  pub grown-opened : {b g : List ℕ} (L : ℕ) → 0 < L → GrownLines false s L L f b g
      → PixelsAre (byte_of s) s.majors s.minors (λ (i k : ℕ). get_or (opened (line (k + shift s i)) L) i 0) b g
  grown-opened L some r =
      pixels_as r.pixels (λ (i k : ℕ). get_or (opened (line (k + shift s i)) L) i 0)
      (λ i k l n. opening_is (shift s) (byte_of s) s.minors s.majors f L i k some l)

pub grown-dark : (darker : Bool) (s : Sweep) {b a : List ℕ} (L w e : ℕ) → Dark s (edge darker s.majors L w) b
    → PixelsAre (byte_of s) s.majors s.minors (meeting darker s (cond darker 0 e) (cond darker e 0) b) b a → Dark s (edge darker s.majors L (w + e)) a
grown-dark true s {b} L w e dark r i k from l n =
    r.within i k l n ∙ omega (arith, paired-dark s 0 e i (s.majors + 1 - w) b dark (k + shift s i) (omega arith))
grown-dark false s {b} L w e dark r i k from l n =
    r.within i k l n ∙ ap₂ max (dark i k (omega arith) l n) (paired-dark s e 0 i (s.majors - L + w) b dark (k + shift s i) (omega arith))

pub grows_end : {darker : Bool} {s : Sweep} {L w v : ℕ} {b a : List ℕ} → Grows darker s L w b a → w ≡ v → Grows darker s L v b a
grows_end {darker} {s} {L} {w} {v} {b} {a} r e = subst (λ (m : ℕ). Grows darker s L m b a) e r
