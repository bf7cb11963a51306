-- A pass over all rows, where lines go along them and bend from one to the next.
--   Rows in the order in which the lines cross them:
--   slant_room                a row is in the buffer
--   ready-still               a buffer of the same length
--   dark-past                 a frame that is dark from a column on: so are the rows that a pass has yet to treat
--   Pixels and the row that their marks choose:
--   far_untouched, own_untouched    a pass finds a row as it was that is not its own, and each of its pixels
--   met-last-darker, met-last_brighter    pixels whose partners stand in the frame's last row, or in none
--   met-gone, met-straight, met-near, met-far    none, the only one, one or both of the rows that a row asks for are in the frame
--   One row, all rows, all lines:
--   slanted-row               one row's part of a pass
--   slants_more               one row more
--   cleared_lines             a frame whose rows are all 0
--   met-lines                 the pass, for every line
-- Assumes nothing.
use mathlib.Core.Path.{◌≡◌, refl, sym, ap, ap₂, ◌∙◌, subst}
use mathlib.Core.Bool.{Bool, true, false, cond}
use mathlib.Core.List.{List, [], ◌∷◌}
use mathlib.Core.Logic.{◌⊎◌, inl, inr, ⊎_elim}
use Prim.Native.Nat.{ℕ, ◌+◌, ◌-◌, ◌*◌, ◌≤◌, ◌<◌, min, max, zero-le}
use native.Mathlib.Nat.{mul-one, le_refl}
use native.Mathlib.Omega.{arith}
use lib.Dec.{eqb}
use lib.ListN.{length, get_or}
use borrow.Author.Tests.{lt-ltb, le-ltb}
use Rattle.lists.specs.Stores.{Filled}
use Rattle.lists.proofs.Cases.{less_or_not}
use Rattle.lists.proofs.Stores.{filled_as}
use Rattle.passes.specs.Passes.{op, straight, bent, met, ClearsBent, Fades, Parted}
use Rattle.frame.specs.declared.sweep.Sweep.{Sweep}
use Rattle.frame.specs.Lines.{r}
use Rattle.frame.specs.Sweep.{shift, Sane}
use Rattle.frame.proofs.Rounding.{r-up}
use Rattle.frame.proofs.Spans.{shift_falling, shift-rising}
use Rattle.rows.specs.declared.slant.Pass.{Pass}
use Rattle.rows.specs.Rows as rows
use Rattle.rows.specs.Rows.{byte_of, lane_at, PixelsAre, RowsAre, row_at, rows_by}
use Rattle.rows.specs.Slants.{Slanted, MayRun, row_start, pixel_past, is_forth, rows_on, Bends, near_only, pixel_by, paired, partner, met_at, meeting, Dark, DarkPast}
use Rattle.rows.proofs.Rowwise.{RowsApart, row_less, row-twice, row_kept, row_room, rows_more}
use Rattle.rows.proofs.Lines.{lane_in, lane-left, lane-right, columns-pixels, pixels_as}
use Rattle.rows.proofs.Growths.{bool_cases, paired_cases, paired-dark}

-- ---- rows in the order in which the lines cross them

pub slant_room : {s : Sweep} {g : List ℕ} → Slanted s g → (forth : Bool) (t : ℕ) → t < s.minors → row_start s forth t + s.majors ≤ length g
slant_room {s} {g} slanted forth t in' = row_room s.sidestep s.majors s.minors (length g) (row_at forth s.minors t) (row_less forth s.minors t in') slanted.room

pub ready-still : {p : Pass} {b a : List ℕ} → MayRun p b → length a ≡ length b → MayRun p a
ready-still ready same =
    let slanted = ready.slanted in
    record {
      slanted = record { sane = slanted.sane; next = slanted.next; apart = slanted.apart; room = omega (arith, slanted.room, same) };
      some = ready.some;
      inside = ready.inside;
      onward = ready.onward;
      marked = ready.marked;
    }

module _ (forth : Bool) (N S : ℕ) (g : List ℕ) where
  past_in : (t j d : ℕ) → t + d < N → pixel_past forth N S g t j d ≡ get_or g (row_at forth N (t + d) * S + j) 0
  unfolding pixel_past
  past_in t j d in' = rw (lt-ltb (t + d) N in')

  past_out : (t j d : ℕ) → N ≤ t + d → pixel_past forth N S g t j d ≡ 0
  unfolding pixel_past
  past_out t j d out = rw (le-ltb (t + d) N out)

-- the pixels of a row stand side by side
row-by-row : (s : Sweep) → s.pace ≡ 1 → (i k : ℕ) → byte_of s i k ≡ k * s.sidestep + i
row-by-row s flat i k = let e : i * s.pace ≡ i = ap (λ (x : ℕ). i * x) flat ∙ mul-one i in omega (arith, e)

module _ (s : Sweep) (flat : s.pace ≡ 1) where
  row-byte : (forth : Bool) (i k : ℕ) → k < s.minors → byte_of s i k ≡ row_start s forth (row_at forth s.minors k) + i
  row-byte forth i k n = row-by-row s flat i k ∙ ap (λ (x : ℕ). x + i) (ap (λ (t : ℕ). t * s.sidestep) (sym (row-twice forth s.minors k n)))

  row-dark : (forth : Bool) (light : ℕ) (g : List ℕ) → Dark s light g → DarkPast s forth 0 light g
  row-dark forth light g dark u x l n from in' =
      let there = row_less forth s.minors u n in
      ap (λ (y : ℕ). get_or g (row_start s forth y + x) 0) (sym (row-twice forth s.minors u n))
      ∙ ap (λ (y : ℕ). get_or g y 0) (sym (row-byte forth x (row_at forth s.minors u) there))
      ∙ dark x (row_at forth s.minors u) from in' there

  -- the rows from t on, where those before it are done
  pub dark-past : (forth : Bool) (light : ℕ) {F : ℕ → ℕ → ℕ} {t : ℕ} {b a : List ℕ} → RowsApart (row_start s forth) s.majors s.minors → Dark s light b
      → RowsAre (row_start s forth) s.majors 0 t F b a → t < s.minors → DarkPast s forth t light a
  dark-past forth light {F} {t} {b} {a} parted dark done h u x l n from in' =
      row_kept parted done (omega arith) u x n in' (inr l) ∙ row-dark forth light b dark u x zero-le n from in'

-- ---- pixels and the row that their marks choose

pub far_untouched : (at near far n : ℕ) → (at + n ≤ far) ⊎ (far + n ≤ at) → Parted at near far n
far_untouched at near far n side =
    ⊎_elim
    (λ before. inr (before, ⊎_elim (λ q. inr q) (λ q. inl (omega arith)) side))
    (λ from. inl (from, ⊎_elim (λ q. inl (omega arith)) (λ q. inr q) side))
    (less_or_not near at)

pub own_untouched : (at near n : ℕ) → Parted at near at n
own_untouched at near n = ⊎_elim (λ before. inr (before, inl (le_refl at))) (λ from. inl (from, inl (le_refl at))) (less_or_not near at)

module _ (m : List ℕ) (at near n : ℕ) (g : List ℕ) {g₁ : List ℕ} where
  pub met-last_brighter : Filled g g₁ at (at + n) (met (op false) (bent m near at) at g) → Filled g g₁ at (at + n) (met (op false) (near_only m near) at g)
  unfolding bent
  met-last_brighter f =
      filled_as f (met (op false) (near_only m near) at g)
      (λ x l h.
      let back : get_or g (at + (x - at)) 0 ≡ get_or g x 0 = ap (λ (y : ℕ). get_or g y 0) (omega arith) in
      bool_cases
      (λ (b : Bool). max (get_or g x 0) (cond b (get_or g (near + (x - at)) 0) (get_or g (at + (x - at)) 0)) ≡ max (get_or g x 0) (cond b (get_or g (near + (x - at)) 0) 0))
      (eqb (get_or m (x - at) 0) 0)
      (λ q. refl)
      (λ q. omega (arith, back)))

  pub met-last-darker : {g₂ : List ℕ} → Filled g g₁ at (at + n) (met (op true) (bent m near at) at g) → ClearsBent m at n g₁ g₂ → n ≤ length m → at + n ≤ length g
      → Filled g g₂ at (at + n) (met (op true) (near_only m near) at g)
  unfolding bent
  met-last-darker {g₂} f clear enough fits =
      let c = clear.done (omega (arith, f.same)) enough in
      record {
        same = c.same ∙ f.same;
        within = λ x l h. c.within x l h ∙ ap (λ (v : ℕ). cond (eqb (get_or m (x - at) 0) 0) v 0) (f.within x l h) ∙ chosen x;
        below = λ x l. c.below x l ∙ f.below x l;
        above = λ x l. c.above x l ∙ f.above x l;
      }
    where
      chosen : (x : ℕ)
          → cond (eqb (get_or m (x - at) 0) 0) (min (get_or g x 0) (cond (eqb (get_or m (x - at) 0) 0) (get_or g (near + (x - at)) 0) (get_or g (at + (x - at)) 0))) 0
          ≡ min (get_or g x 0) (cond (eqb (get_or m (x - at) 0) 0) (get_or g (near + (x - at)) 0) 0)
      chosen x =
          bool_cases
          (λ (b : Bool).
          cond b (min (get_or g x 0) (cond b (get_or g (near + (x - at)) 0) (get_or g (at + (x - at)) 0))) 0 ≡ min (get_or g x 0) (cond b (get_or g (near + (x - at)) 0) 0))
          (eqb (get_or m (x - at) 0) 0) (λ q. refl) (λ q. omega arith)

unmarked : (d : ℕ) (m : List ℕ) (j : ℕ) → length m < 1 → rows_on d m j ≡ d
unmarked d [] j none = refl
unmarked d (v ∷ m) j none = absurd (omega (arith, none))

-- a row's n pixels from column `here` on, where those at `at` met what `P` has for them
module _ (darker : Bool) (s : Sweep) (forth : Bool) (m : List ℕ) (t here there n d : ℕ) {g g' : List ℕ} {at : ℕ} (place : at ≡ row_start s forth t + here) where
  met_as : (P : List ℕ → ℕ → ℕ) → Filled g g' at (at + n) (met (op darker) P at g) → ((j : ℕ) → P g j ≡ pixel_by s forth m t there d g j)
      → Filled g g' (row_start s forth t + here) (row_start s forth t + here + n) (met (op darker) (pixel_by s forth m t there d) (row_start s forth t + here) g)
  met_as P f e =
      subst (λ (p : ℕ). Filled g g' p (p + n) (met (op darker) (pixel_by s forth m t there d) p g)) place
      (filled_as f (met (op darker) (pixel_by s forth m t there d) at g) (λ x l h. ap (op darker (get_or g x 0)) (e (x - at))))

  pub met-gone : Fades darker at n g g' → at + n ≤ length g → s.minors ≤ t + d
      → Filled g g' (row_start s forth t + here) (row_start s forth t + here + n) (met (op darker) (pixel_by s forth m t there d) (row_start s forth t + here) g)
  met-gone fade fits gone =
      met_as (λ (f : List ℕ) (j : ℕ). 0) (fade.done fits)
      (λ j.
      sym
      (past_out forth s.minors s.sidestep g t (there + j) (rows_on d m j)
      (bool_cases (λ (b : Bool). s.minors ≤ t + cond b d (d + 1)) (eqb (get_or m j 0) 0) (λ q. gone) (λ q. omega arith))))

  module _ {near : ℕ} (first : near ≡ row_start s forth (t + d) + there) where
    -- a pass without marks has all its lines go d rows aside
    pub met-straight : Filled g g' at (at + n) (met (op darker) (straight near) at g) → length m < 1 → t + d < s.minors
        → Filled g g' (row_start s forth t + here) (row_start s forth t + here + n) (met (op darker) (pixel_by s forth m t there d) (row_start s forth t + here) g)
    met-straight f none in' =
        met_as (straight near) f
        (λ j.
        ap (λ (y : ℕ). get_or g y 0) (omega (arith, first))
        ∙ sym (past_in forth s.minors s.sidestep g t (there + j) d in')
        ∙ ap (pixel_past forth s.minors s.sidestep g t (there + j)) (sym (unmarked d m j none)))

    pub met-near : Filled g g' at (at + n) (met (op darker) (near_only m near) at g) → t + d < s.minors → s.minors ≤ t + (d + 1)
        → Filled g g' (row_start s forth t + here) (row_start s forth t + here + n) (met (op darker) (pixel_by s forth m t there d) (row_start s forth t + here) g)
    met-near f in' last =
        met_as (near_only m near) f
        (λ j.
        bool_cases
        (λ (b : Bool). cond b (get_or g (near + j) 0) 0 ≡ pixel_past forth s.minors s.sidestep g t (there + j) (cond b d (d + 1)))
        (eqb (get_or m j 0) 0)
        (λ q. ap (λ (y : ℕ). get_or g y 0) (omega (arith, first)) ∙ sym (past_in forth s.minors s.sidestep g t (there + j) d in'))
        (λ q. sym (past_out forth s.minors s.sidestep g t (there + j) (d + 1) last)))

    pub met-far : {far : ℕ} → far ≡ row_start s forth (t + (d + 1)) + there → Filled g g' at (at + n) (met (op darker) (bent m near far) at g) → t + (d + 1) < s.minors
        → Filled g g' (row_start s forth t + here) (row_start s forth t + here + n) (met (op darker) (pixel_by s forth m t there d) (row_start s forth t + here) g)
    unfolding bent
    met-far {far} second f in' =
        met_as (bent m near far) f
        (λ j.
        bool_cases
        (λ (b : Bool). cond b (get_or g (near + j) 0) (get_or g (far + j) 0) ≡ pixel_past forth s.minors s.sidestep g t (there + j) (cond b d (d + 1)))
        (eqb (get_or m j 0) 0)
        (λ q. ap (λ (y : ℕ). get_or g y 0) (omega (arith, first)) ∙ sym (past_in forth s.minors s.sidestep g t (there + j) d (omega arith)))
        (λ q. ap (λ (y : ℕ). get_or g y 0) (omega (arith, second)) ∙ sym (past_in forth s.minors s.sidestep g t (there + j) (d + 1) in')))

-- ---- one row

module _ (s : Sweep) (forth : Bool) (m : List ℕ) (here there d : ℕ) where
  partner_in : (g : List ℕ) (t x : ℕ) → here ≤ x → there + (x - here) < s.majors → partner s forth m here there d g t x ≡ pixel_by s forth m t there d g (x - here)
  unfolding partner
  partner_in g t x from in' =
      paired_cases s here there x
      (λ (b : Bool). cond b (pixel_by s forth m t there d g (x - here)) 0 ≡ pixel_by s forth m t there d g (x - here))
      (λ l h. refl)
      (λ out. absurd (⊎_elim (λ q. omega arith) (λ q. omega arith) out))

  -- a property of a pixel's partner: of the pixel that stands there, and of 0
  partner-by : (P : ℕ → Type 0) (g : List ℕ) (t x : ℕ) → (here ≤ x → there + (x - here) < s.majors → P (pixel_by s forth m t there d g (x - here))) → P 0
      → P (partner s forth m here there d g t x)
  unfolding partner
  partner-by P g t x in' none =
      paired_cases s here there x (λ (b : Bool). P (cond b (pixel_by s forth m t there d g (x - here)) 0)) in' (λ out. none)

  partner-before : (g : List ℕ) (t x : ℕ) → x < here → partner s forth m here there d g t x ≡ 0
  partner-before g t x out = partner-by (λ (v : ℕ). v ≡ 0) g t x (λ from in'. absurd (omega arith)) refl

  partner-dark : (g : List ℕ) (t light x : ℕ) → DarkPast s forth t light g → light ≤ there + (x - here) → partner s forth m here there d g t x ≡ 0
  partner-dark g t light x dark past =
      partner-by (λ (v : ℕ). v ≡ 0) g t x
      (λ from in'.
      ⊎_elim
      (λ q.
      past_in forth s.minors s.sidestep g t (there + (x - here)) (rows_on d m (x - here)) q
      ∙ dark (t + rows_on d m (x - here)) (there + (x - here)) (omega arith) q past in')
      (past_out forth s.minors s.sidestep g t (there + (x - here)) (rows_on d m (x - here)))
      (less_or_not (t + rows_on d m (x - here)) s.minors))
      refl

-- 0 makes no pixel brighter, and no dark one darker
kept_by : (darker : Bool) (v : ℕ) → (darker ≡ true → v ≡ 0) → v ≡ op darker v 0
kept_by true v dark = omega (arith, dark refl)
kept_by false v dark = omega arith

module _ {darker : Bool} (s : Sweep) (forth : Bool) (m : List ℕ) (here there d : ℕ) {g g₁ g₂ : List ℕ} (t n light : ℕ) where
  pub slanted-row : Filled g g₁ (row_start s forth t + here) (row_start s forth t + here + n) (met (op darker) (pixel_by s forth m t there d) (row_start s forth t + here) g)
      → Fades darker (row_start s forth t + (here + n)) there g₁ g₂ → there + n ≡ light → here + light ≤ s.majors → (darker ≡ true → here ≡ 0) → DarkPast s forth t light g
      → t < s.minors → row_start s forth t + s.majors ≤ length g
      → Filled g g₂ (row_start s forth t) (row_start s forth t + s.majors) (λ (x : ℕ). met_at darker s forth m here there d g t (x - row_start s forth t))
  slanted-row f fade wide top way dark in' room =
      record {
        same = c.same ∙ f.same;
        within = λ x l h. within x (x - at) (omega arith) (omega arith) ∙ ap (λ (y : ℕ). op darker (get_or g y 0) (partner s forth m here there d g t (x - at))) (omega arith);
        below = λ x l. c.below x (omega arith) ∙ f.below x (omega arith);
        above = λ x l. c.above x (omega arith) ∙ f.above x (omega arith);
      }
    where
      at : ℕ
      at = row_start s forth t

      c : Filled g₁ g₂ (row_start s forth t + (here + n)) (row_start s forth t + (here + n) + there) (λ (x : ℕ). op darker (get_or g₁ x 0) 0)
      c = fade.done (omega (arith, f.same))

      lone : (x j : ℕ) → partner s forth m here there d g t j ≡ 0 → op darker (get_or g x 0) 0 ≡ op darker (get_or g x 0) (partner s forth m here there d g t j)
      lone x j none = ap (op darker (get_or g x 0)) (sym none)

      within : (x j : ℕ) → x ≡ row_start s forth t + j → j < s.majors → get_or g₂ x 0 ≡ op darker (get_or g x 0) (partner s forth m here there d g t j)
      within x j e h =
          ⊎_elim
          (λ before.
          c.below x (omega arith)
          ∙ f.below x (omega arith)
          ∙ kept_by darker (get_or g x 0) (λ q. absurd (omega (arith, way q)))
          ∙ lone x j (partner-before s forth m here there d g t j before))
          (λ from.
          ⊎_elim
          (λ q.
          c.below x (omega arith)
          ∙ f.within x (omega arith) (omega arith)
          ∙ ap (op darker (get_or g x 0))
          (ap (pixel_by s forth m t there d g) (omega arith) ∙ sym (partner_in s forth m here there d g t j from (omega arith))))
          (λ q.
          ⊎_elim
          (λ v. c.within x (omega arith) (omega arith) ∙ ap (λ (y : ℕ). op darker y 0) (f.above x (omega arith)))
          (λ v.
          c.above x (omega arith)
          ∙ f.above x (omega arith)
          ∙ kept_by darker (get_or g x 0) (λ y. ap (λ (z : ℕ). get_or g z 0) e ∙ dark t j (le_refl t) in' (omega arith) h))
          (less_or_not j (here + n + there))
          ∙ lone x j (partner-dark s forth m here there d g t light j dark (omega arith)))
          (less_or_not j (here + n)))
          (less_or_not j here)

-- ---- all rows

module _ (s : Sweep) (forth : Bool) (m : List ℕ) (here there d : ℕ) {b a : List ℕ} (parted : RowsApart (row_start s forth) s.majors s.minors) where
  past-kept : {F : ℕ → ℕ → ℕ} {t : ℕ} → RowsAre (row_start s forth) s.majors 0 t F b a → t < s.minors → (j c : ℕ) → j < s.majors
      → pixel_past forth s.minors s.sidestep a t j c ≡ pixel_past forth s.minors s.sidestep b t j c
  past-kept {F} {t} done h j c in' =
      ⊎_elim
      (λ q.
      past_in forth s.minors s.sidestep a t j c q
      ∙ row_kept parted done (omega arith) (t + c) j q in' (inr (omega arith))
      ∙ sym (past_in forth s.minors s.sidestep b t j c q))
      (λ q. past_out forth s.minors s.sidestep a t j c q ∙ sym (past_out forth s.minors s.sidestep b t j c q))
      (less_or_not (t + c) s.minors)

  pub slants_more : (darker : Bool) {a' : List ℕ} (t : ℕ) → RowsAre (row_start s forth) s.majors 0 t (met_at darker s forth m here there d b) b a
      → Filled a a' (row_start s forth t) (row_start s forth t + s.majors)
      (λ (x : ℕ). met_at darker s forth m here there d a t (x - row_start s forth t))
      → t < s.minors → RowsAre (row_start s forth) s.majors 0 (t + 1) (met_at darker s forth m here there d b) b a'
  unfolding partner
  slants_more darker {a'} t done f h = rows_more parted done f row zero-le h
    where
      kept : (k : ℕ) → partner s forth m here there d a t k ≡ partner s forth m here there d b t k
      kept k =
          paired_cases s here there k
          (λ (v : Bool). cond v (pixel_by s forth m t there d a (k - here)) 0 ≡ cond v (pixel_by s forth m t there d b (k - here)) 0)
          (λ from in'. past-kept done h (there + (k - here)) (rows_on d m (k - here)) in')
          (λ out. refl)

      row : (k : ℕ) → k < s.majors
          → met_at darker s forth m here there d a t (row_start s forth t + k - row_start s forth t) ≡ met_at darker s forth m here there d b t k
      row k n =
          let q : row_start s forth t + k - row_start s forth t ≡ k = omega arith in
          ap (met_at darker s forth m here there d a t) q ∙ ap₂ (op darker) (row_kept parted done (omega arith) t k h n (inr (le_refl t))) (kept k)

-- ---- the pass, for every line

module _ (N S : ℕ) (g : List ℕ) (h : ℕ → ℕ) (A : ℕ → ℕ → ℕ) (place : (i k : ℕ) → A i k ≡ k * S + i) where
  lane-down : (k i j c : ℕ) → k < N → h i ≡ h j + c → pixel_past true N S g k j c ≡ lane_at h A N g (k + h i) j
  unfolding rows.row_at
  lane-down k i j c n e =
      ⊎_elim
      (λ q.
      let v : k + c ≡ k + h i - h j = omega (arith, e) in
      past_in true N S g k j c q
      ∙ ap (λ (x : ℕ). get_or g x 0) (sym (place j (k + c)) ∙ ap (A j) v)
      ∙ sym (lane_in h A N g (k + h i) j (omega (arith, e)) (omega (arith, e))))
      (λ q. past_out true N S g k j c q ∙ sym (lane-right h A N g (k + h i) j (omega (arith, e)) (omega (arith, e))))
      (less_or_not (k + c) N)

  lane-up : (k i j c : ℕ) → k < N → h j ≡ h i + c → pixel_past false N S g (N - 1 - k) j c ≡ lane_at h A N g (k + h i) j
  unfolding rows.row_at
  lane-up k i j c n e =
      ⊎_elim
      (λ q.
      let w : N - 1 - (N - 1 - k + c) ≡ k + h i - h j = omega (arith, e) in
      past_in false N S g (N - 1 - k) j c q
      ∙ ap (λ (x : ℕ). get_or g (x * S + j) 0) w
      ∙ ap (λ (x : ℕ). get_or g x 0) (sym (place j (k + h i - h j)))
      ∙ sym (lane_in h A N g (k + h i) j (omega (arith, e)) (omega (arith, e))))
      (λ q. past_out false N S g (N - 1 - k) j c q ∙ sym (lane-left h A N g (k + h i) j (omega (arith, e))))
      (less_or_not (N - 1 - k + c) N)

-- a frame whose rows are all 0
pub cleared_lines : (s : Sweep) → s.pace ≡ 1 → {b a : List ℕ} → RowsAre (rows_by s.sidestep) s.majors 0 s.minors (λ (i k : ℕ). 0) b a
    → PixelsAre (byte_of s) s.majors s.minors (λ (i k : ℕ). 0) b a
cleared_lines s flat done = columns-pixels done (byte_of s) (λ (k : ℕ). k) (λ k h. h) (λ t h. refl) (λ i k h. row-by-row s flat i k)

module _ (s : Sweep) (sane : Sane s) (flat : s.pace ≡ 1) (b : List ℕ) where
  -- a line that goes c rows aside between columns i and j: the pixel that it goes on to, and that which it comes from
  module _ (i j c : ℕ) (aside : r s.run s.rise j ≡ r s.run s.rise i + c) (in' : j < s.majors) where
    falls : s.falling ≡ true → shift s j ≡ shift s i + c
    falls f = omega (arith, shift_falling s f i, shift_falling s f j, aside)

    rises : s.falling ≡ false → shift s i ≡ shift s j + c
    rises f =
        omega (arith, shift-rising s f i, shift-rising s f j, aside, sane.top, r-up s.run s.rise j (s.majors - 1) sane.moves (omega arith))

    goes_on : (f : Bool) → s.falling ≡ f → (k : ℕ) → k < s.minors
        → pixel_past (is_forth true f) s.minors s.sidestep b (row_at (is_forth true f) s.minors k) j c ≡ lane_at (shift s) (byte_of s) s.minors b (k + shift s i) j
    unfolding rows.row_at
    goes_on true f k l = lane-up s.minors s.sidestep b (shift s) (byte_of s) (row-by-row s flat) k i j c l (falls f)
    goes_on false f k l = lane-down s.minors s.sidestep b (shift s) (byte_of s) (row-by-row s flat) k i j c l (rises f)

    comes-from : (f : Bool) → s.falling ≡ f → (k : ℕ) → k < s.minors
        → pixel_past (is_forth false f) s.minors s.sidestep b (row_at (is_forth false f) s.minors k) i c ≡ lane_at (shift s) (byte_of s) s.minors b (k + shift s j) i
    unfolding rows.row_at
    comes-from true f k l = lane-down s.minors s.sidestep b (shift s) (byte_of s) (row-by-row s flat) k j i c l (falls f)
    comes-from false f k l = lane-up s.minors s.sidestep b (shift s) (byte_of s) (row-by-row s flat) k j i c l (rises f)

  module _ (m : List ℕ) (e d : ℕ) where
    met-line : (darker : Bool) (n : ℕ) → Bends s.run s.rise e d n m → (i k : ℕ) → i < s.majors → k < s.minors → cond darker 0 e ≤ i
        → cond darker e 0 + (i - cond darker 0 e) < s.majors → i - cond darker 0 e < n
        → pixel_by s (is_forth darker s.falling) m (row_at (is_forth darker s.falling) s.minors k) (cond darker e 0) d b (i - cond darker 0 e)
        ≡ lane_at (shift s) (byte_of s) s.minors b (k + shift s i) (cond darker e 0 + (i - cond darker 0 e))
    met-line true n marks i k l h from in' w =
        goes_on i (e + (i - 0)) (rows_on d m (i - 0))
        (ap (r s.run s.rise) (omega arith) ∙ marks (i - 0) w ∙ ap (λ (x : ℕ). r s.run s.rise x + rows_on d m (i - 0)) (omega arith)) in'
        s.falling refl k h
    met-line false n marks i k l h from in' w =
        comes-from (0 + (i - e)) i (rows_on d m (i - e))
        (ap (r s.run s.rise) (omega arith) ∙ marks (i - e) w ∙ ap (λ (x : ℕ). r s.run s.rise x + rows_on d m (i - e)) (omega arith)) l
        s.falling refl k h

    pub met-lines : (darker : Bool) {a : List ℕ} (light : ℕ) → Dark s light b → Bends s.run s.rise e d (light - cond darker e 0) m
        → RowsAre (row_start s (is_forth darker s.falling)) s.majors 0 s.minors
        (met_at darker s (is_forth darker s.falling) m (cond darker 0 e) (cond darker e 0) d b) b a
        → PixelsAre (byte_of s) s.majors s.minors (meeting darker s (cond darker 0 e) (cond darker e 0) b) b a
    unfolding partner
    met-lines darker {a} light dark marks done =
        pixels_as
        (columns-pixels done (byte_of s) (row_at forth s.minors) (row_less forth s.minors) (row-twice forth s.minors) (row-byte s flat forth))
        (meeting darker s here there b)
        (λ i k l n. ap₂ (op darker) (ap (λ (x : ℕ). get_or b x 0) (sym (row-byte s flat forth i k n))) (same i k l n))
      where
        forth : Bool
        forth = is_forth darker s.falling

        here : ℕ
        here = cond darker 0 e

        there : ℕ
        there = cond darker e 0

        same : (i k : ℕ) → i < s.majors → k < s.minors
            → partner s forth m here there d b (row_at forth s.minors k) i
            ≡ cond (paired s here there i) (lane_at (shift s) (byte_of s) s.minors b (k + shift s i) (there + (i - here))) 0
        same i k l n =
            ⊎_elim
            (λ w.
            paired_cases s here there i
            (λ (v : Bool).
            cond v (pixel_by s forth m (row_at forth s.minors k) there d b (i - here)) 0
            ≡ cond v (lane_at (shift s) (byte_of s) s.minors b (k + shift s i) (there + (i - here))) 0)
            (λ from in'. met-line darker (light - there) marks i k l n from in' (omega arith))
            (λ out. refl))
            (λ w.
            partner-dark s forth m here there d b (row_at forth s.minors k) light i (λ u x from. row-dark s flat forth light b dark u x zero-le) w
            ∙ sym (paired-dark s here there i light b dark (k + shift s i) w))
            (less_or_not (there + (i - here)) light)
