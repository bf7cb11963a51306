-- From windows of w pixels to windows of w + s, and from erosion and dilation to the opening.
--   darkest-one, darkest_cover      a window of one pixel; a window that two windows cover
--   eroded-front-one, eroded-front-more      the passes of an erosion
--   dilated-at-longer               a value of a dilation by longer windows
--   dilated-at_join                 the same by two windows, one behind the other
--   dilated-at-all, dilated-at-none windows that hold all values up to there, and windows that hold none
--   dilated-front-one, dilated-front-more    the passes of a dilation
--   opened-by                       an opening by its values
--   eroded-passes, dilated-passes, opened-passes    what the passes of each leave
--   opened-at-eroded                a value of the opening is that of the dilation of the erosion
-- Assumes nothing.
use mathlib.Core.Path.{◌≡◌, sym, ◌∙◌}
use mathlib.Core.List.{List}
use mathlib.Core.Logic.{⊎_elim}
use Prim.Native.Nat.{ℕ, ◌+◌, ◌-◌, ◌≤◌, ◌<◌, min, max, zero-le}
use native.Mathlib.Nat.{le_refl, le_trans, le_antisymm, min-le_left, min-le_right, le-min, le-max_left, le-max_right, max-le}
use native.Mathlib.Omega.{arith}
use lib.ListN.{length, get_or, get_or-eq_default}
use Rattle.lists.specs.Stores.{Filled}
use Rattle.lists.proofs.Cases.{less_or_not}
use Rattle.lists.proofs.Tables.{table-by}
use Rattle.lists.proofs.Stores.{filled_copy}
use Rattle.line.specs.Windows.{darkest, eroded, eroded_count, dilated, dilated_count, dilated_at, opened, opened_at}
use Rattle.line.specs.Passes.{narrowed, widened, ErodedFront, DilatedFront}
use Rattle.line.proofs.Windows.{darkest_le, le_darkest, le_dilated-at, dilated-at_le, le_opened-at, opened-at_le}

-- ---- erosion

pub darkest-one : (f : List ℕ) (i : ℕ) → i + 1 ≤ length f → darkest f i 1 ≡ get_or f i 0
darkest-one f i h =
    le_antisymm (darkest_le f i 1 i h (omega arith) (omega arith))
    (le_darkest f i 1 (get_or f i 0) (omega arith) h
    (λ j lo hi. let e : i ≡ j = omega arith in rw e (le_refl (get_or f j 0))))

-- the two windows meet or overlap
pub darkest_cover : (f : List ℕ) (i u j v w : ℕ) → 0 < u → 0 < v → i ≤ j → j ≤ i + u → i + u ≤ j + v → j + v ≡ i + w → i + w ≤ length f
    → darkest f i w ≡ min (darkest f i u) (darkest f j v)
darkest_cover f i u j v w pu pv lo meet hi e fit =
    le_antisymm
    (le-min
    (le_darkest f i u (darkest f i w) pu (omega arith) (λ k l h. darkest_le f i w k fit l (omega arith)))
    (le_darkest f j v (darkest f i w) pv (omega arith) (λ k l h. darkest_le f i w k fit (omega arith) (omega arith))))
    (le_darkest f i w (min (darkest f i u) (darkest f j v)) (omega arith) fit
    (λ k l h.
    ⊎_elim
    (λ q. le_trans (min-le_left (darkest f i u) (darkest f j v)) (darkest_le f i u k (omega arith) l q))
    (λ q. le_trans (min-le_right (darkest f i u) (darkest f j v)) (darkest_le f j v k (omega arith) (omega arith) (omega arith)))
    (less_or_not k (i + u))))

pub eroded-front-one : (f : List ℕ) → ErodedFront f 1 f
eroded-front-one f = record { at = λ i h. sym (darkest-one f i h) }

pub eroded-front-more : {f a d b : List ℕ} {w s m : ℕ} → ErodedFront f w a → Filled d b 0 m (narrowed a s)
    → 0 < w → s ≤ w → length f + 1 ≤ m + (w + s) → ErodedFront f (w + s) b
eroded-front-more {f} {a} {d} {b} {w} {s} {m} e p some small room =
    record {
      at = λ i h.
          p.within i zero-le (omega arith)
          ∙ rw (e.at i (omega arith), e.at (i + s) (omega arith))
          (sym (darkest_cover f i w (i + s) w (w + s) some some (omega arith) (omega arith) (omega arith) (omega arith) h));
    }

-- a copy, its erosion, and the values of that
pub eroded-passes : {d a e x y : List ℕ} (f : List ℕ) {L m n : ℕ} → Filled d a 0 m (λ (k : ℕ). get_or f k 0) → ErodedFront a L e → Filled x y 0 n (λ (k : ℕ). get_or e k 0)
    → m ≡ length f → length d ≡ length f → n ≡ length x → length x ≡ eroded_count (length f) L → y ≡ eroded f L
unfolding eroded
eroded-passes {d} {a} {e} {x} {y} f {L} {m} {n} copy er back mf df nx count =
    let same : a ≡ f = filled_copy f copy mf df in
    table-by 0 y (λ (i : ℕ). darkest f i L) (eroded_count (length f) L) (back.same ∙ count)
    (λ i l. back.within i zero-le (omega arith) ∙ (rw same at er).at i (omega arith))

-- ---- dilation

pub dilated-at-one : (e : List ℕ) (x : ℕ) → x < length e → dilated_at e 1 x ≡ get_or e x 0
dilated-at-one e x h =
    le_antisymm
    (dilated-at_le e 1 x (get_or e x 0) (λ i l lo hi. let q : i ≡ x = omega arith in rw q (le_refl (get_or e x 0))))
    (le_dilated-at e 1 x x h (le_refl x) (omega arith))

-- the first s values stay as they are
pub dilated-at-front : (e : List ℕ) (w s x : ℕ) → s ≤ w → x < s → dilated_at e (w + s) x ≡ dilated_at e w x
dilated-at-front e w s x small near =
    le_antisymm
    (dilated-at_le e (w + s) x (dilated_at e w x) (λ i l lo hi. le_dilated-at e w x i l lo (omega arith)))
    (dilated-at_le e w x (dilated_at e (w + s) x) (λ i l lo hi. le_dilated-at e (w + s) x i l lo (omega arith)))

pub dilated-at-longer : (e : List ℕ) (w s x : ℕ) → s ≤ w → s ≤ x → dilated_at e (w + s) x ≡ max (dilated_at e w x) (dilated_at e w (x - s))
dilated-at-longer e w s x small far =
    le_antisymm
    (dilated-at_le e (w + s) x (max (dilated_at e w x) (dilated_at e w (x - s)))
    (λ i l lo hi.
    ⊎_elim
    (λ q. le_trans (le_dilated-at e w x i l lo q) (le-max_left (dilated_at e w x) (dilated_at e w (x - s))))
    (λ q. le_trans (le_dilated-at e w (x - s) i l (omega arith) (omega arith)) (le-max_right (dilated_at e w x) (dilated_at e w (x - s))))
    (less_or_not x (i + w))))
    (max-le
    (dilated-at_le e w x (dilated_at e (w + s) x) (λ i l lo hi. le_dilated-at e (w + s) x i l lo (omega arith)))
    (dilated-at_le e w (x - s) (dilated_at e (w + s) x) (λ i l lo hi. le_dilated-at e (w + s) x i l (omega arith) (omega arith))))

-- two windows, one behind the other
pub dilated-at_join : (e : List ℕ) (v w x : ℕ) → v ≤ x → dilated_at e (v + w) x ≡ max (dilated_at e v x) (dilated_at e w (x - v))
dilated-at_join e v w x far =
    le_antisymm
    (dilated-at_le e (v + w) x (max (dilated_at e v x) (dilated_at e w (x - v)))
    (λ i l lo hi.
    ⊎_elim
    (λ q. le_trans (le_dilated-at e v x i l lo q) (le-max_left (dilated_at e v x) (dilated_at e w (x - v))))
    (λ q. le_trans (le_dilated-at e w (x - v) i l (omega arith) (omega arith)) (le-max_right (dilated_at e v x) (dilated_at e w (x - v))))
    (less_or_not x (i + v))))
    (max-le
    (dilated-at_le e v x (dilated_at e (v + w) x) (λ i l lo hi. le_dilated-at e (v + w) x i l lo (omega arith)))
    (dilated-at_le e w (x - v) (dilated_at e (v + w) x) (λ i l lo hi. le_dilated-at e (v + w) x i l (omega arith) (omega arith))))

-- windows that hold all values up to x
pub dilated-at-all : (e : List ℕ) (v w x : ℕ) → x < v → x < w → dilated_at e v x ≡ dilated_at e w x
dilated-at-all e v w x all₁ all₂ =
    le_antisymm
    (dilated-at_le e v x (dilated_at e w x) (λ i l lo hi. le_dilated-at e w x i l lo (omega arith)))
    (dilated-at_le e w x (dilated_at e v x) (λ i l lo hi. le_dilated-at e v x i l lo (omega arith)))

pub dilated-at-none : (e : List ℕ) (x : ℕ) → dilated_at e 0 x ≡ 0
dilated-at-none e x = le_antisymm (dilated-at_le e 0 x 0 (λ i l lo hi. absurd (omega arith))) zero-le

pub dilated-front-one : (e : List ℕ) → DilatedFront e 1 e
dilated-front-one e = record { at = λ x h. sym (dilated-at-one e x h) }

pub dilated-front-more : {e a b : List ℕ} {w s hi : ℕ} → DilatedFront e w a → Filled a b s hi (widened a s) → s ≤ w → length e ≤ hi
    → DilatedFront e (w + s) b
dilated-front-more {e} {a} {b} {w} {s} {hi} g p small room =
    record {
      at = λ x h.
          ⊎_elim
          (λ near. p.below x near ∙ g.at x h ∙ sym (dilated-at-front e w s x small near))
          (λ far. p.within x far (omega arith) ∙ rw (g.at x h, g.at (x - s) (omega arith)) (sym (dilated-at-longer e w s x small far)))
          (less_or_not x s);
    }

-- zeros behind a list change none of its dilation's values
dilated-at-padded : (e z : List ℕ) (L x : ℕ) → length e ≤ length z → ((i : ℕ) → i < length e → get_or z i 0 ≡ get_or e i 0)
    → ((i : ℕ) → length e ≤ i → get_or z i 0 ≡ 0) → dilated_at z L x ≡ dilated_at e L x
dilated-at-padded e z L x room value rest =
    le_antisymm
    (dilated-at_le z L x (dilated_at e L x)
    (λ i l lo hi.
    ⊎_elim
    (λ q. rw (value i q) (le_dilated-at e L x i q lo hi))
    (λ q. rw (rest i q) zero-le)
    (less_or_not i (length e))))
    (dilated-at_le e L x (dilated_at z L x) (λ i l lo hi. rw (← value i l) (le_dilated-at z L x i (omega arith) lo hi)))

-- a copy, zeros behind it, and the dilation of that
pub dilated-passes : {d a z g : List ℕ} (e : List ℕ) {L m hi : ℕ} → Filled d a 0 m (λ (k : ℕ). get_or e k 0) → Filled a z m hi (λ (k : ℕ). 0) → DilatedFront z L g
    → m ≡ length e → hi ≡ length a → 0 < L → length a ≡ dilated_count (length e) L → length g ≡ length a → g ≡ dilated e L
unfolding dilated
dilated-passes {d} {a} {z} {g} e {L} {m} {hi} copy clear di me ha some na ng =
    let nz : length z ≡ length a = clear.same in
    table-by 0 g (λ (x : ℕ). dilated_at e L x) (dilated_count (length e) L) (ng ∙ na)
    (λ x h.
    di.at x (omega arith)
    ∙ dilated-at-padded e z L x (omega arith)
    (λ i l. clear.below i (omega arith) ∙ copy.within i zero-le (omega arith))
    (λ i l.
    ⊎_elim
    (λ near. clear.within i (omega arith) near)
    (λ far. get_or-eq_default z 0 (omega arith))
    (less_or_not i hi)))

-- ---- opening

pub opened-by : (f a : List ℕ) (L : ℕ) → length a ≡ length f → ((x : ℕ) → x < length f → get_or a x 0 ≡ opened_at f L x) → a ≡ opened f L
unfolding opened
opened-by f a L n h = table-by 0 a (λ (x : ℕ). opened_at f L x) (length f) n h

pub opened-at-short : (f : List ℕ) (L x : ℕ) → length f < L → opened_at f L x ≡ 0
opened-at-short f L x short = le_antisymm (opened-at_le f L x 0 (λ i fit lo hi. omega arith)) zero-le

-- e holds the erosion of f, and zeros where it is longer
pub opened-at-eroded : (f e : List ℕ) (L x : ℕ) → 0 < L → ((i : ℕ) → i + L ≤ length f → i < length e) → ((i : ℕ) → i + L ≤ length f → get_or e i 0 ≡ darkest f i L)
    → ((i : ℕ) → length f < i + L → get_or e i 0 ≡ 0) → dilated_at e L x ≡ opened_at f L x
opened-at-eroded f e L x some room value rest =
    le_antisymm
    (dilated-at_le e L x (opened_at f L x)
    (λ i l lo hi.
    ⊎_elim
    (λ q. rw (rest i q) zero-le)
    (λ q. rw (value i q) (le_opened-at f L x i (omega arith) q lo hi))
    (less_or_not (length f) (i + L))))
    (opened-at_le f L x (dilated_at e L x)
    (λ i fit lo hi. rw (← value i fit) (le_dilated-at e L x i (room i fit) lo hi)))

-- all zeros, where the line is too short
pub opened-short : {d a : List ℕ} (f : List ℕ) (L : ℕ) → length d ≡ length f → length f < L → Filled d a 0 (length d) (λ (k : ℕ). 0) → a ≡ opened f L
opened-short {d} {a} f L n short z =
    opened-by f a L (z.same ∙ n) (λ x h. z.within x zero-le (omega arith) ∙ sym (opened-at-short f L x short))

-- the erosion, zeros past its values, and the dilation of that
pub opened-passes : {e z g : List ℕ} (f : List ℕ) (L : ℕ) → ErodedFront f L e → Filled e z (length f - L + 1) (length e) (λ (k : ℕ). 0) → DilatedFront z L g
    → 0 < L → L ≤ length f → length e ≡ length f → length g ≡ length f → g ≡ opened f L
opened-passes {e} {z} {g} f L er clear di some fit ne ng =
    let nz : length z ≡ length e = clear.same in
    opened-by f g L ng
    (λ x h.
    di.at x (omega arith)
    ∙ opened-at-eroded f z L x some
    (λ i q. omega arith)
    (λ i q. clear.below i (omega arith) ∙ er.at i q)
    (λ i q.
    ⊎_elim
    (λ near. clear.within i (omega arith) near)
    (λ far. get_or-eq_default z 0 (omega arith))
    (less_or_not i (length e))))
