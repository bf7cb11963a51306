-- The darkest pixel of a window is below each of its pixels, and above whatever is below each of them; a value of a dilation or of an opening is above
-- each of the values that it is the greatest of, and below whatever is above each of them.
--   darkest_le, le_darkest
--   dilated-at_le, le_dilated-at
--   opened-at_le, le_opened-at
--   eroded-length, eroded-at, dilated-length, dilated-at, opened-length, opened-at    how many values each has, and which
-- Assumes nothing.
use mathlib.Core.Path.{◌≡◌, ap, ◌∙◌}
use mathlib.Core.Bool.{true, ◌&&◌}
use mathlib.Core.List.{List}
use Prim.Native.Nat.{ℕ, ◌+◌, ◌-◌, ◌≤◌, ◌<◌}
use native.Mathlib.Omega.{arith}
use lib.Dec.{leb, ltb}
use lib.ListN.{length, get_or, drop, length-take, length-drop}
use lib.Seq.{get_or-take, get_or-drop}
use borrow.Author.Tests.{leb-true, ltb-true, le-leb, lt-ltb}
use Rattle.lists.proofs.Cases.{both, both_left, both_right}
use Rattle.lists.proofs.Tables.{length-table, get_d_table}
use Rattle.lists.proofs.Extremes.{least_le, le_least, le_those, those_le}
use Rattle.line.specs.Windows.{window, darkest, holds, on_line, eroded, eroded_count, dilated, dilated_count, dilated_at, opened, opened_at}

-- ---- a window

length-window : (f : List ℕ) (i L : ℕ) → i + L ≤ length f → length (window f i L) ≡ L
length-window f i L h = simp (length-take, length-drop) (omega arith)

get_d_window : (f : List ℕ) (i L j : ℕ) → j < L → get_or (window f i L) j 0 ≡ get_or f (i + j) 0
get_d_window f i L j h = get_or-take L (drop i f) j 0 h ∙ get_or-drop i f j 0

pub darkest_le : (f : List ℕ) (i L j : ℕ) → i + L ≤ length f → i ≤ j → j < i + L → darkest f i L ≤ get_or f j 0
darkest_le f i L j fit lo hi =
    let e : i + (j - i) ≡ j = omega arith in
    let p : get_or (window f i L) (j - i) 0 ≡ get_or f j 0 = get_d_window f i L (j - i) (omega arith) ∙ ap (λ (m : ℕ). get_or f m 0) e in
    rw (← p) (least_le (window f i L) (j - i) (omega (arith, length-window f i L fit)))

pub le_darkest : (f : List ℕ) (i L k : ℕ) → 0 < L → i + L ≤ length f → ((j : ℕ) → i ≤ j → j < i + L → k ≤ get_or f j 0) → k ≤ darkest f i L
le_darkest f i L k some fit a =
    let n : length (window f i L) ≡ L = length-window f i L fit in
    le_least k (window f i L) (omega arith)
    (λ j l. let m : j < L = omega arith in rw (get_d_window f i L j m) (a (i + j) (omega arith) (omega arith)))

-- ---- a window holds a pixel

holding : (L i x : ℕ) → i ≤ x → x < i + L → holds L i x ≡ true
holding L i x lo hi = both (leb i x) (ltb x (i + L)) (le-leb i x lo) (lt-ltb x (i + L) hi)

held-from : (L i x : ℕ) → holds L i x ≡ true → i ≤ x
held-from L i x e = leb-true i x (both_left (leb i x) (ltb x (i + L)) e)

held_below : (L i x : ℕ) → holds L i x ≡ true → x < i + L
held_below L i x e = ltb-true x (i + L) (both_right (leb i x) (ltb x (i + L)) e)

-- ---- a value of a dilation, and of an opening

pub le_dilated-at : (e : List ℕ) (L x i : ℕ) → i < length e → i ≤ x → x < i + L → get_or e i 0 ≤ dilated_at e L x
le_dilated-at e L x i h lo hi = le_those (λ (i : ℕ). holds L i x) (λ (i : ℕ). get_or e i 0) (length e) i h (holding L i x lo hi)

pub dilated-at_le : (e : List ℕ) (L x k : ℕ) → ((i : ℕ) → i < length e → i ≤ x → x < i + L → get_or e i 0 ≤ k) → dilated_at e L x ≤ k
dilated-at_le e L x k a =
    those_le (λ (i : ℕ). holds L i x) (λ (i : ℕ). get_or e i 0) (length e) k
    (λ i h t. a i h (held-from L i x t) (held_below L i x t))

pub le_opened-at : (f : List ℕ) (L x i : ℕ) → i < length f → i + L ≤ length f → i ≤ x → x < i + L → darkest f i L ≤ opened_at f L x
le_opened-at f L x i h fit lo hi =
    le_those (λ (i : ℕ). on_line (length f) L i && holds L i x) (λ (i : ℕ). darkest f i L) (length f) i h
    (both (on_line (length f) L i) (holds L i x) (le-leb (i + L) (length f) fit) (holding L i x lo hi))

pub opened-at_le : (f : List ℕ) (L x k : ℕ) → ((i : ℕ) → i + L ≤ length f → i ≤ x → x < i + L → darkest f i L ≤ k) → opened_at f L x ≤ k
opened-at_le f L x k a =
    those_le (λ (i : ℕ). on_line (length f) L i && holds L i x) (λ (i : ℕ). darkest f i L) (length f) k
    (λ i h t.
    let on : on_line (length f) L i ≡ true = both_left (on_line (length f) L i) (holds L i x) t in
    let held : holds L i x ≡ true = both_right (on_line (length f) L i) (holds L i x) t in
    a i (leb-true (i + L) (length f) on) (held-from L i x held) (held_below L i x held))

-- ---- lengths and values

pub eroded-length : (f : List ℕ) (L : ℕ) → length (eroded f L) ≡ eroded_count (length f) L
unfolding eroded
eroded-length f L = length-table (λ (i : ℕ). darkest f i L) (eroded_count (length f) L)

pub eroded-at : (f : List ℕ) (L i : ℕ) → i < eroded_count (length f) L → get_or (eroded f L) i 0 ≡ darkest f i L
unfolding eroded
eroded-at f L i h = get_d_table 0 (λ (i : ℕ). darkest f i L) (eroded_count (length f) L) i h

pub dilated-length : (e : List ℕ) (L : ℕ) → length (dilated e L) ≡ dilated_count (length e) L
unfolding dilated
dilated-length e L = length-table (λ (x : ℕ). dilated_at e L x) (dilated_count (length e) L)

pub dilated-at : (e : List ℕ) (L x : ℕ) → x < dilated_count (length e) L → get_or (dilated e L) x 0 ≡ dilated_at e L x
unfolding dilated
dilated-at e L x h = get_d_table 0 (λ (x : ℕ). dilated_at e L x) (dilated_count (length e) L) x h

pub opened-length : (f : List ℕ) (L : ℕ) → length (opened f L) ≡ length f
unfolding opened
opened-length f L = length-table (λ (x : ℕ). opened_at f L x) (length f)

pub opened-at : (f : List ℕ) (L x : ℕ) → x < length f → get_or (opened f L) x 0 ≡ opened_at f L x
unfolding opened
opened-at f L x h = get_d_table 0 (λ (x : ℕ). opened_at f L x) (length f) x h
