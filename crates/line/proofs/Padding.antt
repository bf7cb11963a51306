-- Zeros before and behind a line do not change its opening.
--   opened_inner                        as an index law, for a line that stands somewhere in a longer one
--   opened-padded                       as an equation
-- Assumes nothing.
use mathlib.Core.Path.{◌≡◌, sym, ap, ◌∙◌}
use mathlib.Core.List.{List, ◌++◌}
use mathlib.Core.Logic.{⊎_elim}
use Prim.Native.Nat.{ℕ, ◌+◌, ◌-◌, ◌≤◌, ◌<◌, zero-le}
use native.Mathlib.Nat.{le_trans, le_antisymm}
use native.Mathlib.Omega.{arith}
use lib.ListN.{length, get_or, replicate, length-append, length-replicate, get_or-replicate, get_or-append, get_or-eq_default}
use lib.Seq.{ext_get_or, get_or-append-add}
use Rattle.lists.proofs.Cases.{less_or_not}
use Rattle.line.specs.Windows.{darkest, opened, opened_at}
use Rattle.line.proofs.Windows.{darkest_le, le_darkest, le_opened-at, opened-at_le, opened-length, opened-at}

-- a window that holds a zero, and a pixel that is one
darkest-zero : (g : List ℕ) (i L j : ℕ) → i + L ≤ length g → i ≤ j → j < i + L → get_or g j 0 ≡ 0 → darkest g i L ≤ 0
darkest-zero g i L j fit lo hi z = rw z at (darkest_le g i L j fit lo hi)

opened-outer : (g : List ℕ) (L x : ℕ) → x < length g → get_or g x 0 ≡ 0 → get_or (opened g L) x 0 ≡ 0
opened-outer g L x h z = opened-at g L x h ∙ le_antisymm (opened-at_le g L x 0 (λ i fit lo hi. darkest-zero g i L x fit lo hi z)) zero-le

-- a line f in a longer line g, from a on, with zeros around it
module _ (g f : List ℕ) (a : ℕ) (fits : a + length f ≤ length g) (inner : (i : ℕ) → i < length f → get_or g (a + i) 0 ≡ get_or f i 0)
    (before : (i : ℕ) → i < a → get_or g i 0 ≡ 0) (behind : (i : ℕ) → a + length f ≤ i → get_or g i 0 ≡ 0) where
  darkest_inner : (i L : ℕ) → 0 < L → i + L ≤ length f → darkest g (a + i) L ≡ darkest f i L
  darkest_inner i L some fit =
      le_antisymm
      (le_darkest f i L (darkest g (a + i) L) some fit
      (λ j lo hi. rw (← inner j (omega arith)) (darkest_le g (a + i) L (a + j) (omega arith) (omega arith) (omega arith))))
      (le_darkest g (a + i) L (darkest f i L) some (omega arith)
      (λ j lo hi.
      let e : a + (j - a) ≡ j = omega arith in
      let q : get_or g j 0 ≡ get_or f (j - a) 0 = ap (λ (x : ℕ). get_or g x 0) (sym e) ∙ inner (j - a) (omega arith) in
      rw q (darkest_le f i L (j - a) fit (omega arith) (omega arith))))

  pub opened_inner : (L x : ℕ) → 0 < L → x < length f → get_or (opened g L) (a + x) 0 ≡ get_or (opened f L) x 0
  opened_inner L x some h =
      opened-at g L (a + x) (omega arith)
      ∙ le_antisymm
      (opened-at_le g L (a + x) (opened_at f L x)
      (λ i fit lo hi.
      ⊎_elim
      (λ q. le_trans (darkest-zero g i L i fit (omega arith) (omega arith) (before i q)) zero-le)
      (λ q.
      ⊎_elim
      (λ r. le_trans (darkest-zero g i L (i + L - 1) fit (omega arith) (omega arith) (behind (i + L - 1) (omega arith))) zero-le)
      (λ r.
      let e : a + (i - a) ≡ i = omega arith in
      let p : darkest g i L ≡ darkest f (i - a) L = ap (λ (y : ℕ). darkest g y L) (sym e) ∙ darkest_inner (i - a) L some (omega arith) in
      rw p (le_opened-at f L x (i - a) (omega arith) (omega arith) (omega arith) (omega arith)))
      (less_or_not (a + length f) (i + L)))
      (less_or_not i a)))
      (opened-at_le f L x (opened_at g L (a + x))
      (λ i fit lo hi.
      rw (← darkest_inner i L some fit) (le_opened-at g L (a + x) (a + i) (omega arith) (omega arith) (omega arith) (omega arith))))
      ∙ sym (opened-at f L x h)

abbrev zeros : ℕ → List ℕ
zeros n = replicate n 0

zeros-length : (n : ℕ) → length (zeros n) ≡ n
zeros-length n = length-replicate n 0

zeros-at : (n k : ℕ) → get_or (zeros n) k 0 ≡ 0
zeros-at n k =
    ⊎_elim
    (λ q. get_or-replicate n k 0 0 q)
    (λ q. get_or-eq_default (zeros n) 0 (omega (arith, zeros-length n)))
    (less_or_not k n)

-- the line with a zeros before it and b behind it
abbrev pub padded : ℕ → List ℕ → ℕ → List ℕ
padded a f b = zeros a ++ (f ++ zeros b)

module _ (a : ℕ) (f : List ℕ) (b : ℕ) where
  padded-length : length (padded a f b) ≡ a + length f + b
  padded-length = length-append (zeros a) (f ++ zeros b) ∙ omega (arith, length-append f (zeros b), zeros-length a, zeros-length b)

  padded-from : (i : ℕ) → get_or (padded a f b) (a + i) 0 ≡ get_or (f ++ zeros b) i 0
  padded-from i = rw zeros-length at (get_or-append-add (zeros a) (f ++ zeros b) i 0)

  pub padded_inner : (i : ℕ) → i < length f → get_or (padded a f b) (a + i) 0 ≡ get_or f i 0
  padded_inner i h = padded-from i ∙ get_or-append f (zeros b) 0 i h

  pub padded-before : (i : ℕ) → i < a → get_or (padded a f b) i 0 ≡ 0
  padded-before i h = get_or-append (zeros a) (f ++ zeros b) 0 i (omega (arith, zeros-length a)) ∙ zeros-at a i

  pub padded-behind : (i : ℕ) → a + length f ≤ i → get_or (padded a f b) i 0 ≡ 0
  padded-behind i h =
      let e : a + (length f + (i - a - length f)) ≡ i = omega arith in
      ap (λ (x : ℕ). get_or (padded a f b) x 0) (sym e)
      ∙ padded-from (length f + (i - a - length f))
      ∙ get_or-append-add f (zeros b) (i - a - length f) 0
      ∙ zeros-at b (i - a - length f)

-- the opening of the padded line is the padded opening
pub opened-padded : (a : ℕ) (f : List ℕ) (b L : ℕ) → 0 < L → opened (padded a f b) L ≡ padded a (opened f L) b
opened-padded a f b L some =
    let ng : length (padded a f b) ≡ a + length f + b = padded-length a f b in
    let nf : length (opened f L) ≡ length f = opened-length f L in
    let no' : length (opened (padded a f b) L) ≡ length (padded a f b) = opened-length (padded a f b) L in
    ext_get_or 0 (opened (padded a f b) L) (padded a (opened f L) b) (no' ∙ omega (arith, padded-length a (opened f L) b))
    (λ x h.
    ⊎_elim
    (λ before. dark x (omega arith) (padded-before a f b x before) ∙ sym (padded-before a (opened f L) b x before))
    (λ from.
    ⊎_elim
    (λ in'.
    let e : a + (x - a) ≡ x = omega arith in
    ap (λ (y : ℕ). get_or (opened (padded a f b) L) y 0) (sym e)
    ∙ opened_inner (padded a f b) f a (omega arith) (padded_inner a f b) (padded-before a f b) (padded-behind a f b) L (x - a) some (omega arith)
    ∙ sym (padded_inner a (opened f L) b (x - a) (omega arith))
    ∙ ap (λ (y : ℕ). get_or (padded a (opened f L) b) y 0) e)
    (λ behind. dark x (omega arith) (padded-behind a f b x behind) ∙ sym (padded-behind a (opened f L) b x (omega arith)))
    (less_or_not x (a + length f)))
    (less_or_not x a))
  where
    dark : (x : ℕ) → x < length (padded a f b) → get_or (padded a f b) x 0 ≡ 0 → get_or (opened (padded a f b) L) x 0 ≡ 0
    dark = opened-outer (padded a f b) L
