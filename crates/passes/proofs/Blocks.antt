-- A pass by blocks, in place, whatever its partners are: what it has yet to read is as it was where it began.
--   Goes up at near far n            a pass that goes upward where `up`, else downward, finds those from `near` on and those from `far` on as they were
--   goes_by, goes_straight           the way that a pass goes
--   last-at                          where the last block stands
--   straight-keeps, bent-keeps       partners in two rows that the pass does not change before it reads them
--   met-is                           what a turn makes of what it reads
--   met_ahead, met-behind            the same of what it finds, in terms of where the pass began: upward, and downward
--   met_block, met_block_before      a block of c pixels more, behind the others or before them
--   met-late, met_early              a block made in the course of a pass is as one made where it began: upward, and downward
--   met-last, met-first              a block stored over some of the others
--   met-more, met-ends               a row by blocks, either way: one more, and the last two, which overlap
-- Assumes nothing.
use mathlib.Core.Path.{◌≡◌, refl, sym, ap, ap₂, ◌∙◌}
use mathlib.Core.Bool.{Bool, true, false, cond}
use mathlib.Core.List.{List}
use mathlib.Core.Logic.{inl, ⊎_elim}
use Prim.Native.Nat.{ℕ, ◌+◌, ◌-◌, ◌*◌, ◌≤◌, ◌<◌}
use native.Mathlib.Nat.{le_refl}
use native.Mathlib.Omega.{arith}
use borrow.Author.Tests.{leb-true, leb-false}
use lib.Dec.{eqb, leb}
use lib.ListN.{get_or}
use Rattle.lists.specs.Stores.{Filled}
use Rattle.lists.proofs.Cases.{less_or_not}
use Rattle.lists.proofs.Stores.{filled_as, filled-start, filled_end, filled_join, filled_join_before}
use Rattle.passes.specs.Passes.{straight, bent, met, block_at, treated_from, treated_to, Ahead, Awaits, Outlasts, Keeps, Parted}

-- ---- partners

pub record Goes (up : Bool) (at near far n : ℕ) : Type 0 where
  pub upward : up ≡ true → Ahead at near n × Ahead at far n
  pub downward : up ≡ false → Ahead near at n × Ahead far at n

pub straight_awaits : (at from n : ℕ) → Ahead at from n → Awaits (straight from) at n
straight_awaits at from n q g a s t F j f low next here =
    ⊎_elim
    (λ behind. f.above (from + j) (omega arith))
    (λ before. f.below (from + j) (omega arith))
    q

pub straight_outlasts : (at from n : ℕ) → Ahead from at n → Outlasts (straight from) at n
straight_outlasts at from n q g a s t F j f high here =
    ⊎_elim
    (λ before. f.below (from + j) (omega arith))
    (λ after. f.above (from + j) (omega arith))
    q

bent-same : (m a g : List ℕ) (near far j : ℕ) → straight near a j ≡ straight near g j → straight far a j ≡ straight far g j → bent m near far a j ≡ bent m near far g j
unfolding bent
bent-same m a g near far j e f = ap₂ (λ (u v : ℕ). cond (eqb (get_or m j 0) 0) u v) e f

pub bent_awaits : (m : List ℕ) (at near far n : ℕ) → Ahead at near n → Ahead at far n → Awaits (bent m near far) at n
bent_awaits m at near far n p q g a s t F j f low next here =
    bent-same m a g near far j (straight_awaits at near n p g a s t F j f low next here) (straight_awaits at far n q g a s t F j f low next here)

pub bent_outlasts : (m : List ℕ) (at near far n : ℕ) → Ahead near at n → Ahead far at n → Outlasts (bent m near far) at n
bent_outlasts m at near far n p q g a s t F j f high here =
    bent-same m a g near far j (straight_outlasts at near n p g a s t F j f high here) (straight_outlasts at far n q g a s t F j f high here)

-- ---- a pass

module _ (op : ℕ → ℕ → ℕ) (partner : List ℕ → ℕ → ℕ) (at : ℕ) where
  pub met-is : (g : List ℕ) (j x : ℕ) → at + j ≡ x → op (get_or g (at + j) 0) (partner g j) ≡ met op partner at g x
  met-is g j x e =
      let there : j ≡ x - at = omega arith in
      ap₂ op (ap (λ (y : ℕ). get_or g y 0) e) (ap (λ (y : ℕ). partner g y) there)

  -- t was made of g at at + i, is stored there, and c bytes long
  module _ (g : List ℕ) {a b : List ℕ} (c : ℕ) (t : List ℕ) (i s : ℕ)
      (v : (k : ℕ) → k < c → get_or t k 0 ≡ op (get_or g (at + (i + k)) 0) (partner g (i + k)))
      (p : Filled a b s (s + c) (λ (k : ℕ). get_or t (k - s) 0)) (here : s ≡ at + i) where
    made : (x : ℕ) → s ≤ x → x < s + c → get_or b x 0 ≡ met op partner at g x
    made x l h =
        let e : at + (i + (x - s)) ≡ x = omega arith in
        p.within x l h ∙ v (x - s) (omega arith) ∙ met-is g (i + (x - s)) x e

    pub met-last : {mid n : ℕ} → Filled g a at mid (met op partner at g) → s ≤ mid → mid ≤ at + n → i + c ≡ n → Filled g b at (at + n) (met op partner at g)
    met-last {mid} {n} f low high end =
        record {
          same = p.same ∙ f.same;
          within = λ x l h. ⊎_elim (λ q. p.below x q ∙ f.within x l (omega arith)) (λ q. made x q (omega arith)) (less_or_not x s);
          below = λ x h. p.below x (omega arith) ∙ f.below x h;
          above = λ x h. p.above x (omega arith) ∙ f.above x (omega arith);
        }

    pub met-first : {mid n : ℕ} → Filled g a mid (at + n) (met op partner at g) → at ≤ mid → mid ≤ at + c → c ≤ n → i ≡ 0 → Filled g b at (at + n) (met op partner at g)
    met-first {mid} {n} f low high some start =
        record {
          same = p.same ∙ f.same;
          within = λ x l h. ⊎_elim (λ q. made x (omega arith) (omega arith)) (λ q. p.above x (omega arith) ∙ f.within x (omega arith) h) (less_or_not x (at + c));
          below = λ x h. p.below x (omega arith) ∙ f.below x (omega arith);
          above = λ x h. p.above x (omega arith) ∙ f.above x h;
        }

  -- ---- upward

  module _ (n : ℕ) (await : Awaits partner at n) where
    pub met_ahead : {g a : List ℕ} {s t : ℕ} {F : ℕ → ℕ} (x : ℕ) → Filled g a s t F → at ≤ s → s ≤ t → t ≤ x → x < at + n → met op partner at a x ≡ met op partner at g x
    met_ahead {g} {a} {s} {t} {F} x f low some next here =
        ap₂ op (f.above x next) (await g a s t F (x - at) f low (omega arith) (omega arith))

    -- the block t of c bytes, made at at + i when what is before it has been treated, is as one made where the pass began
    pub met-late : {g a : List ℕ} {s hi : ℕ} {F : ℕ → ℕ} (c : ℕ) (t : List ℕ) (i : ℕ) → Filled g a s hi F → at ≤ s → s ≤ hi → hi ≤ at + i → i + c ≤ n
        → ((k : ℕ) → k < c → get_or t k 0 ≡ op (get_or a (at + (i + k)) 0) (partner a (i + k)))
        → (k : ℕ) → k < c → get_or t k 0 ≡ op (get_or g (at + (i + k)) 0) (partner g (i + k))
    met-late {g} {a} c t i f low some next room v k h =
        v k h ∙ met-is a (i + k) (at + (i + k)) refl ∙ met_ahead (at + (i + k)) f low some (omega arith) (omega arith) ∙ sym (met-is g (i + k) (at + (i + k)) refl)

    -- t is the block of c bytes at at + i
    pub met_block : {g a b : List ℕ} (c : ℕ) (t : List ℕ) (i : ℕ) → Filled g a at (at + i) (met op partner at g) → i + c ≤ n
        → ((k : ℕ) → k < c → get_or t k 0 ≡ op (get_or a (at + (i + k)) 0) (partner a (i + k)))
        → Filled a b (at + i) (at + i + c) (λ (k : ℕ). get_or t (k - (at + i)) 0)
        → Filled g b at (at + (i + c)) (met op partner at g)
    met_block {g} {a} {b} c t i f room v p =
        filled_end
        (filled_join f
        (filled_as p (met op partner at g)
        (λ x l h.
        let e : at + (i + (x - (at + i))) ≡ x = omega arith in
        v (x - (at + i)) (omega arith) ∙ met-is a (i + (x - (at + i))) x e ∙ met_ahead x f (le_refl at) (omega arith) l (omega arith)))
        (omega arith) (omega arith))
        (omega arith)

  -- ---- downward

  module _ (n : ℕ) (outlast : Outlasts partner at n) where
    pub met-behind : {g a : List ℕ} {s t : ℕ} {F : ℕ → ℕ} (x : ℕ) → Filled g a s t F → t ≤ at + n → at ≤ x → x < s → met op partner at a x ≡ met op partner at g x
    met-behind {g} {a} {s} {t} {F} x f high low next = ap₂ op (f.below x next) (outlast g a s t F (x - at) f high (omega arith))

    -- the block t of c bytes, made at at + i when what is behind it has been treated, is as one made where the pass began
    pub met_early : {g a : List ℕ} {s hi : ℕ} {F : ℕ → ℕ} (c : ℕ) (t : List ℕ) (i : ℕ) → Filled g a s hi F → hi ≤ at + n → at + i + c ≤ s
        → ((k : ℕ) → k < c → get_or t k 0 ≡ op (get_or a (at + (i + k)) 0) (partner a (i + k)))
        → (k : ℕ) → k < c → get_or t k 0 ≡ op (get_or g (at + (i + k)) 0) (partner g (i + k))
    met_early {g} {a} c t i f high next v k h =
        v k h ∙ met-is a (i + k) (at + (i + k)) refl ∙ met-behind (at + (i + k)) f high (omega arith) (omega arith) ∙ sym (met-is g (i + k) (at + (i + k)) refl)

    -- t is the block of c bytes at at + i
    pub met_block_before : {g a b : List ℕ} {lo : ℕ} (c : ℕ) (t : List ℕ) (i : ℕ) → Filled g a lo (at + n) (met op partner at g) → lo ≡ at + i + c → lo ≤ at + n
        → ((k : ℕ) → k < c → get_or t k 0 ≡ op (get_or a (at + (i + k)) 0) (partner a (i + k)))
        → Filled a b (at + i) (at + i + c) (λ (k : ℕ). get_or t (k - (at + i)) 0)
        → Filled g b (at + i) (at + n) (met op partner at g)
    met_block_before {g} {a} {b} {lo} c t i f start room v p =
        filled_join_before f
        (filled_end
        (filled_as p (met op partner at g)
        (λ x l h.
        let e : at + (i + (x - (at + i))) ≡ x = omega arith in
        v (x - (at + i)) (omega arith) ∙ met-is a (i + (x - (at + i))) x e ∙ met-behind x f (le_refl (at + n)) (omega arith) (omega arith)))
        (sym start))
        (omega arith) room

-- ---- a row, either way

pub bent-keeps : {up : Bool} (m : List ℕ) {at near far n : ℕ} → Goes up at near far n → Keeps up (bent m near far) at n
bent-keeps m {at} {near} {far} {n} goes =
    record {
      upward = λ e. bent_awaits m at near far n (goes.upward e).0 (goes.upward e).1;
      downward = λ e. bent_outlasts m at near far n (goes.downward e).0 (goes.downward e).1;
    }

pub straight-keeps : {up : Bool} {at from n : ℕ} → Goes up at from from n → Keeps up (straight from) at n
straight-keeps {up} {at} {from} {n} goes =
    record {
      upward = λ e. straight_awaits at from n (goes.upward e).0;
      downward = λ e. straight_outlasts at from n (goes.downward e).0;
    }

pub goes_by : (at near far n : ℕ) → Parted at near far n → Goes (leb at near) at near far n
goes_by at near far n p =
    record {
      upward = λ e. let h = leb-true at near e in (inl h, ⊎_elim (λ q. q.1) (λ q. absurd (omega (arith, q.0, h))) p);
      downward = λ e. let h = leb-false at near e in (inl (omega (arith, h)), ⊎_elim (λ q. absurd (omega (arith, q.0, h))) (λ q. q.1) p);
    }

pub last-at : (n z : ℕ) (up : Bool) → z ≡ block_at n 0 up → 64 ≤ n → n - 64 - z ≡ cond up (n - 64) 0
last-at n z true e h = let x : z ≡ 64 * 0 = e in omega (arith, x)
last-at n z false e h = let x : z ≡ n - 64 * 0 - 64 = e in omega (arith, x)

pub goes_straight : (at from n : ℕ) → Goes (leb at from) at from from n
goes_straight at from n =
    record {
      upward = λ e. let h = leb-true at from e in (inl h, inl h);
      downward = λ e. let h = leb-false at from e in (inl (omega (arith, h)), inl (omega (arith, h)));
    }

module _ (op : ℕ → ℕ → ℕ) (partner : List ℕ → ℕ → ℕ) (at n : ℕ) where
  -- t is block k of the row, and stands at i
  pub met-more : (up : Bool) → Keeps up partner at n → {g a b : List ℕ} (t : List ℕ) (k i : ℕ) → i ≡ block_at n k up
      → Filled g a (at + treated_from n k up) (at + treated_to n k up) (met op partner at g) → 64 * k + 64 ≤ n
      → ((j : ℕ) → j < 64 → get_or t j 0 ≡ op (get_or a (at + (i + j)) 0) (partner a (i + j)))
      → Filled a b (at + i) (at + i + 64) (λ (x : ℕ). get_or t (x - (at + i)) 0)
      → Filled g b (at + treated_from n (k + 1) up) (at + treated_to n (k + 1) up) (met op partner at g)
  met-more true keeps t k i here f room v p =
      let e : i ≡ 64 * k = here in
      filled-start
      (filled_end (met_block op partner at n (keeps.upward refl) 64 t i (filled-start (filled_end f (omega (arith, e))) (omega arith)) (omega (arith, e)) v p) (omega (arith, e)))
      (omega arith)
  met-more false keeps t k i here f room v p =
      let e : i ≡ n - 64 * k - 64 = here in
      filled-start (met_block_before op partner at n (keeps.downward refl) 64 t i f (omega (arith, e)) (omega arith) v p) (omega (arith, e))

  -- s is block `count`, at i, and t the last, at j: both were made before either was stored
  pub met-ends : (up : Bool) → Keeps up partner at n → {g a b e : List ℕ} (s t : List ℕ) (count i j : ℕ) → i ≡ block_at n count up → j ≡ cond up (n - 64) 0
      → Filled g a (at + treated_from n count up) (at + treated_to n count up) (met op partner at g) → 64 * count + 64 ≤ n → n ≤ 64 * count + 128
      → ((k : ℕ) → k < 64 → get_or s k 0 ≡ op (get_or a (at + (i + k)) 0) (partner a (i + k)))
      → ((k : ℕ) → k < 64 → get_or t k 0 ≡ op (get_or a (at + (j + k)) 0) (partner a (j + k)))
      → Filled a b (at + i) (at + i + 64) (λ (x : ℕ). get_or s (x - (at + i)) 0)
      → Filled b e (at + j) (at + j + 64) (λ (x : ℕ). get_or t (x - (at + j)) 0)
      → Filled g e at (at + n) (met op partner at g)
  met-ends true keeps {g} {a} s t count i j here last f room near v w p q =
      let x : i ≡ 64 * count = here in
      let y : j ≡ n - 64 = last in
      let wait = keeps.upward refl in
      let done : Filled g a at (at + i) (met op partner at g) = filled-start (filled_end f (omega (arith, x))) (omega arith) in
      met-last op partner at g 64 t j (at + j) (met-late op partner at n wait 64 t j done (le_refl at) (omega arith) (omega (arith, x, y)) (omega (arith, y)) w) q refl
      (met_block op partner at n wait 64 s i done (omega (arith, x)) v p) (omega (arith, x, y)) (omega (arith, x)) (omega (arith, y))
  met-ends false keeps {g} {a} s t count i j here last f room near v w p q =
      let x : i ≡ n - 64 * count - 64 = here in
      let y : j ≡ 0 = last in
      let stay = keeps.downward refl in
      met-first op partner at g 64 t j (at + j) (met_early op partner at n stay 64 t j f (le_refl (at + n)) (omega (arith, x, y)) w) q refl
      (met_block_before op partner at n stay 64 s i f (omega (arith, x)) (omega arith) v p) (omega arith) (omega (arith, x)) (omega arith) y
