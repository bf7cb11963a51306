-- Line numbers are differences of two naturals: when two of them are equal, and which number a line's index has.
--   eq_z_true, eq_z-same                   what the test of two line numbers says
--   sub_shift, sub_inj, eq_z_sub           differences with the same distance, and with the same lower end
--   rising-is, falling_is                  a line's number by its sign
--   index_below, index_above, index_none   the index of a line's number; indexed has all three
-- Assumes nothing.
use mathlib.Core.Path.{◌≡◌, refl, sym, ap, ◌∙◌, subst}
use mathlib.Core.Bool.{Bool, true, false, false≢true}
use mathlib.Core.Logic.{◌⊎◌, inl, inr, ⊎_elim}
use Prim.Native.Nat.{ℕ, zero, suc, ◌+◌, ◌-◌, ◌≤◌, ◌<◌, zero-le}
use native.Mathlib.Omega.{arith}
use native.Mathlib.Nat.{one-mul}
use borrow.Author.Tests.{ltb-true, ltb-false, lt-ltb, le-ltb, eqb-true, eq-eqb}
use lib.Dec.{ltb, eqb}
use lib.IntN.{ℤ, pos, negsuc, neg_ℤ, sub_ℕ, ◌-ℤ◌, ◌*ℤ◌, pos-ne-negsuc}
use lib.Signed.{mag}
use Rattle.lists.proofs.Cases.{less_or_not}
use Rattle.frame.specs.Lines.{eq_z}

pub bool_iff : (a b : Bool) → (a ≡ true → b ≡ true) → (b ≡ true → a ≡ true) → a ≡ b
bool_iff true b f g = sym (f refl)
bool_iff false true f g = g refl
bool_iff false false f g = refl

pub eq_z_true : (a b : ℤ) → eq_z a b ≡ true → a ≡ b
eq_z_true (pos a) (pos b) e = ap pos (eqb-true a b e)
eq_z_true (pos a) (negsuc b) e = absurd (false≢true e)
eq_z_true (negsuc a) (pos b) e = absurd (false≢true e)
eq_z_true (negsuc a) (negsuc b) e = ap negsuc (eqb-true a b e)

pub eq_z-same : (a b : ℤ) → a ≡ b → eq_z a b ≡ true
eq_z-same a b e = subst (λ (c : ℤ). eq_z a c ≡ true) e (go a)
  where
    go : (a : ℤ) → eq_z a a ≡ true
    go (pos n) = eq-eqb n n refl
    go (negsuc n) = eq-eqb n n refl

-- ---- a − b of two naturals

sub_lt : (a b : ℕ) → a < b → sub_ℕ a b ≡ negsuc (b - suc a)
sub_lt a b h = rw (lt-ltb a b h)

sub_ge : (a b : ℕ) → b ≤ a → sub_ℕ a b ≡ pos (a - b)
sub_ge a b h = rw (le-ltb a b h)

pub sub_shift : (a b c e : ℕ) → a + e ≡ c + b → sub_ℕ a b ≡ sub_ℕ c e
sub_shift a b c e h = go (ltb a b) refl
  where
    go : (t : Bool) → ltb a b ≡ t → sub_ℕ a b ≡ sub_ℕ c e
    go true t =
        let l : a < b = ltb-true a b t in
        sub_lt a b l ∙ ap negsuc (omega arith) ∙ sym (sub_lt c e (omega arith))
    go false t =
        let l : b ≤ a = ltb-false a b t in
        sub_ge a b l ∙ ap pos (omega arith) ∙ sym (sub_ge c e (omega arith))

pub minus_is : (a b : ℕ) → pos a -ℤ pos b ≡ sub_ℕ a b
minus_is a zero = ap pos (omega arith) ∙ sym (sub_ge a 0 zero-le)
minus_is a (suc b) = refl

-- the integer, moved up by b
up : ℕ → ℤ → ℕ
up b (pos n) = n + b
up b (negsuc n) = b - suc n

up_sub : (a b : ℕ) → up b (sub_ℕ a b) ≡ a
unfolding up
up_sub a b = go (ltb a b) refl
  where
    go : (t : Bool) → ltb a b ≡ t → up b (sub_ℕ a b) ≡ a
    go true t =
        let l : a < b = ltb-true a b t in
        ap (up b) (sub_lt a b l) ∙ omega arith
    go false t =
        let l : b ≤ a = ltb-false a b t in
        ap (up b) (sub_ge a b l) ∙ omega arith

pub sub_inj : (a c b : ℕ) → sub_ℕ a b ≡ sub_ℕ c b → a ≡ c
sub_inj a c b e = sym (up_sub a b) ∙ ap (up b) e ∙ up_sub c b

pub eq_z_sub : (a c b : ℕ) → eq_z (sub_ℕ a b) (sub_ℕ c b) ≡ eqb a c
eq_z_sub a c b =
    bool_iff _ _ (λ e. eq-eqb a c (sub_inj a c b (eq_z_true _ _ e)))
    (λ e. eq_z-same _ _ (ap (λ (k : ℕ). sub_ℕ k b) (eqb-true a c e)))

-- the two signs of a line's number: y − (+1)·n and y − (−1)·n
pub rising-is : (y n : ℕ) → pos y -ℤ pos 1 *ℤ pos n ≡ sub_ℕ y n
rising-is y n = rw one-mul (minus_is y n)

pub falling_is : (y n : ℕ) → pos y -ℤ negsuc 0 *ℤ pos n ≡ sub_ℕ (y + n) 0
falling_is y n = rw one-mul (go n ∙ sym (sub_ge (y + n) 0 zero-le ∙ ap pos (omega arith)))
  where
    go : (n : ℕ) → pos y -ℤ neg_ℤ (pos n) ≡ pos (y + n)
    go zero = ap pos (omega arith)
    go (suc n) = refl

-- ---- the index of a line's number

pub index_below : (low n : ℕ) → suc n ≤ low → sub_ℕ (low - suc n) low ≡ negsuc n
index_below low n h = sub_lt (low - suc n) low (omega arith) ∙ ap negsuc (omega arith)

pub index_above : (low n : ℕ) → sub_ℕ (low + n) low ≡ pos n
index_above low n = sub_ge (low + n) low (omega arith) ∙ ap pos (omega arith)

pub index_none : (low n v : ℕ) → low < suc n → sub_ℕ v low ≡ negsuc n → ⊥
index_none low n v h e = go (ltb v low) refl
  where
    go : (t : Bool) → ltb v low ≡ t → ⊥
    go true t =
        let l : v < low = ltb-true v low t in
        let q : low - suc v ≡ n = ap mag (sym (sub_lt v low l) ∙ e) in
        omega arith
    go false t = pos-ne-negsuc (v - low) n (sym (sub_ge v low (ltb-false v low t)) ∙ e)

pub record Index (low : ℕ) (k : ℤ) : Type 0 where
  pub u : ℕ
  pub is : sub_ℕ u low ≡ k

pub indexed : (low : ℕ) (k : ℤ) → Index low k ⊎ ((v : ℕ) → sub_ℕ v low ≡ k → ⊥)
indexed low (pos n) = inl (record { u = low + n; is = index_above low n })
indexed low (negsuc n) = ⊎_elim (λ h. inr (λ v. index_none low n v h)) (λ h. inl (record { u = low - suc n; is = index_below low n h })) (less_or_not low (suc n))
