-- The rounding r: it starts at 0, ascends by at most one a step, and never passes its coordinate.
--   r_le, r-up, r-zero, r-step
--   reached                 so it reaches every number up to its last
--   small, div_up           a product's size, and division ascends
-- Assumes nothing.
use mathlib.Core.Path.{◌≡◌, refl, sym, ap, ◌∙◌}
use Prim.Native.Nat.{ℕ, zero, suc, ◌+◌, ◌*◌, ◌/◌, ◌≤◌, ◌<◌}
use native.Mathlib.Omega.{arith}
use native.Mathlib.Nat.{mul-le-mul, mul-le-mul_left, mul-le-mul_right, mul_assoc, mul_comm, add-mul, one-mul, div-lt_iff_lt-mul, le-div_iff_mul-le, div-mul-le_self, le_trans, zero-mul, mul-add, div-eq_of_lt, add-mul-div_right}
use native.Mathlib.Numerals.{add-one}
use mathlib.Core.Bool.{Bool, true, false}
use borrow.Author.Tests.{leb-true, leb-false}
use lib.Dec.{leb}
use Rattle.answer.specs.Limits.{longest, steepest}
use Rattle.frame.specs.Lines.{r}

-- 2·i·b at the sizes that an accepted call has
pub small : (i b : ℕ) → i ≤ longest → b ≤ steepest → 2 * i * b ≤ 2 * longest * steepest
small i b h k = mul-le-mul {n₁ = 2 * i} {m₁ = b} {n₂ = 2 * longest} {m₂ = steepest} (omega arith) k

times : (i a : ℕ) → (i + 1) * (2 * a) ≡ 2 * i * a + 2 * a
times i a =
    add-mul i 1 (2 * a) ∙ ap (λ (k : ℕ). k + 1 * (2 * a)) (sym (mul_assoc i 2 a) ∙ ap (λ (k : ℕ). k * a) (mul_comm i 2))
    ∙ ap (λ (k : ℕ). 2 * i * a + k) (one-mul (2 * a))

pub r_le : (a b i : ℕ) → 1 ≤ a → b ≤ a → r a b i ≤ i
unfolding r
r_le a b i h k =
    let l : 2 * i * b ≤ 2 * i * a = mul-le-mul_left (2 * i) k in
    let m : (2 * i * b + a) / (2 * a) < i + 1 = (div-lt_iff_lt-mul {k = 2 * a} {x = 2 * i * b + a} {y = i + 1} (omega arith)).1 (omega (arith, times i a)) in
    omega arith

pub div_up : (x y k : ℕ) → 0 < k → x ≤ y → x / k ≤ y / k
div_up x y k p h = (le-div_iff_mul-le p).1 (le_trans (div-mul-le_self x k) h)

pub r-up : (a b i j : ℕ) → 1 ≤ a → i ≤ j → r a b i ≤ r a b j
unfolding r
r-up a b i j h k =
    let l : 2 * i * b ≤ 2 * j * b = mul-le-mul_right b (mul-le-mul_left 2 k) in
    div_up (2 * i * b + a) (2 * j * b + a) (2 * a) (omega arith) (omega arith)

-- it starts at 0, and never skips a number
pub r-zero : (a b : ℕ) → 1 ≤ a → r a b 0 ≡ 0
unfolding r
r-zero a b h = rw zero-mul (div-eq_of_lt (omega arith))

pub r-step : (a b i : ℕ) → 1 ≤ a → b ≤ a → r a b (i + 1) ≤ r a b i + 1
unfolding r
r-step a b i h k =
    let e : 2 * (i + 1) * b ≡ 2 * i * b + 2 * b = ap (λ (n : ℕ). n * b) (mul-add 2 i 1) ∙ add-mul (2 * i) (2 * 1) b in
    let l : (2 * (i + 1) * b + a) / (2 * a) ≤ (2 * i * b + a + 1 * (2 * a)) / (2 * a) =
    div_up (2 * (i + 1) * b + a) (2 * i * b + a + 1 * (2 * a)) (2 * a) (omega arith) (omega (arith, e)) in
    omega (arith, l, add-mul-div_right (2 * i * b + a) 1 {z = 2 * a} (omega arith))

pub record At (f : ℕ → ℕ) (n v : ℕ) : Type 0 where
  pub i : ℕ
  pub below : i ≤ n
  pub is : f i ≡ v

-- a function that starts at 0 and never skips reaches each number up to its last
pub reached : (f : ℕ → ℕ) → f 0 ≡ 0 → ((i : ℕ) → f (i + 1) ≤ f i + 1) → (n v : ℕ) → v ≤ f n → At f n v
reached f z s zero v h = record { i = 0; below = omega arith; is = omega arith }
reached f z s (suc n) v h = go (reached f z s n v) (leb v (f n)) refl
  where
    go : (v ≤ f n → At f n v) → (t : Bool) → leb v (f n) ≡ t → At f (suc n) v
    go ih true e = let a = ih (leb-true v (f n) e) in record { i = a.i; below = omega (arith, a.below); is = a.is }
    go ih false e =
        let l = leb-false v (f n) e in
        let q : f (suc n) ≤ f n + 1 = rw (← add-one) (s n) in
        record { i = suc n; below = omega arith; is = omega arith }
