-- The decimal text of a number.
--   decimal-one      a number below ten
--   decimal-more     a number from ten on: its text without the last digit, and the last digit
--   decimal-length   the same for how long the text is
--   decimal-some     each number has a digit
--   decimal-most     no 64-bit number has more than 20 digits
-- Assumes nothing.
use mathlib.Core.Path.{◌≡◌, sym, ◌∙◌, ap, subst}
use mathlib.Core.Bool.{cond}
use mathlib.Core.List.{List, [], ◌∷◌, ◌++◌}
use mathlib.Core.Logic.{⊎_elim}
use Prim.Native.Nat.{ℕ, zero, suc, ◌+◌, ◌/◌, ◌%◌, ◌^◌, ◌≤◌, ◌<◌, zero-le}
use native.Mathlib.Nat.{pow-suc, div-lt_iff_lt-mul}
use native.Mathlib.Omega.{arith}
use lib.Dec.{lit<, ltb}
use lib.ListN.{length, length-append}
use borrow.Author.Tests.{lt-ltb, le-ltb}
use Rattle.lists.proofs.Cases.{less_or_not}
use Rattle.text.specs.Decimal.{digits, decimal}

-- the two cases of the last digit
last : (k n : ℕ) → n < 10 → digits (suc k) n ≡ (48 + n % 10) ∷ []
unfolding digits
last k n h = simp (lt-ltb _ _ h)

before_last : (k n : ℕ) → 10 ≤ n → digits (suc k) n ≡ digits k (n / 10) ++ ((48 + n % 10) ∷ [])
unfolding digits
before_last k n h = simp (le-ltb _ _ h)

pub decimal-one : (n : ℕ) → n < 10 → decimal n ≡ (48 + n) ∷ []
decimal-one n h = last 19 n h ∙ ap (λ (m : ℕ). (48 + m) ∷ []) (omega arith)

-- where the digits are enough, one more changes nothing
enough : (k n : ℕ) → n < 10 ^ suc k → digits (suc (suc k)) n ≡ digits (suc k) n
enough zero n h = last 1 n h ∙ sym (last 0 n h)
enough (suc k) n h =
    let fewer = (div-lt_iff_lt-mul {k = 10} (lit< tt)).1 (subst (λ (m : ℕ). n < m) (pow-suc 10 (suc k)) h) in
    ⊎_elim (λ l. last (suc (suc k)) n l ∙ sym (last (suc k) n l))
    (λ g. before_last (suc (suc k)) n g ∙ ap (λ (l : List ℕ). l ++ ((48 + n % 10) ∷ [])) (enough k (n / 10) fewer) ∙ sym (before_last (suc k) n g))
    (less_or_not n 10)

pub decimal-more : (n : ℕ) → 10 ≤ n → n < 2 ^ 64 → decimal n ≡ decimal (n / 10) ++ ((48 + n % 10) ∷ [])
decimal-more n h fits = before_last 19 n h ∙ ap (λ (l : List ℕ). l ++ ((48 + n % 10) ∷ [])) (sym (enough 18 (n / 10) (omega arith)))

pub decimal-length : (n : ℕ) → 10 ≤ n → n < 2 ^ 64 → length (decimal n) ≡ length (decimal (n / 10)) + 1
decimal-length n h fits = ap length (decimal-more n h fits) ∙ length-append (decimal (n / 10)) ((48 + n % 10) ∷ [])

pub decimal-some : (n : ℕ) → 1 ≤ length (decimal n)
unfolding digits
decimal-some n = omega (arith, length-append (cond (ltb n 10) [] (digits 19 (n / 10))) ((48 + n % 10) ∷ []))

at_most : (k n : ℕ) → length (digits k n) ≤ k
unfolding digits
at_most zero n = zero-le
at_most (suc k) n =
    ⊎_elim (λ l. omega (arith, ap length (last k n l)))
    (λ g. omega (arith, ap length (before_last k n g) ∙ length-append (digits k (n / 10)) ((48 + n % 10) ∷ []), at_most k (n / 10)))
    (less_or_not n 10)

pub decimal-most : (n : ℕ) → length (decimal n) ≤ 20
decimal-most n = at_most 20 n
