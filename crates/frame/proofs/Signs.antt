-- Signed numbers at the machine's edge: what a sign and a size ask of 64 bits.
--   back                      a number that went through its bits is itself
--   below-zero, not_below     a number below 0, and one that is not
--   size-most, minus_fits, lowest-fits, sum_fits    a size that fits, a negation and a sum that do
--   negation_fits, negation_is    the negation of a natural, through its bits
-- Assumes nothing.
use mathlib.Core.Path.{◌≡◌, refl, ap, subst}
use mathlib.Core.Bool.{Bool, true, false, true≢false}
use Prim.Native.Nat.{ℕ, zero, suc, ◌+◌, ◌*◌, ◌^◌, ◌≤◌, ◌<◌, zero-le}
use native.Mathlib.Omega.{arith}
use native.Mathlib.Nat.{lt_irrefl, lt_of_lt_of_le}
use borrow.Author.Tests.{ltb-true, le-ltb}
use lib.Dec.{T, ltb}
use lib.IntN.{ℤ, pos, negsuc, neg_ℤ, nat_abs, sub_ℕ, ◌+ℤ◌, ◌-ℤ◌, +ℤ_idl}
use lib.Signed.{mag, lt_z, non_neg}
use mir.Syntax.{w64}
use mir.Val.{SFits, to_z, of_z}
use mir.Facts.{to_z-of_z}
use Rattle.answer.specs.Limits.{longest}
use Rattle.frame.proofs.Numbers.{minus_is}

pub back : (z : ℤ) → mag z < 2 ^ 63 → to_z w64 (of_z w64 z) ≡ z
back z h = to_z-of_z {w = w64} (record { sfits = h })

pub below-zero : (z : ℤ) → lt_z z (pos 0) ≡ true → (negsuc 0 -ℤ z ≡ pos (mag z)) × (nat_abs z ≡ mag z + 1)
below-zero (pos n) e = absurd (lt_irrefl n (lt_of_lt_of_le (ltb-true n 0 e) zero-le))
below-zero (negsuc n) e = (rw (le-ltb (suc n) 1 (omega arith)) (ap pos (omega arith)), omega arith)

pub not_below : (z : ℤ) → lt_z z (pos 0) ≡ false → T (non_neg z)
not_below (pos n) e = tt
not_below (negsuc n) e = absurd (true≢false e)

pub size-most : (z : ℤ) → mag z < 2 ^ 63 → nat_abs z ≤ 9223372036854775808
size-most (pos n) h = omega arith
size-most (negsuc n) h = omega arith

pub minus_fits : (z : ℤ) → nat_abs z ≤ longest → SFits w64 (pos 0 -ℤ z)
minus_fits z h = rw +ℤ_idl (go z h)
  where
    go : (z : ℤ) → nat_abs z ≤ longest → SFits w64 (neg_ℤ z)
    go (pos zero) h = record { sfits = omega arith }
    go (pos (suc n)) h = record { sfits = omega arith }
    go (negsuc n) h = record { sfits = omega arith }

pub negation_fits : (n : ℕ) → n ≤ longest → SFits w64 (pos 0 -ℤ to_z w64 n)
negation_fits n h = rw (back (pos n) (omega arith)) (minus_fits (pos n) h)

pub negation_is : (n : ℕ) → n ≤ longest → to_z w64 (of_z w64 (pos 0 -ℤ to_z w64 n)) ≡ sub_ℕ 0 n
negation_is n h = rw (back (pos n) (omega arith), to_z-of_z (minus_fits (pos n) h)) (minus_is 0 n)

pub lowest-fits : (n : ℕ) → n ≤ longest → SFits w64 (sub_ℕ 0 n)
lowest-fits n h = subst (SFits w64) (minus_is 0 n) (minus_fits (pos n) h)

pub sum_fits : (z : ℤ) (u : ℕ) → nat_abs z ≤ longest → u ≤ 2 * longest → SFits w64 (z +ℤ pos u)
sum_fits (pos n) u h k = record { sfits = omega arith }
sum_fits (negsuc n) u h k = go (ltb u (suc n)) refl
  where
    go : (t : Bool) → ltb u (suc n) ≡ t → SFits w64 (sub_ℕ u (suc n))
    go true e = rw e (record { sfits = omega arith })
    go false e = rw e (record { sfits = omega arith })
