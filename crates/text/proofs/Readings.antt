-- What the tests of a reading say.
--   digit_facts, goes_facts    what the tests of a digit say
--   field_bound                a field is in its range
-- Assumes nothing.
use mathlib.Core.Path.{◌≡◌, refl}
use mathlib.Core.Bool.{Bool, true, false, cond, ◌&&◌, false≢true}
use mathlib.Core.List.{List}
use Prim.Native.Nat.{ℕ, ◌≤◌, ◌<◌}
use lib.Dec.{ltb, leb}
use lib.ListN.{drop}
use borrow.Author.Tests.{ltb-true, leb-true}
use Rattle.lists.proofs.Cases.{both_left, both_right}
use Rattle.text.specs.Lines.{tab}
use Rattle.text.specs.Reading.{largest_number, is_digit, goes_on, Numeral, no_numeral, number_of, starts, at_most, field_of}

pub digit_facts : (c : ℕ) → is_digit c ≡ true → (48 ≤ c) × (c ≤ 57)
digit_facts c e = (leb-true 48 c (both_left (leb 48 c) (leb c 57) e), leb-true c 57 (both_right (leb 48 c) (leb c 57) e))

pub goes_facts : (v c : ℕ) → goes_on v c ≡ true → (0 < v) × (v ≤ largest_number) × (48 ≤ c) × (c ≤ 57)
goes_facts v c e =
    let more = both_right (ltb 0 v) (leb v largest_number && is_digit c) e in
    let digit = digit_facts c (both_right (leb v largest_number) (is_digit c) more) in
    (ltb-true 0 v (both_left (ltb 0 v) (leb v largest_number && is_digit c) e), leb-true v largest_number (both_left (leb v largest_number) (is_digit c) more), digit.0, digit.1)

-- ---- a field is in its range

most-kept : (most : ℕ) (g : Numeral) (b : Bool) → (g.found && leb g.value most) ≡ b → (cond b g no_numeral).found ≡ true → (cond b g no_numeral).value ≤ most
most-kept most g true q e = leb-true g.value most (both_right g.found (leb g.value most) q)
most-kept most g false q e = absurd (false≢true e)

tab-kept : (most : ℕ) (g : Numeral) (b : Bool) → (cond b (at_most most g) no_numeral).found ≡ true → (cond b (at_most most g) no_numeral).value ≤ most
tab-kept most g true e = most-kept most g (g.found && leb g.value most) refl e
tab-kept most g false e = absurd (false≢true e)

pub field_bound : (most : ℕ) (s : List ℕ) → (field_of most s).found ≡ true → (field_of most s).value ≤ most
unfolding field_of
field_bound most s e = tab-kept most (number_of (drop 1 s)) (starts tab s) e
