-- The pixels that a length stands for.
--   count-reaches, count-least     the count reaches, and no smaller one from 1 up does
--   count_unique                   it is the one count that reaches while the one before it does not
--   count-below, count-above       no count that reaches is below it; one that does not is
--   count-some, count_most         it is 1 to L
--   count-one                      1 for the length 1
--   count-along, count-across      L itself, where one of the direction's numbers is 0
--   count_double                   a length of 2·s has more than s pixels
--   count_mono, count_next         a longer length has no smaller count, and the next has at most one more; count_stays, count_grows: which
--   count_none, count-within       before the first length: there the count is 1
--   products_fit                   both products fit 64 bits, for lengths to 16,385
-- The same of a direction: pixels-some, pixels-most, pixels-one, pixels-along, pixels-straight, pixels_double, pixels-next. What the calls test and hand back:
-- measured-direction, measured_range; pixels_known, counts_known.
-- Assumes nothing.
use mathlib.Core.Path.{◌≡◌, refl, sym, ◌∙◌}
use mathlib.Core.Bool.{Bool, true, false, not, ◌||◌, true≢false, false≢true}
use mathlib.Core.List.{List}
use mathlib.Core.Logic.{◌⊎◌, inl, inr}
use Prim.Native.Nat.{ℕ, zero, suc, ◌+◌, ◌-◌, ◌*◌, ◌^◌, ◌≤◌, ◌<◌, max}
use native.Mathlib.Nat.{le_refl, le_trans, mul-le-mul, mul-le-mul_left, mul-le-mul_right, mul-lt-mul_of_pos_right, one-le-mul}
use native.Mathlib.Omega.{arith}
use lib.Dec.{eqb}
use lib.IntN.{nat_abs}
use lib.ListN.{length}
use borrow.Author.Tests.{leb-true, le-leb, lt-leb, not-true, ne_eqb}
use Rattle.lists.proofs.Cases.{less_or_not, both_left, both_right}
use Rattle.answer.specs.Limits.{longest, steepest}
use Rattle.answer.specs.Rules.{outside}
use Rattle.answer.proofs.Rules.{outside_not, not_outside}
use Rattle.frame.specs.declared.direction.Direction.{Direction}
use Rattle.frame.specs.Direction.{is_direction, straight, along}
use Rattle.frame.specs.Length.{square, reaches, first_from, count_for, pixels_for, is_measured, pixels_or_none, counts_to, counts_of}
use Rattle.frame.proofs.Shapes.{directed}

-- ---- the first number that passes a test

module _ (test : ℕ → Bool) where
  first-here : (k n : ℕ) → test k ≡ true → first_from test k (suc n) ≡ k
  unfolding first_from
  first-here k n e = rw e

  first_on : (k n : ℕ) → test k ≡ false → first_from test k (suc n) ≡ first_from test (suc k) n
  unfolding first_from
  first_on k n e = rw e

  record First (k n r : ℕ) : Type 0 where
    from : k ≤ r
    upto : r ≤ k + n
    fails : (j : ℕ) → k ≤ j → j < r → test j ≡ false
    passes : test (k + n) ≡ true → test r ≡ true

  first-is : (n k : ℕ) → First k n (first_from test k n)
  unfolding first_from
  first-is zero k =
      record {
        from = le_refl k;
        upto = omega arith;
        fails = λ j lo hi. absurd (omega arith);
        passes = λ t. let e : k + 0 ≡ k = omega arith in rw e at t;
      }
  first-is (suc n) k = go (test k) refl (first-is n (suc k))
    where
      go : (t : Bool) → test k ≡ t → First (suc k) n (first_from test (suc k) n) → First k (suc n) (first_from test k (suc n))
      go true t ih =
          rw (first-here k n t)
          (record { from = le_refl k; upto = omega arith; fails = λ j lo hi. absurd (omega arith); passes = λ w. t })
      go false t ih =
          rw (first_on k n t)
          (record {
            from = omega (arith, ih.from);
            upto = omega (arith, ih.upto);
            fails = λ j lo hi. here j lo hi (less_or_not k j);
            passes = λ w. let e : k + suc n ≡ suc k + n = omega arith in ih.passes (rw e at w);
          })
        where
          here : (j : ℕ) → k ≤ j → j < first_from test (suc k) n → (k < j) ⊎ (j ≤ k) → test j ≡ false
          here j lo hi (inl q) = ih.fails j q hi
          here j lo hi (inr q) = let e : j ≡ k = omega arith in rw e t

-- ---- squares

square-max : (a b : ℕ) → square (max a b) ≤ square a + square b
square-max a b = go (less_or_not a b)
  where
    go : (a < b) ⊎ (b ≤ a) → square (max a b) ≤ square a + square b
    go (inl l) = let e : max a b ≡ b = omega arith in rw e (omega arith)
    go (inr l) = let e : max a b ≡ a = omega arith in rw e (omega arith)

pub square_le : (m n : ℕ) → m ≤ n → square m ≤ square n
square_le m n h = mul-le-mul h h

square-back : (m n : ℕ) → square m ≤ square n → m ≤ n
square-back m n h = go (less_or_not n m)
  where
    go : (n < m) ⊎ (m ≤ n) → m ≤ n
    go (inl l) =
        let low : n * n ≤ n * m = mul-le-mul_left n (omega arith) in
        let up : n * m < m * m = mul-lt-mul_of_pos_right l (omega arith) in
        absurd (omega arith)
    go (inr l) = l

-- v·√T ≤ u·√S and T ≤ S: then (v+1)·√T ≤ (u+1)·√S, without roots
module _ (S T : ℕ) (le : T ≤ S) where
  roots : (u v : ℕ) → square v * T ≤ square u * S → v * T ≤ u * S
  roots u v h =
      let one : square v * T * T ≤ square u * S * T = mul-le-mul_right T h in
      let two : square u * S * T ≤ square u * S * S = mul-le-mul_left (square u * S) le in
      square-back (v * T) (u * S) (omega (arith, one, two))

  further : (u v : ℕ) → square v * T ≤ square u * S → square (suc v) * T ≤ square (suc u) * S
  further u v h = omega (arith, h, roots u v h, le)

-- ---- what reaches

module _ (a b : ℕ) where
  reaches-by : (L k : ℕ) → square (L - 1) * square (max a b) ≤ square (k - 1) * (square a + square b) → reaches a b L k ≡ true
  reaches-by L k h = le-leb (square (L - 1) * square (max a b)) (square (k - 1) * (square a + square b)) h

  reaches-says : (L k : ℕ) → reaches a b L k ≡ true → square (L - 1) * square (max a b) ≤ square (k - 1) * (square a + square b)
  reaches-says L k h = leb-true (square (L - 1) * square (max a b)) (square (k - 1) * (square a + square b)) h

  reaches_more : (L j k : ℕ) → j ≤ k → reaches a b L j ≡ true → reaches a b L k ≡ true
  reaches_more L j k h r =
      reaches-by L k (le_trans (reaches-says L j r) (mul-le-mul_right (square a + square b) (square_le (j - 1) (k - 1) (omega arith))))

  reaches_less : (L M k : ℕ) → L ≤ M → reaches a b M k ≡ true → reaches a b L k ≡ true
  reaches_less L M k h r =
      reaches-by L k (le_trans (mul-le-mul_right (square (max a b)) (square_le (L - 1) (M - 1) (omega arith))) (reaches-says M k r))

  reaches-own : (L : ℕ) → reaches a b L (1 + (L - 1)) ≡ true
  reaches-own L =
      let e : 1 + (L - 1) - 1 ≡ L - 1 = omega arith in
      reaches-by L (1 + (L - 1)) (rw e (mul-le-mul_left (square (L - 1)) (square-max a b)))

  reaches-next : (L k : ℕ) → 1 ≤ L → 1 ≤ k → reaches a b L k ≡ true → reaches a b (suc L) (suc k) ≡ true
  reaches-next L k some more r =
      let e : suc L - 1 ≡ suc (L - 1) = omega arith in
      let d : suc k - 1 ≡ suc (k - 1) = omega arith in
      reaches-by (suc L) (suc k) (rw (e, d) (further (square a + square b) (square (max a b)) (square-max a b) (k - 1) (L - 1) (reaches-says L k r)))

  -- ---- the count

  first : (L : ℕ) → First (reaches a b L) 1 (L - 1) (count_for a b L)
  first L = first-is (reaches a b L) (L - 1) 1

  pub count-some : (L : ℕ) → 1 ≤ count_for a b L
  count-some L = (first L).from

  pub count_most : (L : ℕ) → 1 ≤ L → count_for a b L ≤ L
  count_most L some = omega (arith, (first L).upto)

  pub count-reaches : (L : ℕ) → reaches a b L (count_for a b L) ≡ true
  count-reaches L = (first L).passes (reaches-own L)

  pub count-least : (L j : ℕ) → 1 ≤ j → j < count_for a b L → reaches a b L j ≡ false
  count-least L j some h = (first L).fails j some h

  pub count-below : (L k : ℕ) → 1 ≤ k → reaches a b L k ≡ true → count_for a b L ≤ k
  count-below L k some r = go (less_or_not k (count_for a b L))
    where
      go : (k < count_for a b L) ⊎ (count_for a b L ≤ k) → count_for a b L ≤ k
      go (inl l) = absurd (true≢false (sym r ∙ count-least L k some l))
      go (inr l) = l

  pub count-above : (L k : ℕ) → reaches a b L k ≡ false → k < count_for a b L
  count-above L k r = go (less_or_not k (count_for a b L))
    where
      go : (k < count_for a b L) ⊎ (count_for a b L ≤ k) → k < count_for a b L
      go (inl l) = l
      go (inr l) = absurd (true≢false (sym (reaches_more L (count_for a b L) k l (count-reaches L)) ∙ r))

  pub count_unique : (L k : ℕ) → 1 ≤ k → reaches a b L k ≡ true → (1 < k → reaches a b L (k - 1) ≡ false) → count_for a b L ≡ k
  count_unique L k some r before = go (less_or_not (count_for a b L) k)
    where
      go : (count_for a b L < k) ⊎ (k ≤ count_for a b L) → count_for a b L ≡ k
      go (inl l) = absurd (omega (arith, l, count-above L (k - 1) (before (omega (arith, count-some L)))))
      go (inr l) = omega (arith, count-below L k some r)

  pub count-one : count_for a b 1 ≡ 1
  count-one = omega (arith, count-some 1, count_most 1 (le_refl 1))

  pub count_mono : (L M : ℕ) → L ≤ M → count_for a b L ≤ count_for a b M
  count_mono L M h = count-below L (count_for a b M) (count-some M) (reaches_less L M (count_for a b M) h (count-reaches M))

  count_next : (L : ℕ) → count_for a b (suc L) ≤ suc (count_for a b L)
  count_next zero = omega (arith, count_most 1 (le_refl 1))
  count_next (suc L) =
      count-below (suc (suc L)) (suc (count_for a b (suc L))) (omega arith)
      (reaches-next (suc L) (count_for a b (suc L)) (omega arith) (count-some (suc L)) (count-reaches (suc L)))

  -- a loop over the lengths may begin before the first: the count there is 1 too
  pub count_none : count_for a b 0 ≡ 1
  count_none = omega (arith, (first 0).from, (first 0).upto)

  pub count-within : (L : ℕ) → count_for a b L ≤ L + 1
  count-within L = omega (arith, (first L).upto)

  -- one test a length is enough: this is how a loop goes from each length to the next
  pub count_stays : (L : ℕ) → reaches a b (suc L) (count_for a b L) ≡ true → count_for a b (suc L) ≡ count_for a b L
  count_stays L r = omega (arith, count-below (suc L) (count_for a b L) (count-some L) r, count_mono L (suc L) (omega arith))

  pub count_grows : (L : ℕ) → reaches a b (suc L) (count_for a b L) ≡ false → count_for a b (suc L) ≡ suc (count_for a b L)
  count_grows L r = omega (arith, count_next L, count-above (suc L) (count_for a b L) r)

-- ---- along and across

-- with one square T on both sides, a smaller count does not reach
short_of : (T u : ℕ) → 1 ≤ T → square u * T < square (suc u) * T
short_of T u some = omega arith

pub count-along : (a L : ℕ) → 1 ≤ a → 1 ≤ L → count_for a 0 L ≡ L
count-along a L some more = count_unique a 0 L L more own before
  where
    own : reaches a 0 L L ≡ true
    own = let e : 1 + (L - 1) ≡ L = omega arith in rw e at (reaches-own a 0 L)

    before : 1 < L → reaches a 0 L (L - 1) ≡ false
    before l =
        let m : max a 0 ≡ a = omega arith in
        let z : square a + square 0 ≡ square a = omega arith in
        let e : L - 1 ≡ suc (L - 1 - 1) = omega arith in
        let s : square (L - 1 - 1) * square a < square (suc (L - 1 - 1)) * square a = short_of (square a) (L - 1 - 1) (one-le-mul some some) in
        let g : square (L - 1 - 1) * square a < square (L - 1) * square a = rw (← e) at s in
        lt-leb (square (L - 1) * square (max a 0)) (square (L - 1 - 1) * (square a + square 0)) (rw (m, z) g)

reaches-swap : (a b L k : ℕ) → reaches a b L k ≡ reaches b a L k
reaches-swap a b L k =
    let m : max a b ≡ max b a = omega arith in
    let s : square a + square b ≡ square b + square a = omega arith in
    rw (m, s)

pub count-across : (b L : ℕ) → 1 ≤ b → 1 ≤ L → count_for 0 b L ≡ L
count-across b L some more = swap ∙ count-along b L some more
  where
    swap : count_for 0 b L ≡ count_for b 0 L
    swap =
        count_unique 0 b L (count_for b 0 L) (count-some b 0 L) (reaches-swap 0 b L (count_for b 0 L) ∙ count-reaches b 0 L)
        (λ l. reaches-swap 0 b L (count_for b 0 L - 1) ∙ count-least b 0 L (count_for b 0 L - 1) (omega arith) (omega arith))

-- ---- a length of twice as many

-- S is a²+b² and T the square of the greater: u pixels past the first are less than 2·u+1 along
twice : (S T u : ℕ) → 1 ≤ T → S ≤ T + T → square u * S < square (suc (u + u)) * T
twice S T u some le = omega (arith, some, mul-le-mul_left (square u) le)

pub count_double : (a b s : ℕ) → 1 ≤ max a b → 1 ≤ s → s < count_for a b (2 * s)
count_double a b s some more =
    let e : suc (s - 1 + (s - 1)) ≡ 2 * s - 1 = omega arith in
    let double : square a + square b ≤ square (max a b) + square (max a b) = omega (arith, square_le a (max a b) (omega arith), square_le b (max a b) (omega arith)) in
    let short = twice (square a + square b) (square (max a b)) (s - 1) (one-le-mul some some) double in
    count-above a b (2 * s) s (lt-leb (square (2 * s - 1) * square (max a b)) (square (s - 1) * (square a + square b)) (rw e at short))

-- ---- how large the products are

pub products_fit : (a b L k : ℕ) → a ≤ steepest → b ≤ steepest → L ≤ 16385 → k ≤ L
    → (square (L - 1) * square (max a b) < 2 ^ 45) × (square (k - 1) * (square a + square b) < 2 ^ 45)
products_fit a b L k p q l h =
    let sa : square a ≤ 255 * 255 = square_le a 255 p in
    let sb : square b ≤ 255 * 255 = square_le b 255 q in
    let sm : square (max a b) ≤ 255 * 255 = square_le (max a b) 255 (omega arith) in
    let sl : square (L - 1) ≤ 16384 * 16384 = square_le (L - 1) 16384 (omega arith) in
    let sk : square (k - 1) ≤ 16384 * 16384 = square_le (k - 1) 16384 (omega arith) in
    let one : square (L - 1) * square (max a b) ≤ 16384 * 16384 * (255 * 255) = mul-le-mul sl sm in
    let sum : square a + square b ≤ 255 * 255 + 255 * 255 = omega (arith, sa, sb) in
    let two : square (k - 1) * (square a + square b) ≤ 16384 * 16384 * (255 * 255 + 255 * 255) = mul-le-mul sk sum in
    (omega (arith, one), omega (arith, two))

-- ---- of a direction

module _ (d : Direction) where
  pub pixels-some : (L : ℕ) → 1 ≤ pixels_for d L
  pixels-some L = count-some (nat_abs d.p) (nat_abs d.q) L

  pub pixels-most : (L : ℕ) → 1 ≤ L → pixels_for d L ≤ L
  pixels-most L some = count_most (nat_abs d.p) (nat_abs d.q) L some

  pub pixels-one : pixels_for d 1 ≡ 1
  pixels-one = count-one (nat_abs d.p) (nat_abs d.q)

  pub pixels-straight : is_direction d ≡ true → straight d ≡ true → (L : ℕ) → 1 ≤ L → pixels_for d L ≡ L
  pixels-straight ok e L more = go (nat_abs d.p) (nat_abs d.q) (directed d ok).some e
    where
      go : (a b : ℕ) → 1 ≤ a + b → (eqb a 0 || eqb b 0) ≡ true → count_for a b L ≡ L
      go zero b some e = count-across b L (omega arith) more
      go (suc a) zero some e = count-along (suc a) L (omega arith) more
      go (suc a) (suc b) some e = absurd (false≢true (rw (ne_eqb (suc a) 0 (λ z. omega arith), ne_eqb (suc b) 0 (λ z. omega arith)) at e))

  pub pixels_double : is_direction d ≡ true → (s L : ℕ) → 1 ≤ s → 2 * s ≤ L → s < pixels_for d L
  pixels_double ok s L some h =
      let a = nat_abs d.p in
      let b = nat_abs d.q in
      omega (arith, count_double a b s (omega (arith, (directed d ok).some)) some, count_mono a b (2 * s) L h)

  -- 'a bin may now be 0 where two lengths share a k'
  pub pixels-next : (L : ℕ) → (pixels_for d (suc L) ≡ pixels_for d L) ⊎ (pixels_for d (suc L) ≡ suc (pixels_for d L))
  pixels-next L = go (reaches a b (suc L) (pixels_for d L)) refl
    where
      a : ℕ
      a = nat_abs d.p

      b : ℕ
      b = nat_abs d.q

      go : (t : Bool) → reaches a b (suc L) (pixels_for d L) ≡ t → (pixels_for d (suc L) ≡ pixels_for d L) ⊎ (pixels_for d (suc L) ≡ suc (pixels_for d L))
      go true r = inl (count_stays a b L r)
      go false r = inr (count_grows a b L r)

  -- ---- what the calls hand back

  pub measured-direction : (L : ℕ) → is_measured d L ≡ true → is_direction d ≡ true
  measured-direction L e = both_left (is_direction d) (not (outside 1 (longest + 1) L)) e

  -- the ranges, from the test
  pub measured_range : (L : ℕ) → is_measured d L ≡ true → (nat_abs d.p ≤ steepest) × (nat_abs d.q ≤ steepest) × (1 ≤ L) × (L ≤ longest + 1)
  measured_range L e =
      let known = directed d (measured-direction L e) in
      let within = outside_not 1 (longest + 1) L (not-true (outside 1 (longest + 1) L) (both_right (is_direction d) (not (outside 1 (longest + 1) L)) e)) in
      (known.left, known.right, within.0, within.1)

  measured : (L : ℕ) → is_direction d ≡ true → 1 ≤ L → L ≤ longest + 1 → is_measured d L ≡ true
  measured L ok some fits = rw (ok, not_outside 1 (longest + 1) L some fits)

  pub pixels_known : (L : ℕ) → is_direction d ≡ true → 1 ≤ L → L ≤ longest + 1 → pixels_or_none d L ≡ pixels_for d L
  pixels_known L ok some fits = rw (measured L ok some fits)

  pub counts_known : (room : List ℕ) → is_direction d ≡ true → 1 ≤ length room → length room ≤ longest + 1
      → counts_of d room ≡ counts_to d (length room)
  counts_known room ok some fits = rw (measured (length room) ok some fits)

pub pixels-along : (L : ℕ) → 1 ≤ L → pixels_for along L ≡ L
pixels-along L some = count-along 1 L (le_refl 1) some
