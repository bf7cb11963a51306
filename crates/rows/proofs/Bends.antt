-- Which columns of a row bend: the rest of the division that rounds, carried from column to column.
--   rest-start, rest_stay, rest-step  the rest at column 0, and one column on
--   surplus_fits, surplus_small       what e columns make beyond whole rows
--   bend_marked                       a column's mark, by its rest
--   bends_more                        one mark more
--   bends_none                        no surplus: no column bends
--   marks_if                          marks that are there only if a line bends
-- Assumes nothing.
use mathlib.Core.Path.{◌≡◌, refl, sym, ap, ◌∙◌, subst}
use mathlib.Core.Bool.{Bool, true, false, cond}
use mathlib.Core.List.{List, []}
use mathlib.Core.Logic.{⊎_elim}
use Prim.Native.Nat.{ℕ, ◌+◌, ◌-◌, ◌*◌, ◌/◌, ◌%◌, ◌≤◌, ◌<◌}
use native.Mathlib.Nat.{eq-or-lt_of_le, add-mul, mul-add, mul_assoc, mul_comm, one-mul, div-add-mod', mod-lt, add-mul-div_right, div-eq_of_lt}
use native.Mathlib.Omega.{arith}
use lib.Dec.{eqb, ltb}
use lib.ListN.{length, get_or, set}
use lib.Seq.{get_or-set_same, get_or-set_other}
use Rattle.std.specs.Bool.{then_some}
use Rattle.std.specs.Borrow.{Bor}
use borrow.Author.Tests.{lt-ltb, le-ltb}
use Rattle.lists.proofs.Cases.{less_or_not}
use Rattle.frame.specs.Lines as lines
use Rattle.frame.specs.Lines.{r}
use Rattle.rows.specs.Slants.{Bends, Rest, marks_in}

r-by : (a b i n rest : ℕ) → n * (2 * a) + rest ≡ 2 * i * b + a → rest < 2 * a → r a b i ≡ n
unfolding lines.r
r-by a b i n rest sum below =
    let e : rest + n * (2 * a) ≡ 2 * i * b + a = omega (arith, sum) in
    let z : (rest + n * (2 * a)) / (2 * a) ≡ n =
    add-mul-div_right rest n {z = 2 * a} (omega arith) ∙ ap (λ (x : ℕ). x + n) (div-eq_of_lt below) ∙ omega arith in
    sym (ap (λ (x : ℕ). x / (2 * a)) e) ∙ z

rest-by : {a b x : ℕ} (n : ℕ) {rest : ℕ} → n * (2 * a) + rest ≡ 2 * x * b + a → rest < 2 * a → Rest a b x rest
rest-by {a} {b} {x} n {rest} sum below = record { sum = ap (λ (k : ℕ). k * (2 * a) + rest) (r-by a b x n rest sum below) ∙ sum; below = below }

pub rest-start : (a b : ℕ) → 1 ≤ a → Rest a b 0 a
rest-start a b some = rest-by 0 (omega arith) (omega arith)

further : (x e b : ℕ) → 2 * (x + e) * b ≡ 2 * x * b + 2 * e * b
further x e b = ap (λ (n : ℕ). n * b) (mul-add 2 x e) ∙ add-mul (2 * x) (2 * e) b

once : (k a : ℕ) → (k + 1) * a ≡ k * a + a
once k a = add-mul k 1 a ∙ ap (λ (x : ℕ). k * a + x) (one-mul a)

pub rest_stay : {a b x rest : ℕ} → Rest a b x rest → rest + 2 * b < 2 * a → Rest a b (x + 1) (rest + 2 * b)
rest_stay {a} {b} {x} {rest} p h = rest-by (r a b x) (omega (arith, p.sum, further x 1 b)) h

pub rest-step : {a b x rest : ℕ} → Rest a b x rest → b ≤ a → 2 * a ≤ rest + 2 * b → Rest a b (x + 1) (rest + 2 * b - 2 * a)
rest-step {a} {b} {x} {rest} p slow h =
    rest-by (r a b x + 1) (omega (arith, p.sum, further x 1 b, once (r a b x) (2 * a))) (omega (arith, p.below))

module _ (a b e d : ℕ) (some : 1 ≤ a) (rows : d ≡ e * b / a) where
  pub surplus_fits : d * a ≤ e * b
  surplus_fits = omega (arith, div-add-mod' (e * b) a, ap (λ (k : ℕ). k * a) rows)

  pub surplus_small : 2 * (e * b - d * a) < 2 * a
  surplus_small = omega (arith, div-add-mod' (e * b) a, ap (λ (k : ℕ). k * a) rows, mod-lt (e * b) some)

  surplus_sum : d * (2 * a) + 2 * (e * b - d * a) ≡ 2 * e * b
  surplus_sum =
      let twice : d * (2 * a) ≡ 2 * (d * a) = sym (mul_assoc d 2 a) ∙ ap (λ (k : ℕ). k * a) (mul_comm d 2) ∙ mul_assoc 2 d a in
      omega (arith, twice, surplus_fits, mul_assoc 2 e b)

  -- the rest at x and the surplus make a row more, or not
  pub bend_marked : {x rest : ℕ} → Rest a b x rest
      → r a b (x + e) ≡ r a b x + cond (eqb (cond (ltb (rest + 2 * (e * b - d * a)) (2 * a)) 0 1) 0) d (d + 1)
  bend_marked {x} {rest} p =
      let n = r a b x in
      let surplus = 2 * (e * b - d * a) in
      ⊎_elim
      (λ short.
      rw (lt-ltb (rest + surplus) (2 * a) short)
      (r-by a b (x + e) (n + d) (rest + surplus) (omega (arith, p.sum, surplus_sum, further x e b, add-mul n d (2 * a))) short))
      (λ long.
      rw (le-ltb (rest + surplus) (2 * a) long)
      (r-by a b (x + e) (n + (d + 1)) (rest + surplus - 2 * a)
      (omega (arith, p.sum, surplus_sum, further x e b, add-mul n (d + 1) (2 * a), once d (2 * a), long))
      (omega (arith, p.below, surplus_small))))
      (less_or_not (rest + surplus) (2 * a))

pub bends_more : (a b e d x v : ℕ) (m : List ℕ) → Bends a b e d x m → x < length m → r a b (x + e) ≡ r a b x + cond (eqb v 0) d (d + 1)
    → Bends a b e d (x + 1) (set m x v)
bends_more a b e d x v m f room here y h =
    ⊎_elim
    (λ q.
    subst (λ (k : ℕ). r a b (k + e) ≡ r a b k + cond (eqb (get_or (set m x v) k 0) 0) d (d + 1)) (sym q)
    (here ∙ ap (λ (k : ℕ). r a b x + cond (eqb k 0) d (d + 1)) (sym (get_or-set_same m x v 0 room))))
    (λ q. f y q ∙ ap (λ (k : ℕ). r a b y + cond (eqb k 0) d (d + 1)) (sym (get_or-set_other m x y v 0 (omega arith))))
    (eq-or-lt_of_le {n = y} {m = x} (omega arith))

rest_at : (a b x : ℕ) → 1 ≤ a → Rest a b x ((2 * x * b + a) % (2 * a))
rest_at a b x some = rest-by ((2 * x * b + a) / (2 * a)) (div-add-mod' (2 * x * b + a) (2 * a)) (mod-lt (2 * x * b + a) (omega arith))

pub bends_none : (a b e d n : ℕ) → 1 ≤ a → d ≡ e * b / a → 2 * (e * b - d * a) < 1 → Bends a b e d n []
bends_none a b e d n some rows nothing x h =
    let p = rest_at a b x some in
    bend_marked a b e d some rows p
    ∙ ap (λ (t : Bool). r a b x + cond (eqb (cond t 0 1) 0) d (d + 1)) (lt-ltb _ (2 * a) (omega (arith, p.below)))

pub marks_if : (bent : Bool) (m : Bor (List ℕ)) → marks_in (then_some bent m) ≡ cond bent m.now []
marks_if true m = refl
marks_if false m = refl
