-- Rows treated one after the other, in any order of the rows.
--   RowsApart st N M                  M rows of N bytes, each at its start, do not meet
--   parted-rows, parted_order      rows that stand S apart, as they come or in the order of a pass
--   row_less, row-twice            that order has no other rows, and taken twice is as they come
--   rows_none, rows_more, rows_before, rows_join    no row; one more, behind or before; two stretches of rows
--   rows-still                     rows that have their pixels already
--   rows_end, rows_start, rows_as  ends and pixels known by an equation
--   row_kept                       a row that is not among them
--   row_room                       a row is in the buffer
-- Assumes nothing.
use mathlib.Core.Path.{◌≡◌, refl, sym, ap, ◌∙◌, subst}
use mathlib.Core.Bool.{Bool, true, false}
use mathlib.Core.List.{List}
use mathlib.Core.Logic.{◌⊎◌, inl, inr, ⊎_elim}
use Prim.Native.Nat.{ℕ, ◌+◌, ◌-◌, ◌*◌, ◌≤◌, ◌<◌}
use native.Mathlib.Nat.{eq-or-lt_of_le, mul-le-mul_right, add-mul, one-mul, le_refl}
use native.Mathlib.Omega.{arith}
use lib.ListN.{get_or}
use Rattle.lists.specs.Stores.{Filled}
use Rattle.lists.proofs.Cases.{less_or_not}
use Rattle.rows.specs.Rows as rows
use Rattle.rows.specs.Rows.{row_at, rows_by, RowsAre}

abbrev pub RowsApart : (ℕ → ℕ) → ℕ → ℕ → Type 0
RowsApart st N M = (i j : ℕ) → i < M → j < M → (i ≡ j → ⊥) → (st i + N ≤ st j) ⊎ (st j + N ≤ st i)

row_below : (S N i j : ℕ) → N ≤ S → i < j → i * S + N ≤ j * S
row_below S N i j wide h =
    let p : (i + 1) * S ≤ j * S = mul-le-mul_right S (omega arith) in
    omega (arith, add-mul i 1 S, one-mul S)

pub parted-rows : (S N M : ℕ) → N ≤ S → RowsApart (rows_by S) N M
parted-rows S N M wide i j p q apart =
    ⊎_elim
    (λ below. inl (row_below S N i j wide below))
    (λ not'. inr (row_below S N j i wide (omega (arith, apart))))
    (less_or_not i j)

pub row_less : (forth : Bool) (M t : ℕ) → t < M → row_at forth M t < M
unfolding rows.row_at
row_less true M t l = l
row_less false M t l = omega arith

pub row-twice : (forth : Bool) (M t : ℕ) → t < M → row_at forth M (row_at forth M t) ≡ t
unfolding rows.row_at
row-twice true M t l = refl
row-twice false M t l = omega arith

pub parted_order : (forth : Bool) (S N M : ℕ) → N ≤ S → RowsApart (λ (t : ℕ). row_at forth M t * S) N M
parted_order forth S N M wide i j p q apart =
    parted-rows S N M wide (row_at forth M i) (row_at forth M j) (row_less forth M i p) (row_less forth M j q)
    (λ same. apart (sym (row-twice forth M i p) ∙ ap (row_at forth M) same ∙ row-twice forth M j q))

pub rows_none : (st : ℕ → ℕ) (N lo : ℕ) (F : ℕ → ℕ → ℕ) (g : List ℕ) → RowsAre st N lo lo F g g
rows_none st N lo F g = record { same = refl; within = λ i k l h n. absurd (omega arith); other = λ x h. refl }

pub rows-still : (st : ℕ → ℕ) (N lo hi : ℕ) (F : ℕ → ℕ → ℕ) (g : List ℕ) → ((i k : ℕ) → lo ≤ i → i < hi → k < N → get_or g (st i + k) 0 ≡ F i k)
    → RowsAre st N lo hi F g g
rows-still st N lo hi F g e = record { same = refl; within = e; other = λ x h. refl }

pub rows_end : {st : ℕ → ℕ} {N lo i hi : ℕ} {F : ℕ → ℕ → ℕ} {b a : List ℕ} → RowsAre st N lo i F b a → i ≡ hi → RowsAre st N lo hi F b a
rows_end {st} {N} {lo} {i} {hi} {F} {b} {a} r e = subst (λ (m : ℕ). RowsAre st N lo m F b a) e r

pub rows_start : {st : ℕ → ℕ} {N i lo hi : ℕ} {F : ℕ → ℕ → ℕ} {b a : List ℕ} → RowsAre st N i hi F b a → i ≡ lo → RowsAre st N lo hi F b a
rows_start {st} {N} {i} {lo} {hi} {F} {b} {a} r e = subst (λ (m : ℕ). RowsAre st N m hi F b a) e r

pub rows_as : {st : ℕ → ℕ} {N lo hi : ℕ} {F : ℕ → ℕ → ℕ} {b a : List ℕ} → RowsAre st N lo hi F b a → (G : ℕ → ℕ → ℕ)
    → ((i k : ℕ) → lo ≤ i → i < hi → k < N → F i k ≡ G i k) → RowsAre st N lo hi G b a
rows_as r G e = record { same = r.same; within = λ i k l h n. r.within i k l h n ∙ e i k l h n; other = r.other }

module _ {st : ℕ → ℕ} {N M : ℕ} (parted : RowsApart st N M) where
  pub row_kept : {lo hi : ℕ} {F : ℕ → ℕ → ℕ} {b a : List ℕ} → RowsAre st N lo hi F b a → hi ≤ M → (i k : ℕ) → i < M → k < N → (i < lo) ⊎ (hi ≤ i)
      → get_or a (st i + k) 0 ≡ get_or b (st i + k) 0
  row_kept r top i k in' h side =
      r.other (st i + k)
      (λ j l from below n e.
      ⊎_elim (λ p. omega arith) (λ p. omega arith)
      (parted i j in' (omega arith) (λ q. ⊎_elim (λ up. omega arith) (λ down. omega arith) side)))

  module _ {lo i : ℕ} {F : ℕ → ℕ → ℕ} {G : ℕ → ℕ} {b a a' : List ℕ} where
    pub rows_more : RowsAre st N lo i F b a → Filled a a' (st i) (st i + N) G → ((k : ℕ) → k < N → G (st i + k) ≡ F i k) → lo ≤ i → i < M
        → RowsAre st N lo (i + 1) F b a'
    rows_more r f e low top =
        record {
          same = f.same ∙ r.same;
          within = λ j k l h n.
              ⊎_elim
              (λ q. subst (λ (m : ℕ). get_or a' (st m + k) 0 ≡ F m k) (sym q) (f.within (st i + k) (omega arith) (omega arith) ∙ e k n))
              (λ q. beside j k n (omega arith) (omega arith) ∙ r.within j k l q n)
              (eq-or-lt_of_le {n = j} {m = i} (omega arith));
          other = λ x none.
              ⊎_elim
              (λ q. f.below x q ∙ r.other x (λ j k l h n. none j k l (omega arith) n))
              (λ q.
              ⊎_elim
              (λ p. absurd (none i (x - st i) low (omega arith) (omega arith) (omega arith)))
              (λ p. f.above x p ∙ r.other x (λ j k l h n. none j k l (omega arith) n))
              (less_or_not x (st i + N)))
              (less_or_not x (st i));
        }
      where
        beside : (j k : ℕ) → k < N → j < M → (j ≡ i → ⊥) → get_or a' (st j + k) 0 ≡ get_or a (st j + k) 0
        beside j k n h apart = ⊎_elim (λ p. f.below (st j + k) (omega arith)) (λ p. f.above (st j + k) (omega arith)) (parted j i h top apart)

  module _ {i hi : ℕ} {F : ℕ → ℕ → ℕ} {G : ℕ → ℕ} {b a a' : List ℕ} where
    pub rows_before : RowsAre st N (i + 1) hi F b a → Filled a a' (st i) (st i + N) G → ((k : ℕ) → k < N → G (st i + k) ≡ F i k) → i < hi → hi ≤ M
        → RowsAre st N i hi F b a'
    rows_before r f e high top =
        record {
          same = f.same ∙ r.same;
          within = λ j k l h n.
              ⊎_elim
              (λ q. subst (λ (m : ℕ). get_or a' (st m + k) 0 ≡ F m k) q (f.within (st i + k) (omega arith) (omega arith) ∙ e k n))
              (λ q. beside j k n (omega arith) (omega arith) ∙ r.within j k (omega arith) h n)
              (eq-or-lt_of_le l);
          other = λ x none.
              ⊎_elim
              (λ q. f.below x q ∙ r.other x (λ j k l h n. none j k (omega arith) h n))
              (λ q.
              ⊎_elim
              (λ p. absurd (none i (x - st i) (le_refl i) high (omega arith) (omega arith)))
              (λ p. f.above x p ∙ r.other x (λ j k l h n. none j k (omega arith) h n))
              (less_or_not x (st i + N)))
              (less_or_not x (st i));
        }
      where
        beside : (j k : ℕ) → k < N → j < M → (j ≡ i → ⊥) → get_or a' (st j + k) 0 ≡ get_or a (st j + k) 0
        beside j k n h apart = ⊎_elim (λ p. f.below (st j + k) (omega arith)) (λ p. f.above (st j + k) (omega arith)) (parted j i h (omega arith) apart)

  pub rows_join : {lo mid hi : ℕ} {F : ℕ → ℕ → ℕ} {b a a' : List ℕ} → RowsAre st N lo mid F b a → RowsAre st N mid hi F a a' → lo ≤ mid → mid ≤ hi → hi ≤ M
      → RowsAre st N lo hi F b a'
  rows_join {lo} {mid} {hi} r q low high top =
      record {
        same = q.same ∙ r.same;
        within = λ i k l h n.
            ⊎_elim
            (λ up. row_kept q top i k (omega arith) n (inl up) ∙ r.within i k l up n)
            (λ down. q.within i k down h n)
            (less_or_not i mid);
        other = λ x none. q.other x (λ i k l h n. none i k (omega arith) h n) ∙ r.other x (λ i k l h n. none i k l (omega arith) n);
      }

pub row_room : (S N M n i : ℕ) → i < M → (M - 1) * S + N ≤ n → i * S + N ≤ n
row_room S N M n i h room = let p : i * S ≤ (M - 1) * S = mul-le-mul_right S (omega arith) in omega arith
