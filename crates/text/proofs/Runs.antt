-- Runs of stores, and lines of text.
--   sets_one, sets_more      a run of stores with one more at its end; one run after the other
--   sets_front               a run of stores from the first entry on stands at the front
--   puts_none, puts_past     no byte put; bytes put behind the last place
--   puts_join                one text put behind another
--   Left                     what is left to put of a text, where a part of it stands; left-start, left-more, left_end, left-room
--   fields_cons, fields_end  what follows place i of the fields, with the first apart; behind the last nothing does
--   fields_least, fields_most    each field is a tab and a digit at least, and 20 digits at most
--   line_most, each_most     how long a line is at most, and the texts of some places are
--   each_within              the texts of the first places are no longer than those of all
--   puts_each                the texts of one place more, put behind the others
-- Assumes nothing.
use mathlib.Core.Path.{◌≡◌, refl, sym, ◌∙◌, ap}
use mathlib.Core.List.{List, [], ◌∷◌, ◌++◌, append_assoc}
use mathlib.Core.Logic.{⊎_elim}
use Prim.Native.Nat.{ℕ, zero, suc, ◌+◌, ◌*◌, ◌≤◌, ◌<◌, zero-le}
use native.Mathlib.Nat.{add-zero, add-suc, suc-add, suc-mul}
use native.Mathlib.Numerals.{add-one}
use native.Mathlib.Omega.{arith}
use lib.ListN.{length, set, get_or, drop, length-append}
use lib.Seq.{sets, sets-eq, drop-cons, drop-length}
use Rattle.std.proofs.lemmas.List.{set_past}
use Rattle.lists.specs.Stores.{front}
use Rattle.lists.specs.Tables.{each}
use Rattle.lists.proofs.Cases.{less_or_not}
use Rattle.text.specs.Decimal.{decimal}
use Rattle.text.specs.Lines.{tab, feed, fields_text, line_text, Puts}
use Rattle.text.proofs.Decimals.{decimal-some, decimal-most}

pub sets_one : (l : List ℕ) (i : ℕ) (xs : List ℕ) (a : ℕ) → sets l i (xs ++ (a ∷ [])) ≡ set (sets l i xs) (i + length xs) a
sets_one l i [] a = ap (λ (k : ℕ). set l k a) (sym (add-zero i))
sets_one l i (x ∷ xs) a =
    sets_one (set l i x) (suc i) xs a ∙ ap (λ (k : ℕ). set (sets (set l i x) (suc i) xs) k a) (suc-add i (length xs) ∙ sym (add-suc i (length xs)))

pub sets_more : (l : List ℕ) (i : ℕ) (xs ys : List ℕ) → sets (sets l i xs) (i + length xs) ys ≡ sets l i (xs ++ ys)
sets_more l i [] ys = ap (λ (k : ℕ). sets l k ys) (add-zero i)
sets_more l i (x ∷ xs) ys =
    ap (λ (k : ℕ). sets (sets (set l i x) (suc i) xs) k ys) (add-suc i (length xs) ∙ sym (suc-add i (length xs))) ∙ sets_more (set l i x) (suc i) xs ys

pub sets_front : (l xs : List ℕ) → length xs ≤ length l → sets l 0 xs ≡ front xs l
sets_front l xs fit = let same : 0 + length xs ≡ length xs = omega arith in sets-eq xs l 0 (omega arith) ∙ ap (λ (n : ℕ). xs ++ drop n l) same

-- behind the last place no byte is put
pub puts_past : (d : List ℕ) (at : ℕ) (bs : List ℕ) (r : ℕ) → length d ≤ at → r ≡ at + length bs → Puts d at bs d r
puts_past d at bs r h e = record { next = e; wrote = sym (past d at bs h) }
  where
    past : (d : List ℕ) (at : ℕ) (bs : List ℕ) → length d ≤ at → sets d at bs ≡ d
    past d at [] h = refl
    past d at (b ∷ bs) h = ap (λ (l : List ℕ). sets l (suc at) bs) (set_past d at b h) ∙ past d (suc at) bs (omega arith)

pub puts_none : (d : List ℕ) (at : ℕ) → Puts d at [] d at
puts_none d at = record { next = sym (add-zero at); wrote = refl }

pub puts_join : {d d₁ d₂ : List ℕ} {at r₁ r₂ : ℕ} {xs ys : List ℕ} → Puts d at xs d₁ r₁ → Puts d₁ r₁ ys d₂ r₂ → Puts d at (xs ++ ys) d₂ r₂
puts_join {d} {d₁} {d₂} {at} {r₁} {r₂} {xs} {ys} p q =
    record {
      next = omega (arith, p.next, q.next, length-append xs ys);
      wrote = q.wrote ∙ rw (p.wrote, p.next) (sets_more d at xs ys);
    }

-- of the text `all` from `at` on, `rest` is left to put from r on
pub record Left (d : List ℕ) (at : ℕ) (all d' : List ℕ) (r : ℕ) (rest : List ℕ) : Type 0 where
  pub next : r + length rest ≡ at + length all
  pub wrote : sets d' r rest ≡ sets d at all

pub left-start : (d : List ℕ) (at : ℕ) (all : List ℕ) → Left d at all d at all
left-start d at all = record { next = refl; wrote = refl }

module _ {d all d₁ : List ℕ} {at r₁ : ℕ} {xs : List ℕ} where
  pub left-more : {ys d₂ : List ℕ} {r₂ : ℕ} → Left d at all d₁ r₁ (xs ++ ys) → Puts d₁ r₁ xs d₂ r₂ → Left d at all d₂ r₂ ys
  left-more {ys} {d₂} {r₂} l p =
      record {
        next = omega (arith, l.next, p.next, length-append xs ys);
        wrote = rw (p.wrote, p.next) (sets_more d₁ r₁ xs ys ∙ l.wrote);
      }

  pub left_end : {d₂ : List ℕ} {r₂ : ℕ} → Left d at all d₁ r₁ xs → Puts d₁ r₁ xs d₂ r₂ → Puts d at all d₂ r₂
  left_end l p = record { next = omega (arith, l.next, p.next); wrote = p.wrote ∙ l.wrote }

pub left-room : {d all d₁ : List ℕ} {at r₁ : ℕ} (xs ys : List ℕ) → Left d at all d₁ r₁ (xs ++ ys) → r₁ + length xs ≤ at + length all
left-room xs ys l = omega (arith, l.next, length-append xs ys)

module _ (vs : List ℕ) (i : ℕ) (t : List ℕ) where
  pub fields_cons : i < length vs → fields_text (drop i vs) ++ t ≡ (tab ∷ decimal (get_or vs i 0)) ++ (fields_text (drop (i + 1) vs) ++ t)
  unfolding fields_text
  fields_cons h = rw (add-one, drop-cons vs i 0 h) (append_assoc (tab ∷ decimal (get_or vs i 0)) (fields_text (drop (suc i) vs)) t)

  pub fields_end : i ≡ length vs → fields_text (drop i vs) ++ t ≡ t
  unfolding fields_text
  fields_end e = rw (e, drop-length)

pub fields_least : (vs : List ℕ) → 2 * length vs ≤ length (fields_text vs)
unfolding fields_text
fields_least [] = zero-le
fields_least (v ∷ vs) = omega (arith, length-append (tab ∷ decimal v) (fields_text vs), fields_least vs, decimal-some v)

pub fields_most : (vs : List ℕ) → length (fields_text vs) ≤ 21 * length vs
unfolding fields_text
fields_most [] = zero-le
fields_most (v ∷ vs) = omega (arith, length-append (tab ∷ decimal v) (fields_text vs), fields_most vs, decimal-most v)

pub line_most : (b : ℕ) (vs : List ℕ) → length (line_text b vs) ≤ 2 + 21 * length vs
line_most b vs = omega (arith, length-append (fields_text vs) (feed ∷ []), fields_most vs)

pub each_most : (f : ℕ → List ℕ) (most n : ℕ) → ((i : ℕ) → length (f i) ≤ most) → length (each f n) ≤ n * most
unfolding each
each_most f most zero h = zero-le
each_most f most (suc n) h = omega (arith, length-append (each f n) (f n), each_most f most n h, h n, suc-mul n most)

pub each_within : (f : ℕ → List ℕ) (i n : ℕ) → i < n → length (each f i) + length (f i) ≤ length (each f n)
unfolding each
each_within f i zero h = elim h [ ]
each_within f i (suc n) h =
    ⊎_elim (λ l. omega (arith, length-append (each f n) (f n), each_within f i n l))
    (λ (g : n ≤ i). let last : i ≡ n = omega arith in rw last (omega (arith, length-append (each f n) (f n))))
    (less_or_not i n)

pub puts_each : {d d₁ d₂ : List ℕ} {at r₁ r₂ : ℕ} (f : ℕ → List ℕ) (i : ℕ) → Puts d at (each f i) d₁ r₁ → Puts d₁ r₁ (f i) d₂ r₂ → Puts d at (each f (i + 1)) d₂ r₂
unfolding each
puts_each f i p q = rw add-one (puts_join p q)
