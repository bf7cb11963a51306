-- A loop that stores one value a turn, upward or downward, and one stretch of stores after another.
--   filled_none                     no store
--   filled_more, filled-before      one store more, behind the others or before them
--   filled_join, filled_join_before one stretch behind another, or before it
--   filled_again                    one stretch stored a second time
--   filled_end, filled-start, filled_as    the same stretch, its ends and values known by equations
--   filled-whole, filled_copy, filled-front    what a filled list is
--   filled-once                     one stretch of stores leaves one list
--   front_at, front-past            the values at the front, and what follows them
--   front_length, front-more        the length stays, and one value more is one store
-- Assumes nothing.
use mathlib.Core.Path.{◌≡◌, refl, sym, ap, ◌∙◌, subst}
use mathlib.Core.List.{List, [], ◌∷◌, ◌++◌, append_assoc}
use mathlib.Core.Logic.{⊎_elim}
use Prim.Native.Nat.{ℕ, suc, ◌+◌, ◌-◌, ◌≤◌, ◌<◌, zero-le}
use native.Mathlib.Nat.{eq-or-lt_of_le}
use native.Mathlib.Omega.{arith}
use lib.ListN.{length, get_or, set, drop, length-set, length-append, length-drop, get_or-append}
use lib.Seq.{drop-cons, set-append_seam, get_or-set_same, get_or-set_other, get_or-append-add, get_or-drop, ext_get_or}
use Rattle.lists.specs.Tables.{table}
use Rattle.lists.specs.Stores.{Filled, front}
use Rattle.lists.proofs.Cases.{less_or_not}
use Rattle.lists.proofs.Tables.{table-by}

pub filled_none : (d : List ℕ) (lo : ℕ) (F : ℕ → ℕ) → Filled d d lo lo F
filled_none d lo F =
    record {
      same = refl;
      within = λ k h l. absurd (omega arith);
      below = λ k h. refl;
      above = λ k h. refl;
    }

pub filled_more : {d a : List ℕ} {lo i : ℕ} {F : ℕ → ℕ} {v : ℕ} → Filled d a lo i F → lo ≤ i → i < length a → v ≡ F i → Filled d (set a i v) lo (i + 1) F
filled_more {d} {a} {lo} {i} {F} {v} f low room e =
    record {
      same = length-set a i v ∙ f.same;
      within = λ k h l.
          ⊎_elim
          (λ q. subst (λ (m : ℕ). get_or (set a i v) m 0 ≡ F m) (sym q) (get_or-set_same a i v 0 room ∙ e))
          (λ q. get_or-set_other a i k v 0 (omega arith) ∙ f.within k h q)
          (eq-or-lt_of_le {n = k} {m = i} (omega arith));
      below = λ k h. get_or-set_other a i k v 0 (omega arith) ∙ f.below k h;
      above = λ k h. get_or-set_other a i k v 0 (omega arith) ∙ f.above k (omega arith);
    }

pub filled-before : {d a : List ℕ} {lo hi i : ℕ} {F : ℕ → ℕ} {v : ℕ} → Filled d a lo hi F → i + 1 ≡ lo → lo ≤ hi → i < length a → v ≡ F i
    → Filled d (set a i v) i hi F
filled-before {d} {a} {lo} {hi} {i} {F} {v} f next some room e =
    record {
      same = length-set a i v ∙ f.same;
      within = λ k h l.
          ⊎_elim
          (λ q. subst (λ (m : ℕ). get_or (set a i v) m 0 ≡ F m) q (get_or-set_same a i v 0 room ∙ e))
          (λ q. get_or-set_other a i k v 0 (omega arith) ∙ f.within k (omega arith) l)
          (eq-or-lt_of_le h);
      below = λ k h. get_or-set_other a i k v 0 (omega arith) ∙ f.below k (omega arith);
      above = λ k h. get_or-set_other a i k v 0 (omega arith) ∙ f.above k h;
    }

pub filled_end : {d a : List ℕ} {lo i hi : ℕ} {F : ℕ → ℕ} → Filled d a lo i F → i ≡ hi → Filled d a lo hi F
filled_end {d} {a} {lo} {i} {hi} {F} f e = subst (λ (m : ℕ). Filled d a lo m F) e f

pub filled-start : {d a : List ℕ} {i lo hi : ℕ} {F : ℕ → ℕ} → Filled d a i hi F → i ≡ lo → Filled d a lo hi F
filled-start {d} {a} {i} {lo} {hi} {F} f e = subst (λ (m : ℕ). Filled d a m hi F) e f

pub filled_as : {d a : List ℕ} {lo hi : ℕ} {G : ℕ → ℕ} → Filled d a lo hi G → (F : ℕ → ℕ) → ((k : ℕ) → lo ≤ k → k < hi → G k ≡ F k) → Filled d a lo hi F
filled_as f F e = record { same = f.same; within = λ k l h. f.within k l h ∙ e k l h; below = f.below; above = f.above }

pub filled_join : {d a b : List ℕ} {lo mid hi : ℕ} {F : ℕ → ℕ} → Filled d a lo mid F → Filled a b mid hi F → lo ≤ mid → mid ≤ hi → Filled d b lo hi F
filled_join {d} {a} {b} {lo} {mid} {hi} {F} f g low high =
    record {
      same = g.same ∙ f.same;
      within = λ k h l.
          ⊎_elim
          (λ q. g.below k q ∙ f.within k h q)
          (λ q. g.within k q l)
          (less_or_not k mid);
      below = λ k h. g.below k (omega arith) ∙ f.below k h;
      above = λ k h. g.above k h ∙ f.above k (omega arith);
    }

pub filled_join_before : {d a b : List ℕ} {lo mid hi : ℕ} {F : ℕ → ℕ} → Filled d a mid hi F → Filled a b lo mid F → lo ≤ mid → mid ≤ hi → Filled d b lo hi F
filled_join_before {d} {a} {b} {lo} {mid} {hi} {F} f g low high =
    record {
      same = g.same ∙ f.same;
      within = λ k h l.
          ⊎_elim
          (λ q. g.within k h q)
          (λ q. g.above k q ∙ f.within k q l)
          (less_or_not k mid);
      below = λ k h. g.below k h ∙ f.below k (omega arith);
      above = λ k h. g.above k (omega arith) ∙ f.above k h;
    }

pub filled_again : {d a b : List ℕ} {lo hi : ℕ} {F G : ℕ → ℕ} → Filled d a lo hi G → Filled a b lo hi F → Filled d b lo hi F
filled_again f g = record { same = g.same ∙ f.same; within = g.within; below = λ k h. g.below k h ∙ f.below k h; above = λ k h. g.above k h ∙ f.above k h }

-- filled from the first place to the last
pub filled-whole : {d a : List ℕ} {hi : ℕ} {F : ℕ → ℕ} → Filled d a 0 hi F → hi ≡ length d → a ≡ table F hi
filled-whole {d} {a} {hi} {F} f e = table-by 0 a F hi (f.same ∙ sym e) (λ k l. f.within k zero-le l)

-- filled with the values of another list of its length
pub filled_copy : {d a : List ℕ} {hi : ℕ} (f : List ℕ) → Filled d a 0 hi (λ (k : ℕ). get_or f k 0) → hi ≡ length f → length d ≡ length f → a ≡ f
filled_copy {d} {a} {hi} f p e n = ext_get_or 0 a f (p.same ∙ n) (λ k l. p.within k zero-le (omega (arith, p.same)))

pub front_at : {A : Type 0} (vs dst : List A) (i : ℕ) (d : A) → i < length vs → get_or (front vs dst) i d ≡ get_or vs i d
front_at vs dst i d h = get_or-append vs (drop (length vs) dst) d i h

pub front-past : {A : Type 0} (vs dst : List A) (k : ℕ) (d : A) → length vs ≤ k → get_or (front vs dst) k d ≡ get_or dst k d
front-past vs dst k d h =
    let e : length vs + (k - length vs) ≡ k = omega arith in
    ap (λ (i : ℕ). get_or (front vs dst) i d) (sym e)
    ∙ get_or-append-add vs (drop (length vs) dst) (k - length vs) d
    ∙ get_or-drop (length vs) dst (k - length vs) d
    ∙ ap (λ (i : ℕ). get_or dst i d) e

-- filled with the values vs at the front
pub filled-front : {d a : List ℕ} {hi : ℕ} (vs : List ℕ) → Filled d a 0 hi (λ (k : ℕ). get_or vs k 0) → length vs ≡ hi → hi ≤ length d → a ≡ front vs d
filled-front {d} {a} {hi} vs f e fit =
    ext_get_or 0 a (front vs d)
    (f.same ∙ omega (arith, length-append vs (drop (length vs) d), length-drop (length vs) d))
    (λ k l.
    ⊎_elim
    (λ q. f.within k zero-le q ∙ sym (front_at vs d k 0 (omega arith)))
    (λ q. f.above k q ∙ sym (front-past vs d k 0 (omega arith)))
    (less_or_not k hi))

pub filled-once : {b b₁ b₂ : List ℕ} {lo hi : ℕ} {F : ℕ → ℕ} → Filled b b₁ lo hi F → Filled b b₂ lo hi F → b₁ ≡ b₂
filled-once {b} {b₁} {b₂} {lo} {hi} p q =
    ext_get_or 0 b₁ b₂ (p.same ∙ sym q.same)
    (λ k h.
    ⊎_elim
    (λ low. p.below k low ∙ sym (q.below k low))
    (λ from. ⊎_elim (λ in'. p.within k from in' ∙ sym (q.within k from in')) (λ past. p.above k past ∙ sym (q.above k past)) (less_or_not k hi))
    (less_or_not k lo))

-- ---- values at the front

module _ {A : Type 0} (d : List A) where
  pub front_length : (vs : List A) → length vs ≤ length d → length (front vs d) ≡ length d
  front_length vs fit = omega (arith, length-append vs (drop (length vs) d), length-drop (length vs) d)

  pub front-more : (vs : List A) (v : A) → length vs < length d → set (front vs d) (length vs) v ≡ front (vs ++ (v ∷ [])) d
  front-more vs v fit =
      let n : length (vs ++ (v ∷ [])) ≡ suc (length vs) = length-append vs (v ∷ []) ∙ omega arith in
      rw (drop-cons d (length vs) v fit, set-append_seam, n, append_assoc)
