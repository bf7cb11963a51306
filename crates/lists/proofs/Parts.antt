-- A part of a list, lent and put back.
--   filled-part               put back somewhere: its values are where it was
--   filled-put                put back somewhere after stores all over it: they are stores in the list
--   part_at                   what stands in the part from a to e
--   tail_lent                 the part from a to the end is what is left behind a
--   tail_front, tail_put      put back at the end: what stands before it stays
-- Assumes nothing.
use mathlib.Core.Path.{◌≡◌, sym, ap, ◌∙◌}
use mathlib.Core.List.{List, ◌++◌, append-nil}
use Prim.Native.Nat.{ℕ, ◌+◌, ◌-◌, ◌≤◌, ◌<◌, zero-le}
use native.Mathlib.Omega.{arith}
use lib.ListN.{length, get_or, take, drop, length-append, length-drop, get_or-append}
use lib.Seq.{length-take-le, take_all, drop-length, take_at, drop_at, get_or-take, get_or-drop, get_or-append-add}
use Rattle.lists.specs.Stores.{Filled}
use Rattle.lists.proofs.Stores.{filled_as, filled_end}

-- k values ys in the place of those from a on
pub filled-part : (a k : ℕ) (xs ys : List ℕ) → length ys ≡ k → a + k ≤ length xs
    → Filled xs (take a xs ++ (ys ++ drop k (drop a xs))) a (a + k) (λ (n : ℕ). get_or ys (n - a) 0)
filled-part a k xs ys e fit =
    record {
      same = length-append (take a xs) (ys ++ drop k (drop a xs)) ∙ omega (arith, front, length-append ys (drop k (drop a xs)), length-drop k (drop a xs), length-drop a xs);
      within = λ n l h. at n l ∙ get_or-append ys (drop k (drop a xs)) 0 (n - a) (omega arith);
      below = λ n h. get_or-append (take a xs) (ys ++ drop k (drop a xs)) 0 n (omega (arith, front)) ∙ get_or-take a xs n 0 h;
      above = λ n h.
          let s : length ys + (n - a - k) ≡ n - a = omega arith in
          let t : a + (k + (n - a - k)) ≡ n = omega arith in
          at n (omega arith)
          ∙ ap (λ (m : ℕ). get_or (ys ++ drop k (drop a xs)) m 0) (sym s)
          ∙ get_or-append-add ys (drop k (drop a xs)) (n - a - k) 0
          ∙ get_or-drop k (drop a xs) (n - a - k) 0
          ∙ get_or-drop a xs (k + (n - a - k)) 0
          ∙ ap (λ (m : ℕ). get_or xs m 0) t;
    }
  where
    front : length (take a xs) ≡ a
    front = length-take-le a xs (omega arith)

    at : (n : ℕ) → a ≤ n → get_or (take a xs ++ (ys ++ drop k (drop a xs))) n 0 ≡ get_or (ys ++ drop k (drop a xs)) (n - a) 0
    at n l =
        let s : length (take a xs) + (n - a) ≡ n = omega (arith, front) in
        ap (λ (m : ℕ). get_or (take a xs ++ (ys ++ drop k (drop a xs))) m 0) (sym s) ∙ get_or-append-add (take a xs) (ys ++ drop k (drop a xs)) (n - a) 0

pub filled-put : {a e : ℕ} {xs ys : List ℕ} {hi : ℕ} {G : ℕ → ℕ} → Filled (take (e - a) (drop a xs)) ys 0 hi G → hi ≡ e - a → a ≤ e → e ≤ length xs
    → (F : ℕ → ℕ) → ((n : ℕ) → a ≤ n → n < e → G (n - a) ≡ F n) → Filled xs (take a xs ++ (ys ++ drop (e - a) (drop a xs))) a e F
filled-put {a} {e} {xs} {ys} f all some fit F alike =
    let part : length (take (e - a) (drop a xs)) ≡ e - a = length-take-le (e - a) (drop a xs) (omega (arith, length-drop a xs)) in
    filled_as (filled_end (filled-part a (e - a) xs ys (f.same ∙ part) (omega arith)) (omega arith)) F
    (λ n l h. f.within (n - a) zero-le (omega arith) ∙ alike n l h)

pub part_at : (a e : ℕ) (xs : List ℕ) (k n : ℕ) → k < e - a → a + k ≡ n → get_or (take (e - a) (drop a xs)) k 0 ≡ get_or xs n 0
part_at a e xs k n h here = get_or-take (e - a) (drop a xs) k 0 h ∙ get_or-drop a xs k 0 ∙ ap (λ (m : ℕ). get_or xs m 0) here

module _ (a : ℕ) (xs : List ℕ) where
  pub tail_lent : take (length xs - a) (drop a xs) ≡ drop a xs
  tail_lent = take_all (length xs - a) (drop a xs) (omega (arith, length-drop a xs))

  module _ (ys : List ℕ) (fit : a ≤ length xs) where
    pub tail_front : take a (take a xs ++ (ys ++ drop (length xs - a) (drop a xs))) ≡ take a xs
    tail_front = take_at (take a xs) (ys ++ drop (length xs - a) (drop a xs)) a (length-take-le a xs fit)

    pub tail_put : drop a (take a xs ++ (ys ++ drop (length xs - a) (drop a xs))) ≡ ys
    tail_put =
        drop_at (take a xs) (ys ++ drop (length xs - a) (drop a xs)) a (length-take-le a xs fit)
        ∙ ap (λ (n : ℕ). ys ++ drop n (drop a xs)) (sym (length-drop a xs))
        ∙ ap (λ (l : List ℕ). ys ++ l) (drop-length (drop a xs))
        ∙ append-nil ys
