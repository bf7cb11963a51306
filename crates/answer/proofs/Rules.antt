-- What an answer says of its call's rules.
--   kept, done-kept              where the answer's number is 0, no rule is broken; and where none is broken, the call is done
--   answer-chain                 rules checked one after the other give the answer of their list
--   after-done, after-refused    what a lent buffer holds, by the answer's number
--   front-done, front-none       a done call has put its values, or none, at the front of a destination
--   outside_not, not_outside     what is not outside is within, and what is within is not outside
-- Assumes nothing.
use mathlib.Core.Path.{◌≡◌, refl, sym, ap, ◌∙◌}
use mathlib.Core.Bool.{Bool, true, false, cond, ◌&&◌}
use mathlib.Core.List.{List, [], ◌∷◌, ◌++◌}
use Prim.Native.Nat.{ℕ, zero, suc, ◌≤◌}
use native.Mathlib.Omega.{arith}
use lib.Dec.{ltb}
use lib.ListN.{length, drop}
use borrow.Author.Tests.{ne_eqb, ltb-true, ltb-false, le-ltb}
use Rattle.lists.specs.Stores.{front}
use Rattle.lists.proofs.Cases.{both_left, both_right, neither_left, neither_right}
use Rattle.answer.specs.declared.Answer.{Answer}
use Rattle.answer.specs.Rules.{Rule, Kept, done, answer, refusal, checked, by_number, after, outside}

-- each rule's number is above 0, so that 0 is done
abbrev pub numbered : List Rule → Bool
numbered [] = true
numbered (r ∷ rs) = ltb 0 r.number && numbered rs

pub kept : (rs : List Rule) (f : ℕ) → numbered rs ≡ true → (answer rs f).number ≡ 0 → Kept rs
kept [] f n e = tt
kept (r ∷ rs) f n e = go (kept rs f (both_right (ltb 0 r.number) (numbered rs) n)) r.broken refl e
  where
    go : ((answer rs f).number ≡ 0 → Kept rs) → (b : Bool) → r.broken ≡ b → (cond b (refusal r.number r.figure) (answer rs f)).number ≡ 0
        → Kept (r ∷ rs)
    go rest true q z = absurd (omega (arith, ltb-true 0 r.number (both_left (ltb 0 r.number) (numbered rs) n)))
    go rest false q z = (q, rest z)

pub done-kept : (rs : List Rule) (f : ℕ) → Kept rs → answer rs f ≡ done f
done-kept [] f k = refl
done-kept (r ∷ rs) f k = rw k.0 (done-kept rs f k.1)

-- ---- rules checked one after the other

-- an answer once the rules rs are checked too
abbrev pub chain : Answer → List Rule → Answer
chain a [] = a
chain a (r ∷ rs) = chain (checked a r) rs

chain-refused : (rs : List Rule) (n f : ℕ) → ltb 0 n ≡ true → chain (refusal n f) rs ≡ refusal n f
chain-refused [] n f some = refl
chain-refused (r ∷ rs) n f some =
    let stays : checked (refusal n f) r ≡ refusal n f = rw (ne_eqb n 0 (λ z. omega (arith, ltb-true 0 n some))) in
    ap (λ (a : Answer). chain a rs) stays ∙ chain-refused rs n f some

pub answer-chain : (rs : List Rule) (f : ℕ) → numbered rs ≡ true → chain (done f) rs ≡ answer rs f
answer-chain [] f n = refl
answer-chain (r ∷ rs) f n =
    go r.broken refl (answer-chain rs f (both_right (ltb 0 r.number) (numbered rs) n))
  where
    go : (b : Bool) → r.broken ≡ b → chain (done f) rs ≡ answer rs f → chain (checked (done f) r) rs ≡ cond r.broken (refusal r.number r.figure) (answer rs f)
    go true e rest = rw e (chain-refused rs r.number r.figure (both_left (ltb 0 r.number) (numbered rs) n))
    go false e rest = rw e rest

module _ {A : Type 0} (a : Answer) (new old : A) where
  pub after-done : a.number ≡ 0 → after a new old ≡ new
  after-done e = rw e

  pub after-refused : (a.number ≡ 0 → ⊥) → after a new old ≡ old
  after-refused ne = go a.number ne
    where
      go : (n : ℕ) → (n ≡ 0 → ⊥) → by_number n new old ≡ old
      go zero z = absurd (z refl)
      go (suc n) z = refl

module _ {A : Type 0} (a : Answer) (vs dst : List A) (z : a.number ≡ 0) where
  pub front-done : (n : ℕ) {e : List A} → length vs ≡ n → e ≡ vs → e ++ drop n dst ≡ after a (front vs dst) dst
  front-done n len same = rw (same, ← len) (sym (after-done a (front vs dst) dst z))

  pub front-none : length vs ≡ 0 → dst ≡ after a (front vs dst) dst
  front-none none = sym (after-done a (front vs dst) dst z ∙ go vs none)
    where
      go : (vs : List A) → length vs ≡ 0 → front vs dst ≡ dst
      go [] e = refl
      go (v ∷ vs) e = absurd (omega arith)

pub outside_not : (lo hi n : ℕ) → outside lo hi n ≡ false → (lo ≤ n) × (n ≤ hi)
outside_not lo hi n e = (ltb-false n lo (neither_left (ltb n lo) (ltb hi n) e), ltb-false hi n (neither_right (ltb n lo) (ltb hi n) e))

pub not_outside : (lo hi n : ℕ) → lo ≤ n → n ≤ hi → outside lo hi n ≡ false
not_outside lo hi n low high = rw (le-ltb n lo low, le-ltb hi n high)
