-- One row's part of a pass: its lines stand a aside here, and b aside in the other row.
--   beside_in, beside-left, beside-right       the line's pixel there, or none
--   gone                                       no line of the row is in the frame there
--   row-right, row-left, row-gone              a row, where the lines go on to the right, to the left, or out of the frame
-- Assumes nothing.
use mathlib.Core.Path.{◌≡◌, sym, ap, ap₂, ◌∙◌}
use mathlib.Core.Bool.{Bool}
use mathlib.Core.List.{List}
use mathlib.Core.Logic.{◌⊎◌, ⊎_elim}
use Prim.Native.Nat.{ℕ, ◌+◌, ◌-◌, ◌≤◌, ◌<◌}
use native.Mathlib.Omega.{arith}
use lib.ListN.{length, get_or}
use borrow.Author.Tests.{le-leb, lt-leb, lt-ltb, le-ltb}
use Rattle.lists.specs.Stores.{Filled}
use Rattle.lists.proofs.Cases.{less_or_not}
use Rattle.lists.proofs.Stores.{filled_as}
use Rattle.passes.specs.Passes.{op, straight, met, Meets, Fades}
use Rattle.rows.specs.Down as down
use Rattle.rows.specs.Down.{beside}

module _ (g : List ℕ) (from n a b : ℕ) where
  pub beside_in : (k : ℕ) → b ≤ k + a → k + a < b + n → beside g from n a b k ≡ get_or g (from + (k + a - b)) 0
  unfolding down.beside
  beside_in k lo hi = rw (le-leb b (k + a) lo, lt-ltb (k + a) (b + n) hi)

  pub beside-left : (k : ℕ) → k + a < b → beside g from n a b k ≡ 0
  unfolding down.beside
  beside-left k out = rw (lt-leb b (k + a) out)

  pub beside-right : (k : ℕ) → b ≤ k + a → b + n ≤ k + a → beside g from n a b k ≡ 0
  unfolding down.beside
  beside-right k lo out = rw (le-leb b (k + a) lo, le-ltb (k + a) (b + n) out)

-- the line is out of the frame in the other row, at every pixel of this one
pub gone : (g : List ℕ) (from n a b : ℕ) → (b + n ≤ a) ⊎ (a + n ≤ b) → (k : ℕ) → k < n → beside g from n a b k ≡ 0
gone g from n a b far k h =
    ⊎_elim (λ right. beside-right g from n a b k (omega arith) (omega arith)) (λ left. beside-left g from n a b k (omega arith)) far

module _ {darker : Bool} {g g₁ : List ℕ} (at n other a b : ℕ) (here : at + n ≤ length g) where
  pub row-gone : ((k : ℕ) → k < n → beside g other n a b k ≡ 0) → Fades darker at n g g₁
      → Filled g g₁ at (at + n) (λ (x : ℕ). op darker (get_or g x 0) (beside g other n a b (x - at)))
  row-gone none f =
      filled_as (f.done here) (λ (x : ℕ). op darker (get_or g x 0) (beside g other n a b (x - at)))
      (λ x l h. ap (op darker (get_or g x 0)) (sym (none (x - at) (omega arith))))

  module _ (δ : ℕ) (there : other + n ≤ length g) (near : δ < n) {g₂ : List ℕ} where
    pub row-right : a ≡ b + δ → Meets darker at (other + δ) (n - δ) g g₁ → Fades darker (at + (n - δ)) δ g₁ g₂
        → Filled g g₂ at (at + n) (λ (x : ℕ). op darker (get_or g x 0) (beside g other n a b (x - at)))
    row-right right pass fade =
        let d : Filled g g₁ at (at + (n - δ)) (met (op darker) (straight (other + δ)) at g) = pass.done (omega arith) (omega arith) in
        let c : Filled g₁ g₂ (at + (n - δ)) (at + (n - δ) + δ) (λ (x : ℕ). op darker (get_or g₁ x 0) 0) = fade.done (omega (arith, d.same)) in
        record {
          same = c.same ∙ d.same;
          within = λ x l h.
              ⊎_elim
              (λ in'.
              let e : other + δ + (x - at) ≡ other + (x - at + a - b) = omega arith in
              c.below x in'
              ∙ d.within x l in'
              ∙ ap (op darker (get_or g x 0)) (ap (λ (y : ℕ). get_or g y 0) e ∙ sym (beside_in g other n a b (x - at) (omega arith) (omega arith))))
              (λ out.
              c.within x out (omega arith)
              ∙ ap₂ (op darker) (d.above x out) (sym (beside-right g other n a b (x - at) (omega arith) (omega arith))))
              (less_or_not x (at + (n - δ)));
          below = λ x l. c.below x (omega arith) ∙ d.below x l;
          above = λ x l. c.above x (omega arith) ∙ d.above x (omega arith);
        }

    pub row-left : b ≡ a + δ → Meets darker (at + δ) other (n - δ) g g₁ → Fades darker at δ g₁ g₂
        → Filled g g₂ at (at + n) (λ (x : ℕ). op darker (get_or g x 0) (beside g other n a b (x - at)))
    row-left left pass fade =
        let d : Filled g g₁ (at + δ) (at + δ + (n - δ)) (met (op darker) (straight other) (at + δ) g) = pass.done (omega arith) (omega arith) in
        let c : Filled g₁ g₂ at (at + δ) (λ (x : ℕ). op darker (get_or g₁ x 0) 0) = fade.done (omega (arith, d.same)) in
        record {
          same = c.same ∙ d.same;
          within = λ x l h.
              ⊎_elim
              (λ out. c.within x l out ∙ ap₂ (op darker) (d.below x out) (sym (beside-left g other n a b (x - at) (omega arith))))
              (λ in'.
              let e : other + (x - (at + δ)) ≡ other + (x - at + a - b) = omega arith in
              c.above x in'
              ∙ d.within x in' (omega arith)
              ∙ ap (op darker (get_or g x 0)) (ap (λ (y : ℕ). get_or g y 0) e ∙ sym (beside_in g other n a b (x - at) (omega arith) (omega arith))))
              (less_or_not x (at + δ));
          below = λ x l. c.below x l ∙ d.below x (omega arith);
          above = λ x l. c.above x (omega arith) ∙ d.above x (omega arith);
        }
