-- One input allows one outcome of each call: its answer, and its destinations after it. What scratch holds after a done call is the exception.
--   opens-once, highest_once, host_once
-- Assumes nothing.
use mathlib.Core.Path.{◌≡◌, refl, sym, ap, ◌∙◌}
use mathlib.Core.Bool.{true}
use mathlib.Core.List.{List}
use Prim.Native.Nat.{ℕ, zero, suc, ◌+◌, ◌*◌, ◌^◌}
use native.Mathlib.Omega.{arith}
use lib.ListN.{length}
use Rattle.answer.specs.declared.Answer.{Answer}
use Rattle.frame.specs.declared.direction.Direction.{Direction}
use Rattle.frame.specs.declared.shape.Shape.{Shape}
use Rattle.frame.specs.Shape.{is_frame}
use Rattle.frame.specs.Painted.{Painted}
use Rattle.frame.proofs.Paintings.{painted-once}
use Rattle.opening.specs.Frames.{OpensFrame}
use Rattle.opening.specs.Sixteen.{FindsHighest}
use Rattle.opening.specs.Host.{HostOpens}
use Rattle.opening.proofs.Calls.{open_ready, highest_ready}

-- a call with the number n paints its destination where n is 0, and else leaves it as it was
settled : {sh : Shape} {G : ℕ → ℕ → ℕ} {g g₁ g₂ : List ℕ} (n : ℕ) → (n ≡ 0 → is_frame sh ≡ true) → (n ≡ 0 → Painted sh G g g₁) → (n ≡ 0 → Painted sh G g g₂)
    → ((n ≡ 0 → ⊥) → g₁ ≡ g) → ((n ≡ 0 → ⊥) → g₂ ≡ g) → g₁ ≡ g₂
settled zero ok p q r s = painted-once (ok refl) (p refl) (q refl)
settled (suc n) ok p q r s = r (λ e. omega arith) ∙ sym (s (λ e. omega arith))

module _ {f : List ℕ} {sh : Shape} {L : ℕ} {g g₁ g₂ t t₁ t₂ : List ℕ} where
  pub opens-once : {d : Direction} {a₁ a₂ : Answer} → OpensFrame f sh d L g g₁ t t₁ a₁ → OpensFrame f sh d L g g₂ t t₂ a₂ → (a₁ ≡ a₂) × (g₁ ≡ g₂)
  opens-once {d} {a₁} {a₂} p q =
      let e : a₁ ≡ a₂ = p.answers ∙ sym q.answers in
      let n : a₁.number ≡ a₂.number = ap (λ (a : Answer). a.number) e in
      let framed : a₁.number ≡ 0 → is_frame sh ≡ true = λ z. (open_ready sh L (length f) (length g) d (length t) p.answers z).ok.frame in
      (e, settled a₁.number framed p.done (λ z. q.done (sym n ∙ z)) (λ r. (p.refused r).0) (λ r. (q.refused (λ z. r (n ∙ z))).0))

  pub highest_once : {h h₁ h₂ : List ℕ} {a₁ a₂ : Answer} → FindsHighest f sh L g g₁ h h₁ t t₁ a₁ → FindsHighest f sh L g g₂ h h₂ t t₂ a₂ → (a₁ ≡ a₂) × (g₁ ≡ g₂) × (h₁ ≡ h₂)
  highest_once {h} {h₁} {h₂} {a₁} {a₂} p q =
      let e : a₁ ≡ a₂ = p.answers ∙ sym q.answers in
      let n : a₁.number ≡ a₂.number = ap (λ (a : Answer). a.number) e in
      let framed : a₁.number ≡ 0 → is_frame sh ≡ true = λ z. (highest_ready sh L (length f) (length g) (length h) (length t) p.answers z).ok.frame in (
        e,
        settled a₁.number framed p.brightness (λ z. q.brightness (sym n ∙ z)) (λ r. (p.refused r).0) (λ r. (q.refused (λ z. r (n ∙ z))).0),
        settled a₁.number framed p.directions (λ z. q.directions (sym n ∙ z)) (λ r. (p.refused r).1) (λ r. (q.refused (λ z. r (n ∙ z))).1),
      )

  pub host_once : {d : Direction} {n₁ n₂ : ℕ} → HostOpens f sh d L g g₁ t t₁ n₁ → HostOpens f sh d L g g₂ t t₂ n₂ → (n₁ ≡ n₂) × (g₁ ≡ g₂)
  host_once p q =
      let once = opens-once p.opens q.opens in
      (p.gives ∙ ap (λ (a : Answer). a.number * 2 ^ 32 + a.figure) once.0 ∙ sym q.gives, once.1)
