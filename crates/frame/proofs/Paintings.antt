-- Painted frames.
--   painted_as, painted_again      the same values, known otherwise; one painting over another
--   painted_stays                  a painted frame is painted over itself
--   painted-once                   one painting of a destination, one outcome
-- Assumes nothing.
use mathlib.Core.Path.{◌≡◌, refl, sym, ◌∙◌}
use mathlib.Core.Bool.{true}
use mathlib.Core.List.{List}
use Prim.Native.Nat.{ℕ, ◌<◌}
use Rattle.frame.specs.declared.shape.Shape.{Shape}
use Rattle.frame.specs.Shape.{is_frame}
use Rattle.frame.proofs.ByLines.{frames_same}
use Rattle.frame.specs.Painted.{Painted}

pub painted_as : {sh : Shape} {G : ℕ → ℕ → ℕ} {g g' : List ℕ} (H : ℕ → ℕ → ℕ) → Painted sh G g g'
    → ((x y : ℕ) → x < sh.width → y < sh.height → G x y ≡ H x y) → Painted sh H g g'
painted_as H p e = record { same = p.same; pixels = λ x y h l. p.pixels x y h l ∙ e x y h l; gaps = p.gaps }

pub painted_again : {sh : Shape} {G H : ℕ → ℕ → ℕ} {g a b : List ℕ} → Painted sh G g a → Painted sh H a b → Painted sh H g b
painted_again p q = record { same = q.same ∙ p.same; pixels = q.pixels; gaps = λ k none. q.gaps k none ∙ p.gaps k none }

pub painted_stays : {sh : Shape} {G : ℕ → ℕ → ℕ} {g a : List ℕ} → Painted sh G g a → Painted sh G a a
painted_stays p = record { same = refl; pixels = p.pixels; gaps = λ k none. refl }

pub painted-once : {sh : Shape} {G : ℕ → ℕ → ℕ} {g a b : List ℕ} → is_frame sh ≡ true → Painted sh G g a → Painted sh G g b → a ≡ b
painted-once {sh} {G} {g} {a} {b} ok p q =
    frames_same sh a b ok (p.same ∙ sym q.same) (λ x y h l. p.pixels x y h l ∙ sym (q.pixels x y h l)) (λ i none. p.gaps i none ∙ sym (q.gaps i none))
