-- One input allows one outcome of each call; of `next` what it hands back, and what comes from there with the scratch that it leaves.
--   lists_once, nests_once, follows-once
-- Assumes nothing.
use mathlib.Core.Path.{◌≡◌, refl, sym, ap, ◌∙◌}
use Rattle.std.specs.Prelude.{Option, None, Some, MatchOption}
use mathlib.Core.List.{List, ◌∷◌}
use Prim.Native.Nat.{ℕ}
use Rattle.lists.specs.Stores.{front}
use Rattle.answer.specs.declared.Answer.{Answer}
use Rattle.answer.specs.Rules.{after}
use Rattle.bright.specs.declared.Nested.{Nested}
use Rattle.bright.specs.declared.Bookmark.{Bookmark}
use Rattle.bright.specs.declared.Step.{Step}
use Rattle.bright.specs.Stretches.{stretches}
use Rattle.bright.specs.Generator.{Layout, coming, Follows}
use Rattle.bright.specs.Nesting.{records, NestsLine}
use Rattle.bright.specs.Listing.{ListsLine}
use Rattle.bright.proofs.Steps.{coming-next}

pub lists_once : {f : List ℕ} {t t₁ t₂ : List Nested} {m m₁ m₂ : List ℕ} {a₁ a₂ : Answer} → ListsLine f t t₁ m m₁ a₁ → ListsLine f t t₂ m m₂ a₂
    → (a₁ ≡ a₂) × (t₁ ≡ t₂)
lists_once {f} {t} {t₁} {t₂} {m} {m₁} {m₂} {a₁} {a₂} p q =
    let e : a₁ ≡ a₂ = p.answers ∙ sym q.answers in
    (e, p.written ∙ ap (λ (a : Answer). after a (front (records (stretches f)) t) t) e ∙ sym q.written)

pub nests_once : {f p p₁ p₂ m m₁ m₂ : List ℕ} {r₁ r₂ : ℕ} → NestsLine f p p₁ m m₁ r₁ → NestsLine f p p₂ m m₂ r₂ → (r₁ ≡ r₂) × (p₁ ≡ p₂)
nests_once g h = (g.counts ∙ sym h.counts, g.written ∙ sym h.written)

pub follows-once : {run : Layout} {f m : List ℕ} {p : Bookmark} {m₁ m₂ : List ℕ} {r₁ r₂ : Option Step} → Follows run f m p m₁ r₁ → Follows run f m p m₂ r₂
    → (r₁ ≡ r₂) × MatchOption r₁ (m₁ ≡ m₂) (λ (s : Step). coming run f m₁ s.bookmark ≡ coming run f m₂ s.bookmark)
follows-once {run} {f} {m} {p} {m₁} {m₂} {r₁} {r₂} g h = (same, go r₁ refl)
  where
    same : r₁ ≡ r₂
    same = g.steps ∙ sym h.steps

    go : (r : Option Step) → r₁ ≡ r → MatchOption r (m₁ ≡ m₂) (λ (s : Step). coming run f m₁ s.bookmark ≡ coming run f m₂ s.bookmark)
    go None e =
        let g' = rw e at g in
        let h' = rw (sym same ∙ e) at h in
        g'.leaves ∙ sym h'.leaves
    go (Some s) e =
        let t : s.stretch ∷ coming run f m₁ s.bookmark ≡ s.stretch ∷ coming run f m₂ s.bookmark =
        sym (coming-next (rw e at g)) ∙ coming-next (rw (sym same ∙ e) at h) in
        cc
