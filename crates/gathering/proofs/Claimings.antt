-- The test of a claim: one that changes nothing, and one that is made.
--   claim_none     a line without pixels
--   claim_unfit    a test that is not passed
--   claim_refused  the same of what the call tests
--   claim_fits_lem, claim_made  a test that is, and what it makes
-- Assumes nothing.
use mathlib.Core.Path.{◌≡◌, refl, sym, ap, ◌∙◌}
use mathlib.Core.Bool.{Bool, true, false, cond, ◌&&◌, false≢true}
use mathlib.Core.Logic.{◌⊎◌, inl, inr}
use mathlib.Core.List.{List, [], ◌∷◌, map}
use Prim.Native.Nat.{ℕ, zero, suc, ◌≤◌, ◌<◌}
use native.Mathlib.Omega.{arith}
use lib.Dec.{leb}
use lib.ListN.{length}
use lib.IntN.{ℤ}
use borrow.Author.Tests.{le-leb, lt-leb}
use Rattle.frame.specs.declared.direction.Direction.{Direction}
use Rattle.frame.specs.declared.shape.Shape.{Shape}
use Rattle.frame.specs.declared.track.Track.{Track}
use Rattle.frame.specs.Direction.{is_direction}
use Rattle.frame.specs.Shape.{is_frame, needed}
use Rattle.frame.specs.Lines.{Pixel, pixels, empty, place}
use Rattle.frame.specs.Span.{track_of}
use Rattle.frame.specs.Sweep.{Accepted}
use Rattle.frame.proofs.Shapes.{accepted_or_not, needed-by}
use Rattle.frame.proofs.Tracks.{track_line, track_none, track_some}
use Rattle.gathering.specs.Claiming.{raised, held, claim_fits, ClaimsLine}

nothing : (cs : List Pixel) → empty cs ≡ true → cs ≡ []
nothing [] e = refl
nothing (c ∷ cs) e = absurd (false≢true e)

either : {A : Type 0} (t : Bool) (x y : A) → x ≡ y → y ≡ cond t x y
either true x y e = sym e
either false x y e = refl

not-all : (s t u : Bool) → (s ≡ false) ⊎ (t ≡ false) ⊎ (u ≡ false) → (s && t && u) ≡ false
not-all s t u (inl e) = rw e
not-all true t u (inr (inl e)) = rw e
not-all false t u (inr (inl e)) = refl
not-all true true u (inr (inr e)) = e
not-all true false u (inr (inr e)) = refl
not-all false t u (inr (inr e)) = refl

module _ (values : List ℕ) (n : ℕ) (sh : Shape) (d : Direction) (k : ℤ) (best holders : List ℕ) where
  pub claim_unfit : claim_fits sh d k (length values) (length best) (length holders) ≡ false → ClaimsLine values n sh d k best best holders holders
  claim_unfit e = record { raises = rw e; names = rw e }

  pub claim_none : (track_of sh d k).count ≡ 0 → ClaimsLine values n sh d k best best holders holders
  claim_none z = go (accepted_or_not sh d)
    where
      go : Accepted sh d ⊎ ((is_frame sh && is_direction d) ≡ false) → ClaimsLine values n sh d k best best holders holders
      go (inl ok) =
          let none = nothing (pixels sh d k) (track_none sh d ok k z) in
          let fit = claim_fits sh d k (length values) (length best) (length holders) in
          record {
            raises = either fit _ best (ap (λ (cs : List Pixel). raised (map (place sh) cs) values best) none);
            names = either fit _ holders (ap (λ (cs : List Pixel). held n (map (place sh) cs) values best holders) none);
          }
      go (inr e) = claim_unfit (rw e)

  -- t is the line's track, and bytes what the frame needs
  pub claim_refused : (t : Track) (bytes : ℕ) → t ≡ track_of sh d k → bytes ≡ cond (is_frame sh) (needed sh) 0
      → (t.count ≡ 0) ⊎ (length values < t.count) ⊎ (length best < bytes) ⊎ (length holders < bytes) → ClaimsLine values n sh d k best best holders holders
  claim_refused t bytes track need (inl none) = claim_none (sym (ap (λ (t : Track). t.count) track) ∙ none)
  claim_refused t bytes track need (inr short) = go t.count refl
    where
      too-short : (length values < length (pixels sh d k)) ⊎ (length best < needed sh) ⊎ (length holders < needed sh)
          → (leb (length (pixels sh d k)) (length values) && leb (needed sh) (length best) && leb (needed sh) (length holders)) ≡ false
      too-short (inl few) = not-all (leb (length (pixels sh d k)) (length values)) (leb (needed sh) (length best)) (leb (needed sh) (length holders)) (inl (lt-leb (length (pixels sh d k)) (length values) few))
      too-short (inr (inl few)) = not-all (leb (length (pixels sh d k)) (length values)) (leb (needed sh) (length best)) (leb (needed sh) (length holders)) (inr (inl (lt-leb (needed sh) (length best) few)))
      too-short (inr (inr few)) = not-all (leb (length (pixels sh d k)) (length values)) (leb (needed sh) (length best)) (leb (needed sh) (length holders)) (inr (inr (lt-leb (needed sh) (length holders) few)))

      go : (m : ℕ) → t.count ≡ m → ClaimsLine values n sh d k best best holders holders
      go zero none = claim_none (sym (ap (λ (t : Track). t.count) track) ∙ none)
      go (suc m) some =
          let there = track_some sh d k (λ z. absurd (omega (arith, ap (λ (t : Track). t.count) track))) in
          let ok = there.0 in
          let needs = need ∙ needed-by sh ok.frame in
          let counted = ap (λ (t : Track). t.count) track ∙ (track_line sh d ok k there.1).counted in
          claim_unfit (rw (ok.frame, ok.direction) (too-short (rw (counted, needs) at short)))

  module _ (ok : Accepted sh d) (enough : length (pixels sh d k) ≤ length values) (room : needed sh ≤ length best) (whole : needed sh ≤ length holders) where
    pub claim_fits_lem : claim_fits sh d k (length values) (length best) (length holders) ≡ true
    claim_fits_lem =
        rw (ok.frame, ok.direction, le-leb (length (pixels sh d k)) (length values) enough, le-leb (needed sh) (length best) room, le-leb (needed sh) (length holders) whole)

    pub claim_made : (best' holders' : List ℕ) → best' ≡ raised (map (place sh) (pixels sh d k)) values best
        → holders' ≡ held n (map (place sh) (pixels sh d k)) values best holders
        → ClaimsLine values n sh d k best best' holders holders'
    claim_made best' holders' r h = record { raises = rw claim_fits_lem r; names = rw claim_fits_lem h }
