-- Where a line has its pixels, found from its number.
--   track_nowhere, track_found    what `track_of` hands back: a number that is no line's, and a line's
--   Tracks, track_line     the track of an accepted frame's line: its stretch, its count and its pixels' bytes
--   track_none, track_some a track without pixels, and one with some
--   track_values           the bytes of a frame there are the line as read
-- Assumes nothing.
use mathlib.Core.Path.{◌≡◌, refl, sym, ap, ◌∙◌, subst}
use mathlib.Core.Bool.{Bool, true, false, not, ◌&&◌}
use mathlib.Core.Logic.{◌⊎◌, inl, inr, ⊎_elim}
use mathlib.Core.List.{List, [], map, map-map}
use Prim.Native.Nat.{ℕ, suc, ◌+◌, ◌-◌, ◌≤◌, ◌<◌}
use native.Mathlib.Omega.{arith}
use borrow.Author.Tests.{not-true}
use lib.ListN.{length, get_or, length-map}
use lib.IntN.{ℤ, pos, negsuc, sub_ℕ}
use Rattle.lists.specs.Tables.{table}
use Rattle.lists.proofs.Cases.{less_or_not, both_left, both_right}
use Rattle.lists.proofs.Tables.{length-table}
use Rattle.lists.proofs.Picks.{map-table}
use Rattle.frame.specs.declared.direction.Direction.{Direction}
use Rattle.frame.specs.declared.shape.Shape.{Shape}
use Rattle.frame.specs.declared.sweep.Sweep.{Sweep}
use Rattle.frame.specs.declared.track.Track.{Track}
use Rattle.frame.specs.Direction.{is_direction}
use Rattle.frame.specs.Shape.{is_frame}
use Rattle.frame.specs.Lines.{pixels, place, empty, no_line, line_read}
use Rattle.frame.specs.Sweep.{sweep_of, sweep_for, low, lines, cell, Accepted}
use Rattle.frame.specs.Span.{Spans, index_of, track_at, no_track, track_of}
use Rattle.frame.proofs.Numbers.{sub_inj, index_below, index_above, index_none, indexed}
use Rattle.frame.proofs.Shapes.{accepted-some, sweep_sane, sweep_accepted, accepted_or_not}
use Rattle.frame.proofs.Walks.{places_are, pixels-none}
use Rattle.frame.proofs.Pixels.{pixels-past, among_line, line_among, empty-none, number, count-is}
use Rattle.frame.proofs.Spans.{spans, cells_span}

index_found : (low u : ℕ) (k : ℤ) → sub_ℕ u low ≡ k → index_of low k ≡ u
index_found low u (pos n) e = sub_inj (low + n) u low (index_above low n ∙ sym e)
index_found low u (negsuc n) e = ⊎_elim (λ h. absurd (index_none low n u h e)) (λ h. sub_inj (low - suc n) u low (index_below low n h ∙ sym e)) (less_or_not low (suc n))

module _ (sh : Shape) (d : Direction) (k : ℤ) where
  pub track_nowhere : ((u : ℕ) → sub_ℕ u (low (sweep_for sh d)) ≡ k → lines (sweep_for sh d) ≤ u) → no_track ≡ track_of sh d k
  track_nowhere past = go (accepted_or_not sh d)
    where
      none : (ok : Accepted sh d) → pixels sh d k ≡ []
      none ok =
          let beyond = rw (sweep_accepted ok) at past in
          ⊎_elim
          (λ x. ap (pixels sh d) (sym x.is) ∙ pixels-past sh d ok x.u (beyond x.u x.is))
          (λ missing. pixels-none sh d (accepted-some ok) k missing)
          (indexed (low (sweep_of sh d)) k)

      go : Accepted sh d ⊎ ((is_frame sh && is_direction d) ≡ false) → no_track ≡ track_of sh d k
      go (inl ok) = rw (ok.frame, ok.direction, ap empty (none ok))
      go (inr e) = rw e

  pub track_found : (u : ℕ) → sub_ℕ u (low (sweep_for sh d)) ≡ k → u < lines (sweep_for sh d) → track_at (sweep_for sh d) u ≡ track_of sh d k
  track_found u e h = go (accepted_or_not sh d)
    where
      go : Accepted sh d ⊎ ((is_frame sh && is_direction d) ≡ false) → track_at (sweep_for sh d) u ≡ track_of sh d k
      go (inl ok) =
          let found = rw (sweep_accepted ok) at e in
          let below = rw (sweep_accepted ok) at h in
          let line = among_line sh d ok k (record { u = u; below = omega (arith, count-is sh d); is = number sh d u ∙ found }) in
          rw (sweep_accepted ok, ok.frame, ok.direction, line) (ap (track_at (sweep_of sh d)) (sym (index_found (low (sweep_of sh d)) u k found)))
      go (inr r) = absurd (omega (arith, rw r at h))

-- where line k of an accepted frame has its pixels
pub record Tracks (sh : Shape) (d : Direction) (k : ℤ) (t : Track) : Type 0 where
  pub spans : Spans (sweep_of sh d) t.index t.from t.count
  pub counted : t.count ≡ length (pixels sh d k)
  pub places : map (place sh) (pixels sh d k) ≡ table (λ (i : ℕ). cell (sweep_of sh d) t.index (t.from + i)) t.count

module _ (sh : Shape) (d : Direction) (ok : Accepted sh d) (k : ℤ) where
  tracks_at : (u : ℕ) → sub_ℕ u (low (sweep_of sh d)) ≡ k → u < lines (sweep_of sh d) → Tracks sh d k (track_at (sweep_of sh d) u)
  tracks_at u e here =
      record {
        spans = p;
        counted = sym (length-table (λ (i : ℕ). cell s u (t.from + i)) t.count) ∙ sym (ap length q) ∙ length-map (pixels sh d k) (place sh);
        places = q;
      }
    where
      s : Sweep
      s = sweep_of sh d

      t : Track
      t = track_at s u

      p : Spans s u t.from t.count
      p = spans s (sweep_sane ok) u here

      q : map (place sh) (pixels sh d k) ≡ table (λ (i : ℕ). cell s u (t.from + i)) t.count
      q = ap (λ (z : ℤ). map (place sh) (pixels sh d z)) (sym e) ∙ places_are sh d (accepted-some ok) u ∙ cells_span p

  pub track_line : no_line sh d k ≡ false → Tracks sh d k (track_of sh d k)
  track_line there =
      let a = line_among sh d ok k there in
      let e : sub_ℕ a.u (low (sweep_of sh d)) ≡ k = sym (number sh d a.u) ∙ a.is in
      let below : a.u < lines (sweep_of sh d) = omega (arith, a.below, count-is sh d) in
      subst (Tracks sh d k) (rw (sweep_accepted ok) at (track_found sh d k a.u (rw (sweep_accepted ok) e) (rw (sweep_accepted ok) below)))
      (tracks_at a.u e below)

  pub track_none : (track_of sh d k).count ≡ 0 → no_line sh d k ≡ true
  track_none z = go (no_line sh d k) refl
    where
      go : (t : Bool) → no_line sh d k ≡ t → no_line sh d k ≡ true
      go true e = e
      go false e = empty-none (pixels sh d k) (sym (track_line e).counted ∙ z)

pub track_some : (sh : Shape) (d : Direction) (k : ℤ) → ((track_of sh d k).count ≡ 0 → ⊥) → Accepted sh d × (no_line sh d k ≡ false)
track_some sh d k some = go (is_frame sh && is_direction d && not (no_line sh d k)) refl
  where
    go : (t : Bool) → (is_frame sh && is_direction d && not (no_line sh d k)) ≡ t → Accepted sh d × (no_line sh d k ≡ false)
    go true e =
        let both = both_left (is_frame sh && is_direction d) (not (no_line sh d k)) e in (
          record { frame = both_left (is_frame sh) (is_direction d) both; direction = both_right (is_frame sh) (is_direction d) both },
          not-true (no_line sh d k) (both_right (is_frame sh && is_direction d) (not (no_line sh d k)) e),
        )
    go false e = absurd (some (rw e))

pub track_values : {sh : Shape} {d : Direction} {k : ℤ} {t : Track} → Tracks sh d k t → (f : List ℕ)
    → table (λ (i : ℕ). get_or f (cell (sweep_of sh d) t.index (t.from + i)) 0) t.count ≡ line_read f sh d k
track_values {sh} {d} {k} {t} p f =
    sym (map-table (λ (c : ℕ). get_or f c 0) (λ (i : ℕ). cell (sweep_of sh d) t.index (t.from + i)) t.count)
    ∙ ap (map (λ (c : ℕ). get_or f c 0)) (sym p.places)
    ∙ map-map (λ (c : ℕ). get_or f c 0) (place sh) (pixels sh d k)
