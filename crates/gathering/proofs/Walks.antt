-- The places of a line, one after the other along its walk.
--   places, places-next, places_fresh    the bytes of a line's first pixels; one more, which is none of them
--   put-more                             one more value put
--   Walking, walking                     what is known of a line's walk that the frame has
-- Assumes nothing.
use mathlib.Core.Path.{◌≡◌, sym, ap, ◌∙◌, subst}
use mathlib.Core.Bool.{false}
use mathlib.Core.List.Memᴰ
use mathlib.Core.List.{List, [], ◌∷◌, ◌++◌, map, Memᴰ}
use Prim.Native.Nat.{ℕ, suc, ◌+◌, ◌≤◌, ◌<◌}
use native.Mathlib.Omega.{arith}
use native.Mathlib.Numerals.{add-one}
use lib.ListN.{length, get_or, set}
use lib.IntN.{ℤ}
use Rattle.lists.specs.Tables as tables
use Rattle.lists.specs.Tables.{table}
use Rattle.lists.proofs.Tables.{length-table}
use Rattle.lists.proofs.Picks.{each_mem}
use Rattle.frame.specs.declared.direction.Direction.{Direction}
use Rattle.frame.specs.declared.shape.Shape.{Shape}
use Rattle.frame.specs.declared.sweep.Sweep.{Sweep}
use Rattle.frame.specs.declared.track.Track.{Track}
use Rattle.frame.specs.Lines.{pixels, no_line, line_read, place}
use Rattle.frame.specs.Shape.{needed}
use Rattle.frame.specs.Sweep.{sweep_for, cell, Accepted, Sane, Reach, Apart}
use Rattle.frame.specs.Span.{track_of, Spans}
use Rattle.frame.proofs.Partition.{same-cell}
use Rattle.frame.proofs.Shapes.{sweep_sane, sweep_apart, sweep_reach, sweep_accepted}
use Rattle.frame.proofs.Tracks.{track_line, track_values}
use Rattle.gathering.specs.Scattering.{put}
use Rattle.gathering.proofs.Puts.{put_next}

-- the bytes of the first n pixels of line u, whose major coordinates are those from `from` on
abbrev pub places : Sweep → ℕ → ℕ → ℕ → List ℕ
places s u from n = table (λ (i : ℕ). cell s u (from + i)) n

module _ (s : Sweep) (u from i : ℕ) where
  places-next : places s u from (i + 1) ≡ places s u from i ++ (cell s u (from + i) ∷ [])
  unfolding tables.each
  places-next = ap (places s u from) {x = i + 1} {y = suc i} (add-one i)

  places_count : length (places s u from i) ≡ i
  places_count = length-table (λ (i : ℕ). cell s u (from + i)) i

  pub places_fresh : Apart s → {count : ℕ} → Spans s u from count → i < count → Memᴰ (cell s u (from + i)) (places s u from i) → ⊥
  places_fresh far w h m =
      let a = each_mem (λ (k : ℕ). cell s u (from + k) ∷ []) i (cell s u (from + i)) m in
      let same = Memᴰ.eq_of_singleton a.there in
      let once = (same-cell s far u u (from + i) (from + a.i) (omega (arith, w.fits)) (omega (arith, w.fits, a.below)) (w.inside (from + i) (omega arith) (omega arith)) (w.inside (from + a.i) (omega arith) (omega (arith, a.below))) same).0 in
      omega (arith, once, a.below)

pub put-more : (op : ℕ → ℕ → ℕ → ℕ) (vs f : List ℕ) (s : Sweep) (u from i : ℕ) → i < length vs
    → set (put op (places s u from i) vs f) (cell s u (from + i)) (op (cell s u (from + i)) (get_or (put op (places s u from i) vs f) (cell s u (from + i)) 0) (get_or vs i 0))
    ≡ put op (places s u from (i + 1)) vs f
put-more op vs f s u from i h =
    let n = places_count s u from i in
    ap (λ (k : ℕ). set (put op (places s u from i) vs f) (cell s u (from + i)) (op (cell s u (from + i)) (get_or (put op (places s u from i) vs f) (cell s u (from + i)) 0) (get_or vs k 0))) (sym n)
    ∙ sym (put_next op (places s u from i) vs f (cell s u (from + i)) (omega arith))
    ∙ ap (λ (cs : List ℕ). put op cs vs f) (sym (places-next s u from i))

-- the sweep and the track of line k
pub record Walking (sh : Shape) (d : Direction) (k : ℤ) (s : Sweep) (t : Track) : Type 0 where
  pub sane : Sane s
  pub apart : Apart s
  pub reach : (n : ℕ) → needed sh ≤ n → Reach s n
  pub spans : Spans s t.index t.from t.count
  pub counted : t.count ≡ length (pixels sh d k)
  pub read : (f : List ℕ) → table (λ (i : ℕ). get_or f (cell s t.index (t.from + i)) 0) t.count ≡ line_read f sh d k
  pub placed : map (place sh) (pixels sh d k) ≡ places s t.index t.from t.count

pub walking : (sh : Shape) (d : Direction) (k : ℤ) (s : Sweep) (t : Track) → Accepted sh d → no_line sh d k ≡ false → s ≡ sweep_for sh d → t ≡ track_of sh d k → Walking sh d k s t
walking sh d k s t ok there sweep track =
    let tracks = track_line sh d ok k there in
    subst (Walking sh d k s) (sym track)
    (subst (λ (s : Sweep). Walking sh d k s (track_of sh d k)) (sym (sweep ∙ sweep_accepted ok))
    (record {
      sane = sweep_sane ok;
      apart = sweep_apart ok;
      reach = sweep_reach ok;
      spans = tracks.spans;
      counted = tracks.counted;
      read = track_values tracks;
      placed = tracks.places;
    }))
