-- What the calls on a line answer, and what they know once they are not refused. Gathering and scattering have the same rules up to rule 2; then `size` bytes of
-- source of which `from` are needed, and `room` bytes of destination of which `to` are.
--   line-answer                what the tests answer that ask for the track's count
--   gather-says, scatter-says  the same, of a gathering and of a scattering
--   gather_done                a gathering that no rule refuses
--   Fits, gather_fits, scatter_fits    what a call knows that is not refused
-- Assumes nothing.
use mathlib.Core.Path.{◌≡◌, refl, sym, ap, ◌∙◌}
use mathlib.Core.Bool.{Bool, true, false, not, cond, true≢false}
use mathlib.Core.List.{List, [], ◌∷◌}
use Prim.Native.Nat.{ℕ, ◌≤◌}
use borrow.Author.Tests.{not-false, ltb-false, le-ltb, ne_eqb}
use lib.Dec.{ltb}
use lib.ListN.{length}
use lib.IntN.{ℤ}
use Rattle.answer.specs.declared.Answer.{Answer}
use Rattle.answer.specs.Rules.{Rule, rule, answer, done}
use Rattle.answer.proofs.Rules.{kept}
use Rattle.frame.specs.declared.direction.Direction.{Direction}
use Rattle.frame.specs.declared.shape.Shape.{Shape}
use Rattle.frame.specs.declared.track.Track.{Track}
use Rattle.frame.specs.Direction.{is_direction}
use Rattle.frame.specs.Shape.{is_frame, needed}
use Rattle.frame.specs.Lines.{pixels, no_line}
use Rattle.frame.specs.Span.{track_of}
use Rattle.frame.specs.Sweep.{Accepted}
use Rattle.frame.proofs.Pixels.{empty-none}
use Rattle.frame.proofs.Shapes.{needed-by}
use Rattle.frame.proofs.Tracks.{track_line}
use Rattle.gathering.specs.Gathering.{gather_rules}
use Rattle.gathering.specs.Scattering.{scatter_rules}
use Rattle.gathering.specs.Steps.{frame_line_rules}

-- ---- what they come to

abbrev call_rules : Shape → Direction → ℤ → ℕ → ℕ → ℕ → ℕ → List Rule
call_rules sh d k size from room to =
    rule (not (is_frame sh)) 1 0
    ∷ rule (not (is_direction d)) 2 0
    ∷ rule (no_line sh d k) 2 0
    ∷ rule (ltb size from) 5 from
    ∷ rule (ltb room to) 6 to
    ∷ []

module _ (sh : Shape) (d : Direction) (k : ℤ) (size from room to : ℕ) where
  abbrev says : Answer
  says = answer (call_rules sh d k size from room to) (length (pixels sh d k))

  -- n is the track's count; from' and to' are what is needed of a line that there is
  pub line-answer : (n from' to' : ℕ) → n ≡ (track_of sh d k).count → (Accepted sh d → n ≡ length (pixels sh d k) → (from' ≡ from) × (to' ≡ to))
      → answer (frame_line_rules (is_frame sh) n size from' room to') n ≡ says
  line-answer n from' to' count needs = go (is_frame sh) refl (is_direction d) refl (no_line sh d k) refl
    where
      some : (ok : Accepted sh d) → no_line sh d k ≡ false → answer (frame_line_rules (is_frame sh) n size from' room to') n ≡ says
      some ok e =
          let counted = count ∙ (track_line sh d ok k e).counted in
          let need = needs ok counted in
          let more = ne_eqb n 0 (λ z. true≢false (sym (empty-none (pixels sh d k) (sym counted ∙ z)) ∙ e)) in
          rw (ok.frame, ok.direction, e, more, need.0, need.1, counted)

      nothing : is_frame sh ≡ true → n ≡ 0 → answer (frame_line_rules (is_frame sh) n size from' room to') n ≡ answer (rule (not (is_frame sh)) 1 0 ∷ rule true 2 0 ∷ []) 0
      nothing f z = rw (f, z)

      go : (f : Bool) → is_frame sh ≡ f → (v : Bool) → is_direction d ≡ v → (t : Bool) → no_line sh d k ≡ t
          → answer (frame_line_rules (is_frame sh) n size from' room to') n ≡ says
      go false f v x t e = rw f
      go true f false x t e = nothing f (count ∙ rw (f, x)) ∙ rw (f, x)
      go true f true x true e = nothing f (count ∙ rw (f, x, e)) ∙ rw (f, x, e)
      go true f true x false e = some (record { frame = f; direction = x }) e

  accepted_call : Accepted sh d → no_line sh d k ≡ false → from ≤ size → to ≤ room → says ≡ done (length (pixels sh d k))
  accepted_call ok some h l = rw (ok.frame, ok.direction, some, le-ltb size from h, le-ltb room to l)

  record Kept : Type 0 where
    ok : Accepted sh d
    there : no_line sh d k ≡ false
    source : from ≤ size
    place : to ≤ room

  kept_rules : {a : Answer} → a ≡ says → a.number ≡ 0 → Kept
  kept_rules e z =
      let rules = kept (call_rules sh d k size from room to) (length (pixels sh d k)) refl (rw e at z) in
      record {
        ok = record { frame = not-false (is_frame sh) rules.0; direction = not-false (is_direction d) rules.1.0 };
        there = rules.1.1.0;
        source = ltb-false size from rules.1.1.1.0;
        place = ltb-false room to rules.1.1.1.1.0;
      }

-- the frame and the direction are accepted, the frame has the line and its bytes are there, and the other buffer has room for the line
pub record Fits (sh : Shape) (d : Direction) (k : ℤ) (bytes values : ℕ) : Type 0 where
  pub ok : Accepted sh d
  pub there : no_line sh d k ≡ false
  pub whole : needed sh ≤ bytes
  pub room : length (pixels sh d k) ≤ values

module _ (sh : Shape) (d : Direction) (k : ℤ) (size room : ℕ) where
  pub gather_done : Accepted sh d → no_line sh d k ≡ false → needed sh ≤ size → length (pixels sh d k) ≤ room
      → answer (gather_rules sh d k size room) (length (pixels sh d k)) ≡ done (length (pixels sh d k))
  gather_done = accepted_call sh d k size (needed sh) room (length (pixels sh d k))

  pub gather_fits : {a : Answer} → a ≡ answer (gather_rules sh d k size room) (length (pixels sh d k)) → a.number ≡ 0 → Fits sh d k size room
  gather_fits e z =
      let rules = kept_rules sh d k size (needed sh) room (length (pixels sh d k)) e z in
      record { ok = rules.ok; there = rules.there; whole = rules.source; room = rules.place }

  pub scatter_fits : {a : Answer} → a ≡ answer (scatter_rules sh d k size room) (length (pixels sh d k)) → a.number ≡ 0 → Fits sh d k room size
  scatter_fits e z =
      let rules = kept_rules sh d k size (length (pixels sh d k)) room (needed sh) e z in
      record { ok = rules.ok; there = rules.there; whole = rules.place; room = rules.source }

  -- t is the line's track; bytes is what the frame needs, where there is one
  pub gather-says : (t : Track) (framed : Bool) (bytes : ℕ) {a : Answer} → t ≡ track_of sh d k → framed ≡ is_frame sh → bytes ≡ cond (is_frame sh) (needed sh) 0
      → a ≡ answer (frame_line_rules framed t.count size bytes room t.count) t.count → a ≡ answer (gather_rules sh d k size room) (length (pixels sh d k))
  gather-says t framed bytes track frame need e =
      e
      ∙ ap (λ (f : Bool). answer (frame_line_rules f t.count size bytes room t.count) t.count) frame
      ∙ line-answer sh d k size (needed sh) room (length (pixels sh d k)) t.count bytes t.count (ap (λ (t : Track). t.count) track)
      (λ ok counted. (need ∙ needed-by sh ok.frame, counted))

  pub scatter-says : (t : Track) (framed : Bool) (bytes : ℕ) {a : Answer} → t ≡ track_of sh d k → framed ≡ is_frame sh → bytes ≡ cond (is_frame sh) (needed sh) 0
      → a ≡ answer (frame_line_rules framed t.count size t.count room bytes) t.count → a ≡ answer (scatter_rules sh d k size room) (length (pixels sh d k))
  scatter-says t framed bytes track frame need e =
      e
      ∙ ap (λ (f : Bool). answer (frame_line_rules f t.count size t.count room bytes) t.count) frame
      ∙ line-answer sh d k size (length (pixels sh d k)) room (needed sh) t.count t.count bytes (ap (λ (t : Track). t.count) track)
      (λ ok counted. (counted, need ∙ needed-by sh ok.frame))
