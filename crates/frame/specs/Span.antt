-- At which major coordinates a line has its pixels, by division.
--   passed a b n x       the first i below n with x < r a b i; n where there is none
--   skipped a b n x y    the first i below n with y < r a b i + x; n where there is none
--   span_from s u        the first major coordinate at which line u has a pixel
--   span_end s u         the one behind the last
--   Spans s u from count      line u has a pixel at the count major coordinates from `from` on, and at no other
--   Indexed low k found       the index of line number k, where there is one
--   index_of low k       the index of line number k
--   track_at s u         where line u is: its index, its start and its count; no_track: nowhere
--   track_of sh d k      where line number k of a frame is; nowhere where there is no such line, or rule 1 or 2 refuses
-- Laws: frame/proofs/Spans, Tracks.
use Rattle.std.specs.Prelude.{◌≡◌, true, false, not, cond, ◌&&◌, ℕ, suc, ◌+◌, ◌-◌, ◌*◌, ◌/◌, ◌≤◌, ◌<◌, min, ltb, eqb, ℤ, pos, negsuc, Option, MatchOption}
use Rattle.std.proofs.Math.IntN.{sub_ℕ}
use Rattle.frame.specs.declared.direction.Direction.{Direction}
use Rattle.frame.specs.declared.shape.Shape.{Shape}
use Rattle.frame.specs.declared.sweep.Sweep.{Sweep}
use Rattle.frame.specs.declared.track.Track.{Track}
use Rattle.frame.specs.Direction.{is_direction}
use Rattle.frame.specs.Shape.{is_frame}
use Rattle.frame.specs.Lines.{no_line}
use Rattle.frame.specs.Sweep.{sweep_of, low, lines, hit}

unfoldable pub passed : ℕ → ℕ → ℕ → ℕ → ℕ
passed a b n x = cond (eqb b 0) n (min n (((2 * x + 1) * a - 1) / (2 * b) + 1))

unfoldable pub skipped : ℕ → ℕ → ℕ → ℕ → ℕ → ℕ
skipped a b n x y = cond (ltb y x) 0 (passed a b n (y - x))

unfoldable pub span_from : Sweep → ℕ → ℕ
span_from s u = cond s.falling (skipped s.run s.rise s.majors s.minors u) (skipped s.run s.rise s.majors (u + 1) s.top)

unfoldable pub span_end : Sweep → ℕ → ℕ
span_end s u = cond s.falling (passed s.run s.rise s.majors u) (passed s.run s.rise s.majors (lines s - u - 1))

pub record Spans (s : Sweep) (u from count : ℕ) : Type 0 where
  pub fits : from + count ≤ s.majors
  pub inside : (i : ℕ) → from ≤ i → i < from + count → hit s u i ≡ true
  pub before : (i : ℕ) → i < from → hit s u i ≡ false
  pub behind : (i : ℕ) → from + count ≤ i → i < s.majors → hit s u i ≡ false

abbrev pub Indexed : ℕ → ℤ → Option ℕ → Type 0
Indexed low k found = MatchOption found ((v : ℕ) → sub_ℕ v low ≡ k → ⊥) (λ (at : ℕ). sub_ℕ at low ≡ k)

abbrev pub index_of : ℕ → ℤ → ℕ
index_of low (pos n) = low + n
index_of low (negsuc n) = low - suc n

abbrev pub track_at : Sweep → ℕ → Track
track_at s u = record { index = u; from = span_from s u; count = span_end s u - span_from s u }

abbrev pub no_track : Track
no_track = record { index = 0; from = 0; count = 0 }

abbrev pub track_of : Shape → Direction → ℤ → Track
track_of sh d k =
    cond (is_frame sh && is_direction d && not (no_line sh d k)) (track_at (sweep_of sh d) (index_of (low (sweep_of sh d)) k)) no_track
