-- The call `claim`: a line claimed for a number, and the best values so far beside it.
--   claims best n new old       who holds a pixel: n where the new value is above the best so far, else who held it
--   raised ps vs best           best with, at each of the places ps in order, the brighter of what stood there and the value of vs
--   held n ps vs best g         g with, at each of the places ps in order, who holds that pixel against the value of vs
--   claim_fits sh d k size room bytes   the test: size values, a frame of room bytes for the best, and one of `bytes` bytes for the holders
-- Laws: gathering/proofs/Claimings, PutLines.
use Rattle.std.specs.Prelude.{◌≡◌, Bool, cond, ◌&&◌, List, map, ℕ, max, leb, ltb, length, get_or, ℤ}
use Rattle.frame.specs.declared.direction.Direction.{Direction}
use Rattle.frame.specs.declared.shape.Shape.{Shape}
use Rattle.frame.specs.Direction.{is_direction}
use Rattle.frame.specs.Shape.{is_frame, needed}
use Rattle.frame.specs.Lines.{pixels, place}
use Rattle.gathering.specs.Scattering.{put}

abbrev pub claims : ℕ → ℕ → ℕ → ℕ → ℕ
claims best n new old = cond (ltb best new) n old

abbrev pub raised : List ℕ → List ℕ → List ℕ → List ℕ
raised ps vs best = put (λ (p old new : ℕ). max old new) ps vs best

abbrev pub held : ℕ → List ℕ → List ℕ → List ℕ → List ℕ → List ℕ
held n ps vs best g = put (λ (p old new : ℕ). claims (get_or best p 0) n new old) ps vs g

abbrev pub claim_fits : Shape → Direction → ℤ → ℕ → ℕ → ℕ → Bool
claim_fits sh d k size room bytes =
    is_frame sh && is_direction d && leb (length (pixels sh d k)) size && leb (needed sh) room && leb (needed sh) bytes

-- the best values and their holders are frames of one shape
pub record ClaimsLine (values : List ℕ) (n : ℕ) (sh : Shape) (d : Direction) (k : ℤ) (best best' holders holders' : List ℕ) : Type 0 where
  pub raises : best' ≡ cond (claim_fits sh d k (length values) (length best) (length holders)) (raised (map (place sh) (pixels sh d k)) values best) best
  pub names : holders'
      ≡ cond (claim_fits sh d k (length values) (length best) (length holders)) (held n (map (place sh) (pixels sh d k)) values best holders) holders
