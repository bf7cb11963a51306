-- What the private parts keep to.
--   entry_of K l         the entry of a stretch of l pixels: its length's bin, or the rest where there is none
--   entry_light K j ss   the light of those stretches of ss whose entry is j
--   lit s x              the sums slice s with the light of the stretch x added to its entry
--   Sound s              a stretch has pixels, and its level is not below its base
--   Modest s             no entry of a sums slice is above 2^62, so that a line's light can be added to it
--   Adds f s s'          s' is s with bins and rest of the line f added
--   Whole sh d size      rules 1, 2 and 5 accept a frame of size bytes
--   Measured c n         c has counts of pixels, as of the lengths 1 to n: each is 1 at least, and at most its length
--   spread_to c s i      entry i of the sums slice s by pixels as one by length: that of its count in c, and 0 where the next length has the same count
--   weighed w s          the total of a list, each entry multiplied by the weight that w gives its index
--   Exact n r            r is the outcome of a sum n: the sum itself up to 2^53, and above it the refusal of rule 11
--   told r               the summary that stands for the outcome r
use Rattle.std.specs.Prelude.{◌≡◌, cond, List, [], ◌∷◌, Result, Ok, Err, ◌*◌, ℕ, suc, ◌+◌, ◌-◌, ◌≤◌, ◌<◌, ◌^◌, min, eqb, length, get_or, set}
use Rattle.answer.specs.declared.Refusal.{Refusal}
use Rattle.answer.specs.declared.Refusal.TheVariants.{Bright}
use Rattle.answer.specs.Limits.{longest}
use Rattle.answer.specs.Refusals.{rule_of}
use Rattle.frame.specs.declared.direction.Direction.{Direction}
use Rattle.frame.specs.declared.shape.Shape.{Shape}
use Rattle.frame.specs.Shape.{needed}
use Rattle.frame.specs.Sweep.{Accepted}
use Rattle.bright.specs.declared.Stretch.{Stretch}
use Rattle.bright.specs.Stretches.{long}
use Rattle.bridge.specs.Sums.{light, light_of}
use Rattle.sizes.specs.declared.summary.Summary.{Summary}
use Rattle.sizes.specs.Summary.{exactest, refused_by}
use Rattle.sizes.specs.Sums.{line_sums}

abbrev pub entry_of : ℕ → ℕ → ℕ
entry_of K l = min (l - 1) K

abbrev pub entry_light : ℕ → ℕ → List Stretch → ℕ
entry_light K j ss = light_of (λ (l : ℕ). eqb (entry_of K l) j) ss

abbrev pub lit : List ℕ → Stretch → List ℕ
lit s x = set s (entry_of (length s - 1) (long x)) (get_or s (entry_of (length s - 1) (long x)) 0 + light x)

-- what the list of a line says of each stretch
pub record Sound (s : Stretch) : Type 0 where
  pub some : s.start < s.end
  pub fits : s.end ≤ longest
  pub above : s.base ≤ s.level

abbrev pub Modest : List ℕ → Type 0
Modest s = (j : ℕ) → get_or s j 0 ≤ 2 ^ 62

pub record Adds (f s s' : List ℕ) : Type 0 where
  pub same : length s' ≡ length s
  pub added : (j : ℕ) → get_or s' j 0 ≡ get_or s j 0 + get_or (line_sums f (length s - 1)) j 0

pub record Whole (sh : Shape) (d : Direction) (size : ℕ) : Type 0 where
  pub ok : Accepted sh d
  pub source : needed sh ≤ size

pub record Measured (c : List ℕ) (n : ℕ) : Type 0 where
  pub each : length c ≡ n
  pub some : (i : ℕ) → i < n → 1 ≤ get_or c i 0
  pub most : (i : ℕ) → i < n → get_or c i 0 ≤ suc i

abbrev pub spread_to : List ℕ → List ℕ → ℕ → ℕ
spread_to c s i = cond (eqb (get_or c i 0) (get_or c (suc i) 0)) 0 (get_or s (get_or c i 0 - 1) 0)

unfoldable pub weighed : (ℕ → ℕ) → List ℕ → ℕ
weighed w [] = 0
weighed w (x ∷ xs) = x * w 0 + weighed (λ (i : ℕ). w (suc i)) xs

abbrev pub Exact : ℕ → Result ℕ Refusal → Type 0
Exact n (Ok m) = (n ≤ exactest) × (m ≡ n)
Exact n (Err e) = (exactest < n) × (e ≡ Bright)

abbrev pub told : Result Summary Refusal → Summary
told (Ok s) = s
told (Err e) = refused_by (rule_of e)
