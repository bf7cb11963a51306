-- The sums text (document 01, 'The two programs'), and the call `sums_text`.
--   head_fields d s      direction and count of bins
--   bin_fields s i       a bin's length and sum
--   rest_fields s        the rest
--   bins_text s n        the lines of the first n bins
--   sums_text d s        the whole text
--   text_rules d s room  the rules of the call
-- Laws: text/proofs/Texts.
use Rattle.std.specs.Prelude.{◌≡◌, List, [], ◌∷◌, ◌++◌, ℕ, ◌+◌, ◌-◌, ltb, length, get_or}
use Rattle.lists.specs.Stores.{front}
use Rattle.lists.specs.Tables.{each}
use Rattle.answer.specs.declared.Answer.{Answer}
use Rattle.answer.specs.Limits.{longest}
use Rattle.answer.specs.Rules.{Rule, rule, answer, after, outside}
use Rattle.text.specs.Lines.{line_text}

-- 'Bins and rest go to a lent slice of exactly K+1 64-bit numbers, the rest last.'
abbrev pub head_fields : ℕ → List ℕ → List ℕ
head_fields d s = d ∷ (length s - 1) ∷ []

abbrev pub bin_fields : List ℕ → ℕ → List ℕ
bin_fields s i = (i + 1) ∷ get_or s i 0 ∷ []

abbrev pub rest_fields : List ℕ → List ℕ
rest_fields s = get_or s (length s - 1) 0 ∷ []

-- '`B`, length, sum for each bin'
abbrev pub bins_text : List ℕ → ℕ → List ℕ
bins_text s n = each (λ (i : ℕ). line_text 66 (bin_fields s i)) n

-- '`G`, direction, K; `B`, length, sum for each bin; `T`, rest'
unfoldable pub sums_text : ℕ → List ℕ → List ℕ
sums_text d s = line_text 71 (head_fields d s) ++ (bins_text s (length s - 1) ++ line_text 84 (rest_fields s))

-- 'direction number above 15'; 'sums slice of fewer than 2 or more than 4,097 entries'; 'a destination too short, or the sums text's'
abbrev pub text_rules : ℕ → List ℕ → ℕ → List Rule
text_rules d s room =
    rule (ltb 15 d) 2 0
    ∷ rule (outside 2 (longest + 1) (length s)) 4 0
    ∷ rule (ltb room (length (sums_text d s))) 6 (length (sums_text d s))
    ∷ []

-- 'a call writes what the program sums prints, from a direction number and a sums slice, to a destination's front'
pub record WritesSums (d : ℕ) (s dst dst' : List ℕ) (a : Answer) : Type 0 where
  pub answers : a ≡ answer (text_rules d s (length dst)) (length (sums_text d s))
  pub written : dst' ≡ after a (front (sums_text d s) dst) dst
