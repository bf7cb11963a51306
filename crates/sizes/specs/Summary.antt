-- The summary of bins and rest (document 01, 'Stretches and size sums'), and the call `summarize`.
--   bins_of s            the bins of a sums slice
--   rest_of s            its rest
--   weighted n s         the total of a list, each entry multiplied by its length, where the first entry's length is n
--   exactest             the largest number up to which every whole number is a float
--   float n              a whole number as a float
--   quotient x y         x as a float divided by y as a float, rounded once
--   summary_rules s      the rules of the call
--   refused_by n         the summary that the rule number n refuses
--   summary_of s         what the call hands back
-- Laws: sizes/proofs/Summaries.
use Rattle.std.specs.Prelude.{◌||◌, List, [], ◌∷◌, ℕ, suc, ◌+◌, ◌-◌, ◌*◌, ◌^◌, length, get_or, take, ltb, eqb, pos, Float}
use Rattle.std.specs.Float.{binary64}
use Rattle.std.specs.Float.Ieee.{of_int, div}
use Rattle.lists.specs.Extremes.{total}
use Rattle.answer.specs.Limits.{longest}
use Rattle.answer.specs.Rules.{Rule, rule, answer, after, outside}
use Rattle.sizes.specs.declared.summary.Summary.{Summary}

-- 'Bins and rest go to a lent slice of exactly K+1 64-bit numbers, the rest last.'
abbrev pub bins_of : List ℕ → List ℕ
bins_of s = take (length s - 1) s

abbrev pub rest_of : List ℕ → ℕ
rest_of s = get_or s (length s - 1) 0

-- 'B their total, each multiplied by its length'
unfoldable pub weighted : ℕ → List ℕ → ℕ
weighted n [] = 0
weighted n (x ∷ xs) = n * x + weighted (suc n) xs

abbrev pub exactest : ℕ
exactest = 2 ^ 53

abbrev pub float : ℕ → Float
float n = of_int binary64 (pos n)

-- 'Each operand is exact, each quotient rounded once.'
abbrev pub quotient : ℕ → ℕ → Float
quotient x y = div binary64 (float x) (float y)

-- 'sums slice of fewer than 2 or more than 4,097 entries'; 'A is 0'; 'A plus rest, or B, above 2^53'
abbrev pub summary_rules : List ℕ → List Rule
summary_rules s =
    rule (outside 2 (longest + 1) (length s)) 4 0
    ∷ rule (eqb (total (bins_of s)) 0) 10 0
    ∷ rule (ltb exactest (total (bins_of s) + rest_of s) || ltb exactest (weighted 1 (bins_of s))) 11 0
    ∷ []

-- 'a refused summary has both floats 0'
abbrev pub refused_by : ℕ → Summary
refused_by n = record { mean = float 0; share = float 0; number = n }

-- 'the mean, B as a float divided by A as a float, and the share, A divided by A plus the rest'
unfoldable pub summary_of : List ℕ → Summary
summary_of s =
    let a = answer (summary_rules s) 0 in
    after a
    (record { mean = quotient (weighted 1 (bins_of s)) (total (bins_of s)); share = quotient (total (bins_of s)) (total (bins_of s) + rest_of s); number = 0 })
    (refused_by a.number)
