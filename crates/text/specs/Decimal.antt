-- Numbers as text (document 01, 'The two programs').
--   digits k n      the last k decimal digits of n as ASCII, fewer where n has fewer
--   decimal n       n as decimal text; a 64-bit number has at most 20 digits
-- Laws: text/proofs/Decimals.
use Rattle.std.specs.Prelude.{cond, List, [], ◌∷◌, ◌++◌, ℕ, zero, suc, ◌+◌, ◌/◌, ◌%◌, ltb}

unfoldable pub digits : ℕ → ℕ → List ℕ
digits zero n = []
digits (suc k) n = cond (ltb n 10) [] (digits k (n / 10)) ++ ((48 + n % 10) ∷ [])

-- 'Numbers are decimal without leading zero'
abbrev pub decimal : ℕ → List ℕ
decimal n = digits 20 n
