-- Reading numbers, lines and rows from the front of a text (document 01, 'The two programs'). Each reading says whether what it looks for is there, what it holds, and what follows it.
--   largest_number         the largest number of an input
--   is_digit c             c is a decimal digit
--   goes_on v c            c is one more digit of a number whose value so far is v
--   Numeral, Values        a number and what follows it; a list of numbers and what follows them
--   numeral, valued        such a one that is there; no_numeral, no_values: one that is not
--   number_on v s          the number whose value so far is v, and which goes on at s
--   number_of s            the number at the front of s
--   starts b s             s starts with the byte b
--   field_of most s        a tab, and a number of at most `most`
--   fields_of most n s     n fields
--   line_of b most n s     a line: the letter b, n fields and the line feed
--   rows_of h w s          h lines of w pixels, and nothing after them
--   before vs r            the numbers vs before those of r
--   at_most, ended         a number that is in its range; numbers that a line feed follows
-- Laws: text/proofs/Readings, Goings (one value after the other), Inputs (what is found is there as text, and what is there as text is found).
use Rattle.std.specs.Prelude.{Bool, true, false, cond, ◌&&◌, List, [], ◌∷◌, ◌++◌, ℕ, zero, suc, ◌+◌, ◌-◌, ◌*◌, eqb, leb, ltb, drop}
use Rattle.text.specs.Lines.{tab, feed}

-- 'Input numbers are 0 to 65,535'
abbrev pub largest_number : ℕ
largest_number = 65535

abbrev pub is_digit : ℕ → Bool
is_digit c = leb 48 c && leb c 57

-- 'Numbers are decimal without leading zero': nothing goes on a 0. A number above 65,535 is out of every range, whatever follows.
abbrev pub goes_on : ℕ → ℕ → Bool
goes_on v c = ltb 0 v && (leb v largest_number && is_digit c)

pub record Numeral : Type 0 where
  pub found : Bool
  pub value : ℕ
  pub rest : List ℕ

abbrev pub numeral : ℕ → List ℕ → Numeral
numeral v s = record { found = true; value = v; rest = s }

abbrev pub no_numeral : Numeral
no_numeral = record { found = false; value = 0; rest = [] }

unfoldable pub number_on : ℕ → List ℕ → Numeral
number_on v [] = numeral v []
number_on v (c ∷ s) = cond (goes_on v c) (number_on (10 * v + (c - 48)) s) (numeral v (c ∷ s))

unfoldable pub number_of : List ℕ → Numeral
number_of [] = no_numeral
number_of (c ∷ s) = cond (is_digit c) (number_on (c - 48) s) no_numeral

abbrev pub starts : ℕ → List ℕ → Bool
starts b [] = false
starts b (c ∷ s) = eqb c b

abbrev pub at_most : ℕ → Numeral → Numeral
at_most most g = cond (g.found && leb g.value most) g no_numeral

-- 'fields parted by one tab'
unfoldable pub field_of : ℕ → List ℕ → Numeral
field_of most s = cond (starts tab s) (at_most most (number_of (drop 1 s))) no_numeral

pub record Values : Type 0 where
  pub found : Bool
  pub values : List ℕ
  pub rest : List ℕ

abbrev pub valued : List ℕ → List ℕ → Values
valued vs s = record { found = true; values = vs; rest = s }

abbrev pub no_values : Values
no_values = record { found = false; values = []; rest = [] }

-- the numbers vs before those of r
abbrev pub before : List ℕ → Values → Values
before vs r = record { found = r.found; values = vs ++ r.values; rest = r.rest }

unfoldable pub fields_of : ℕ → ℕ → List ℕ → Values
fields_of most zero s = valued [] s
fields_of most (suc n) s =
    cond (field_of most s).found (before ((field_of most s).value ∷ []) (fields_of most n (field_of most s).rest)) no_values

-- 'each line ended by a line feed'
abbrev pub ended : Values → Values
ended r = cond (r.found && starts feed r.rest) (valued r.values (drop 1 r.rest)) no_values

unfoldable pub line_of : ℕ → ℕ → ℕ → List ℕ → Values
line_of b most n s = cond (starts b s) (ended (fields_of most n (drop 1 s))) no_values

-- 'one `R` line a row with its pixels; nothing after'; 'pixels to 255'
unfoldable pub rows_of : ℕ → ℕ → List ℕ → Values
rows_of zero w [] = valued [] []
rows_of zero w (c ∷ s) = no_values
rows_of (suc h) w s = cond (line_of 82 255 w s).found (before (line_of 82 255 w s).values (rows_of h w (line_of 82 255 w s).rest)) no_values
