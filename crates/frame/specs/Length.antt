-- The pixels that a length stands for in a direction (document 02, order 2).
--   square n             n²
--   reaches a b L k      k pixels of a direction with the numbers a and b, signs apart, are at least as long as L pixels along a row
--   first_from test k n  the first number from k on that passes the test, and k + n where none of the n before it does
--   count_for a b L      the smallest count from 1 up that reaches; L itself does, so L − 1 tests are enough
--   pixels_for d L       the same of a direction: the pixels along its lines that a length L stands for
--   is_measured d L      d is a direction, and L a length that a call on frames may ask for
--   pixels_or_none d L   what `pixels_for` hands back
--   counts_to d n        the pixels that each of the lengths 1 to n stands for
--   counts_of d room     what `count_lengths` leaves in a room for counts
-- Laws: frame/proofs/Lengths.
use Rattle.std.specs.Prelude.{Bool, not, cond, ◌&&◌, List, ℕ, zero, suc, ◌+◌, ◌-◌, ◌*◌, max, leb, length, nat_abs}
use Rattle.lists.specs.Tables.{table}
use Rattle.answer.specs.Limits.{longest}
use Rattle.answer.specs.Rules.{outside}
use Rattle.frame.specs.declared.direction.Direction.{Direction}
use Rattle.frame.specs.Direction.{is_direction}

abbrev pub square : ℕ → ℕ
square n = n * n

-- '(k−1)²·(p²+q²) ≥ (L−1)²·m², m the greater of |p| and |q|'
abbrev pub reaches : ℕ → ℕ → ℕ → ℕ → Bool
reaches a b L k = leb (square (L - 1) * square (max a b)) (square (k - 1) * (square a + square b))

unfoldable pub first_from : (ℕ → Bool) → ℕ → ℕ → ℕ
first_from test k zero = k
first_from test k (suc n) = cond (test k) k (first_from test (suc k) n)

-- 'k is the smallest count from 1 up with ..'
abbrev pub count_for : ℕ → ℕ → ℕ → ℕ
count_for a b L = first_from (reaches a b L) 1 (L - 1)

-- 'For a frame call, length L in direction (p, q) now means k pixels'
abbrev pub pixels_for : Direction → ℕ → ℕ
pixels_for d L = count_for (nat_abs d.p) (nat_abs d.q) L

-- 'A length L is 1 to 4,096', and 'the rest is the sum for length K+1 (4,097 is meant here too)'
abbrev pub is_measured : Direction → ℕ → Bool
is_measured d L = is_direction d && not (outside 1 (longest + 1) L)

-- 0 where there is nothing to count: every length stands for a pixel at least
abbrev pub pixels_or_none : Direction → ℕ → ℕ
pixels_or_none d L = cond (is_measured d L) (pixels_for d L) 0

abbrev pub counts_to : Direction → ℕ → List ℕ
counts_to d n = table (λ (i : ℕ). pixels_for d (suc i)) n

-- as many as there is room for; nothing changes where d is no direction, or the last of them no such length
abbrev pub counts_of : Direction → List ℕ → List ℕ
counts_of d room = cond (is_measured d (length room)) (counts_to d (length room)) room
