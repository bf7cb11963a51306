-- Directions (document 01, 'Directions and their lines').
--   dir p q           the pair (p, q)
--   in_range d        each of its numbers is −255 to 255
--   is_direction d    it is in range, and not both numbers are 0
--   shallow d         it is shallow; else it is steep
--   goes_down d       its lines go down the rows, one pixel a row: it is steep or a diagonal
--   straight d        its lines are rows or columns: one of its numbers is 0
--   opposite d        p and q have opposite signs
--   sign d            its sign s
--   turned_of d       d turned by a quarter
--   along, across     the two with a name
--   sixteen           the numbered directions, in their order
--   numbered_of n     the direction of a number
--   cross d e         p·v − q·u of d = (p, q) and e = (u, v)
-- Laws: frame/proofs/Directions, Lengths.
use Rattle.std.specs.Prelude.{Bool, not, cond, ◌&&◌, ◌||◌, List, [], ◌∷◌, ℕ, leb, eqb, get_or, ℤ, pos, negsuc, neg_ℤ, nat_abs, ◌-ℤ◌, ◌*ℤ◌}
use Rattle.std.specs.Int.Signed.{lt_z}
use Rattle.answer.specs.Limits.{steepest}
use Rattle.frame.specs.declared.direction.Direction.{Direction}

abbrev pub dir : ℤ → ℤ → Direction
dir p q = record { p = p; q = q }

-- 'A direction is a pair (p, q), each −255 to 255, not both 0.'
abbrev pub in_range : Direction → Bool
in_range d = leb (nat_abs d.p) steepest && leb (nat_abs d.q) steepest

abbrev pub is_direction : Direction → Bool
is_direction d = in_range d && not (eqb (nat_abs d.p) 0 && eqb (nat_abs d.q) 0)

-- 'It is shallow when |q| ≤ |p|, else steep.'
abbrev pub shallow : Direction → Bool
shallow d = leb (nat_abs d.q) (nat_abs d.p)

abbrev pub goes_down : Direction → Bool
goes_down d = leb (nat_abs d.p) (nat_abs d.q)

-- a number that is 0: the lines do not slant, and a length counts their pixels
abbrev pub straight : Direction → Bool
straight d = eqb (nat_abs d.p) 0 || eqb (nat_abs d.q) 0

-- 'Its sign s is −1 when p and q have opposite signs, else +1.'
abbrev pub opposite : Direction → Bool
opposite d = (lt_z d.p (pos 0) && lt_z (pos 0) d.q) || (lt_z (pos 0) d.p && lt_z d.q (pos 0))

abbrev pub sign : Direction → ℤ
sign d = cond (opposite d) (negsuc 0) (pos 1)

-- 'A direction turned by a quarter hands back (−q, p); a pair out of range comes back as it was.'
abbrev pub turned_of : Direction → Direction
turned_of d = cond (in_range d) (dir (neg_ℤ d.q) d.p) d

-- 'The direction type carries the names Along = (1, 0) and Across = (0, 1).'
abbrev pub along : Direction
along = dir (pos 1) (pos 0)

abbrev pub across : Direction
across = dir (pos 0) (pos 1)

-- 'The sixteen numbered directions, 0 to 15'
abbrev pub sixteen : List Direction
sixteen =
    along ∷ dir (pos 4) (pos 1) ∷ dir (pos 2) (pos 1) ∷ dir (pos 4) (pos 3)
    ∷ dir (pos 1) (pos 1) ∷ dir (pos 3) (pos 4) ∷ dir (pos 1) (pos 2) ∷ dir (pos 1) (pos 4)
    ∷ across ∷ dir (negsuc 0) (pos 4) ∷ dir (negsuc 0) (pos 2) ∷ dir (negsuc 2) (pos 4)
    ∷ dir (negsuc 0) (pos 1) ∷ dir (negsuc 3) (pos 3) ∷ dir (negsuc 1) (pos 1) ∷ dir (negsuc 3) (pos 1)
    ∷ []

-- 'A number above 15 names the pair (0, 0), which every call refuses.'
abbrev pub numbered_of : ℕ → Direction
numbered_of n = get_or sixteen n (dir (pos 0) (pos 0))

-- 'For each neighbouring pair (p, q), (u, v) in this order, p·v − q·u is above 0'
abbrev pub cross : Direction → Direction → ℤ
cross d e = d.p *ℤ e.q -ℤ d.q *ℤ e.p
