-- The limits of document 01, each by one name.
use Rattle.std.specs.Prelude.{ℕ}

-- 'W and H are 1 to 4,096'; 'A length L is 1 to 4,096'; 'a line of n pixels, 1 to 4,096'; 'm + L − 1 at most 4,096'; 'K bins (1 to 4,096)'
abbrev pub longest : ℕ
longest = 4096

-- 'the stride is W to 65,535'
abbrev pub widest : ℕ
widest = 65535

-- 'A direction is a pair (p, q), each −255 to 255'
abbrev pub steepest : ℕ
steepest = 255
