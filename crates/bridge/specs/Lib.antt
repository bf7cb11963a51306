-- What the laws between windows and stretches are about.
--   Reach    the openings of a line from its listed stretches
--   Sums     the size sums of a line, and the same from its stretches
pub mod Reach
pub mod Sums
