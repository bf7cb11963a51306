-- The laws of rows/specs.
--   Rowwise     rows treated one after the other
--   Lines       a frame's lines, that go any way, and their opening
--   Acceptance  what the two openings ask for, and what they leave
-- Where lines go down the rows:
--   Sides       one row's part of a pass
--   Extremes    the darkest, or the brightest, of numbers in a row
--   Blocks      rows by blocks, in the order of a pass
--   Opened      the opening, from an erosion and a dilation by blocks
--   Diagonals   lines of slope 1, along the rows and down them
--   Downs       the lines of a direction that goes down
-- Where lines go along the rows, and bend:
--   Bends       which columns of a row bend
--   Slants      one row's part of a pass, and a pass over all rows
--   Growths     the passes of an opening, line by line
--   Shallows    the lines of a shallow direction
pub mod Rowwise
pub mod Lines
pub mod Acceptance
pub mod Sides
pub mod Extremes
pub mod Blocks
pub mod Opened
pub mod Diagonals
pub mod Downs
pub mod Bends
pub mod Slants
pub mod Growths
pub mod Shallows
