-- The laws of frame/specs. What document 01 says of directions, lines and frames:
--   Directions     the sixteen ascend, and are directions
--   Lengths        the count of pixels that a length stands for exists and is one; how it grows
--   Pixels         every pixel is on exactly one line; a line's pixels are an interval, and so are the numbers of the lines
--   Opposites      (p, q) and (−p, −q) have the same lines
--   ByLines        a frame treated line by line: one outcome; each pixel has the value at its place on its own line
--   Light          the totals of a frame's lines add up to the total of its pixels
--   Examples       P11 and P12; the lengths of order 2
-- What the code and the crates above need:
--   Numbers        line numbers as differences; the index of a number
--   Rounding       the rounding r
--   Signs          signed numbers at the machine's edge
--   Shapes         what an accepted frame, an accepted direction and their sweep keep to
--   Walks          the sweep has document 01's lines
--   Spans          at which major coordinates lines have their pixels
--   Tracks         where a line is, from its number
--   Firsts         the numbers of the lines, at the machine's edge
--   Partition      no two pixels share a byte
--   Spots          a pixel among others, and on its line of the sweep
--   Paintings      painted frames
--   Alongs         along, a line is a row
pub mod Directions
pub mod Numbers
pub mod Rounding
pub mod Signs
pub mod Shapes
pub mod Lengths
pub mod Walks
pub mod Spans
pub mod Pixels
pub mod Alongs
pub mod Opposites
pub mod Examples
pub mod Tracks
pub mod Firsts
pub mod Partition
pub mod Spots
pub mod ByLines
pub mod Paintings
pub mod Light
