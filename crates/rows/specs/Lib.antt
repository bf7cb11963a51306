-- What the contracts of the crate `rows` cite.
--   Rows      rows of a frame, the lines that cross them, and what a pass leaves
--   Down      what the private passes keep to where lines go down the rows
--   Slants    what they keep to where lines go along the rows, and bend
pub mod Rows
pub mod Down
pub mod Slants
