-- The laws of gathering/specs.
--   Calls       what the calls on a line answer, and what they know once they are not refused
--   Puts        values put at places
--   Claimings   the test of a claim
--   PutLines    values put back to a line of a frame, pixel by pixel
--   Walks       the places of a line, one after the other
--   LentRows    the lent row; along, a line is a row
pub mod Calls
pub mod Puts
pub mod Claimings
pub mod PutLines
pub mod Walks
pub mod LentRows
