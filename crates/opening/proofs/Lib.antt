-- The laws of opening/specs.
--   Bands       a frame treated row by row
--   Lines       a frame treated line by line
--   Along       along, a line is a row
--   Inplace     a frame copied, and opened where it stands
--   Leaders     the greatest of some numbers, and the first that reaches it, one number more
--   Calls       what a done answer says of a call's numbers
--   Laws        one input allows one outcome of each call
--   Examples    a frame with a strand, written out
pub mod Bands
pub mod Lines
pub mod Along
pub mod Inplace
pub mod Leaders
pub mod Calls
pub mod Laws
pub mod Examples
