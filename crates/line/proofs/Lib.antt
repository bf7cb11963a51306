-- The laws of line/specs.
--   Windows     the darkest of a window, and a value of a dilation and of an opening, by their bounds
--   Passes      from windows of one length to longer ones; from erosion and dilation to the opening
--   Rims        a line that is dark beyond its end: passes with a value at every pixel
--   Padding     zeros before and behind a line do not change its opening
--   Parts       a pass over bytes (crate passes), as the windows' passes take it
--   Calls       what a done answer says of a call's numbers
--   Laws        what a reader may want to know of the definitions and the calls
--   Examples    P1 to P6, computed from the definitions
pub mod Windows
pub mod Passes
pub mod Rims
pub mod Padding
pub mod Parts
pub mod Calls
pub mod Laws
pub mod Examples
