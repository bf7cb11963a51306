-- What the contracts of `stretch` cite, on lists of numbers: no width of a pixel is known here.
--   Stretches    what a bright stretch of a line is, and the list of them
--   Reading      how one reading of the line makes the list, and one step of it: the model of the code
--   Generator    the calls `begin` and `next`: that step, with its open runs in the lent scratch
--   Nesting      which stretch of the list encloses which, the list with that as a fifth number, and the call `enclosers`
--   Listing      the call `list`: its rules, and what it leaves
--   Steps        what the parts of a step, of a nesting and of a listing keep to
pub mod Stretches
pub mod Reading
pub mod Generator
pub mod Nesting
pub mod Listing
pub mod Steps
