-- The laws of text/specs.
--   Decimals    the decimal text of a number, one digit more; how long it is
--   Runs        runs of stores, one after the other; fields and lines
--   Texts       the sums text
--   Readings    what the tests of a reading say
--   Goings      reading values one after the other: fields, lines and rows
--   Frames      what a text holds that is read as a frame, and what the call leaves
--   Inputs      what is read is there as text, and what is there as text is read
--   Reports     what is printed of a line and of a refusal
--   Printings   the stretches of a line, found one after the other, and the `Z` line of each
pub mod Decimals
pub mod Runs
pub mod Texts
pub mod Readings
pub mod Goings
pub mod Frames
pub mod Inputs
pub mod Reports
pub mod Printings
