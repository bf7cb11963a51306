-- The laws of sizes/specs.
--   Bins         bins and rest of a line together are the total of its pixels
--   Spreads      bins and rest by length, from those by pixels
--   Lights       bins and rest from the stretches, one after the other
--   Gathered     a frame's sums from those of its lines; together they are the total of its pixels
--   Rows         the rose, row by row; no sum is the largest number of 64 bits
--   Calls        what the calls know once they are not refused, and what they leave
--   Summaries    totals by weights, and the summary case by case
--   Examples     sums and summary of document 01's example; sums of a slanted frame
pub mod Bins
pub mod Spreads
pub mod Lights
pub mod Calls
pub mod Gathered
pub mod Rows
pub mod Summaries
pub mod Examples
