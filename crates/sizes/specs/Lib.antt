-- What the contracts of the crate `sizes` cite.
--   Sums       size sums of lines and frames
--   Line       the call `sums_of_line`: its rules, and what it leaves
--   Frame      the call `sums_of_frame`: its rules, and what it leaves
--   Rose       the calls `rose` and `rose_refusal`: their rules, and what they hand back
--   Summary    the call `summarize`: its rules, and what it hands back
--   Steps      what the private parts keep to
pub mod Sums
pub mod Line
pub mod Frame
pub mod Rose
pub mod Summary
pub mod Steps
