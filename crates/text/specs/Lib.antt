-- The texts of the two programs (document 01, 'The two programs').
--   Decimal     a number as decimal text
--   Lines       lines of text: a letter and fields
--   Sums        the sums text, and the call that writes it
--   Reading     reading numbers, lines and rows
--   Inputs      the programs' input, and the call that reads it
--   Steps       what the private parts of reading keep to
--   Stretches   what is printed of a line and of a refusal, and the calls that write it
pub mod Decimal
pub mod Lines
pub mod Sums
pub mod Reading
pub mod Inputs
pub mod Steps
pub mod Stretches
