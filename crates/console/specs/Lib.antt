-- What both programs do with standard input and output (document 01, 'The two programs').
--   Streams   what can be said of a reading and a writing
pub mod Streams
