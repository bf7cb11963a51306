-- What the contracts of the crate `frame` cite.
--   Direction                 directions, and the sixteen that have a number
--   Shape                     the shape of a frame
--   Length                    the pixels that a length stands for in a direction
--   Lines                     the lines of a frame in a direction, and what a line reads
--   Painted, ByLines          a frame painted pixel by pixel, and one treated line by line
--   Sweep, Span               the lines in unsigned numbers: for the code, and for the crates whose calls walk along lines
pub mod Direction
pub mod Shape
pub mod Length
pub mod Lines
pub mod Painted
pub mod ByLines
pub mod Sweep
pub mod Span
