-- What the statements of the reader's page are about, beside the definitions of the crates below.
--   Marked      the marked examples P1 to P12, as one table
--   Settled     demand 1 of one call
--   Equation    equation (3), the pixels that a length stands for, the highest opening and its direction, and a part of a slice, in facts
--   Texts       the example of the two programs, byte by byte; an input that is allowed
pub mod Marked
pub mod Settled
pub mod Equation
pub mod Texts
