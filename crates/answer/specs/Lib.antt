-- What the contracts of all numbered calls cite.
--   Limits      the limits of document 01, by name
--   Rules       the table of refusals: a call's rules as a list, and the answer of the first broken one
--   Refusals    the same refusals as the calls hand them back, and the two numbers of each
pub mod Limits
pub mod Rules
pub mod Refusals
