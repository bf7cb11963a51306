-- What the contracts of the crate `passes` cite.
--   Passes    a pixel and its partner, and what a pass leaves
pub mod Passes
