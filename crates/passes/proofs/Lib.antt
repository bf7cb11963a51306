-- The laws of passes/specs.
--   Blocks    a pass by blocks, in place, whatever its partners are
pub mod Blocks
