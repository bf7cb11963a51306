-- The laws of bridge/specs.
--   Openings    the opening at a pixel is the greatest level among the listed stretches, at least as long as the window, that hold it
--   Chain       the stretches that hold a pixel are a chain, each one's base the next one's level
--   Sizes       bins and rest from the stretches; together they are the total of the pixels
--   Examples    what the program sums prints for document 01's example
pub mod Openings
pub mod Chain
pub mod Sizes
pub mod Examples
