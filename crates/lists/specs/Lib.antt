-- Lists of numbers: the definitions that more than one crate needs.
--   Tables      lists made one place after the other: each, keep, table, those
--   Members     what holds of each member of a list
--   Extremes    the least, the greatest and the total of a list
--   Stores      what a storing loop leaves of a list; values at the front of a destination
pub mod Tables
pub mod Members
pub mod Extremes
pub mod Stores
