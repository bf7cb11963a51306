-- The laws of lists/specs, for every crate above.
--   Cases       the two cases of an order; what a conjunction of tests says
--   Tables      lengths and values of tables
--   Members     what holds of each member of a list; where a member stands
--   Extremes    least, greatest and total by their bounds
--   Stores      a storing loop: none stored, one more, one stretch after another
--   Picks       lists of those numbers that a test picks: what stands in them, and what they are
--   Sums        totals of totals, by rows or by columns
--   Parts       a part of a list, lent and put back
--   Totals      totals against their entries, and the difference of two totals
pub mod Cases
pub mod Tables
pub mod Members
pub mod Extremes
pub mod Stores
pub mod Picks
pub mod Sums
pub mod Parts
pub mod Totals
