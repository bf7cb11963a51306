-- What the contracts of the crate `line` cite.
--   Windows                       windows of a line; its erosion, dilation and opening
--   Erosion, Dilation, Opening    the three calls: their rules, and what they leave
--   Passes                        what the private passes keep to
pub mod Windows
pub mod Erosion
pub mod Dilation
pub mod Opening
pub mod Passes
